-- The ids of paragraphs that are put somewhere, against the order that is given for them.
use Rattle.std.proofs.Common.{◌≡◌, ℕ, List, [], ◌∷◌, map, Some, refl, ap, ◌∙◌, inl, inr, filter, nat_eq, not}
use Rattle.std.proofs.lemmas.Bool.{cases_Bool}
use Rattle.std.proofs.lemmas.List.{map-append}
use Rattle.desk_model.specs.declared.command.Anchor.{Anchor}
use Rattle.desk_model.specs.declared.command.Anchor.TheVariants.{Front, End, Para}
use Rattle.desk_model.specs.Book.{Book, Paragraph, paragraph_of}
use Rattle.desk_memory.specs.Held.{HeldParagraphs, ids, paragraph_held, with_id, with_id_moved}
use Rattle.desk_model.proofs.Books.ParagraphLists.{ids_of, without_paragraph}
use Rattle.desk_model.specs.NextBook.{is_after, with_move, with_paragraph}

pub ids_of-held : (held : HeldParagraphs) → ids_of (map paragraph_held held) ≡ ids held
ids_of-held [] = refl
ids_of-held ((id, p) ∷ held) = ap (λ (t : List ℕ). id ∷ t) (ids_of-held held)

ids_of-behind : (id : ℕ) (new : Paragraph) (ps : List Paragraph) → ids_of (with_paragraph (Para id) new ps) ≡ with_id (Para id) new.id (ids_of ps)
ids_of-behind id new [] = refl
ids_of-behind id new (p ∷ ps) =
    elim (cases_Bool (nat_eq p.id id)) [
      | inl e ↦ rw e (ap (λ (t : List ℕ). p.id ∷ new.id ∷ t) (ids_of-behind id new ps))
      | inr e ↦ rw e (ap (λ (t : List ℕ). p.id ∷ t) (ids_of-behind id new ps))
    ]

pub ids_of-with_paragraph : (anchor : Anchor) (new : Paragraph) (ps : List Paragraph) → ids_of (with_paragraph anchor new ps) ≡ with_id anchor new.id (ids_of ps)
ids_of-with_paragraph Front new ps = refl
ids_of-with_paragraph End new ps = map-append (λ (p : Paragraph). p.id) ps (new ∷ [])
ids_of-with_paragraph (Para id) new ps = ids_of-behind id new ps

ids_of-without : (id : ℕ) (ps : List Paragraph) → ids_of (without_paragraph id ps) ≡ filter (λ other. not (nat_eq other id)) (ids_of ps)
ids_of-without id [] = refl
ids_of-without id (p ∷ ps) =
    elim (cases_Bool (nat_eq p.id id)) [
      | inl e ↦ rw e (ids_of-without id ps)
      | inr e ↦ rw e (ap (λ (t : List ℕ). p.id ∷ t) (ids_of-without id ps))
    ]

pub ids_of-with_move : (book : Book) (id : ℕ) (anchor : Anchor) (p : Paragraph) → paragraph_of book id ≡ Some p → p.id ≡ id → ids_of (with_move id anchor book) ≡ with_id_moved anchor id (ids_of book.paragraphs)
ids_of-with_move book id anchor p found same =
    elim (cases_Bool (is_after id anchor)) [
      | inl e ↦ rw e refl
      | inr e ↦ rw (e, found) (ids_of-with_paragraph anchor p (without_paragraph id book.paragraphs)
          ∙ (ap (λ (n : ℕ). with_id anchor n (ids_of (without_paragraph id book.paragraphs))) same
          ∙ ap (with_id anchor id) (ids_of-without id book.paragraphs)))
    ]
