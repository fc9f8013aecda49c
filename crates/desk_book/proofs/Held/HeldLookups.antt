-- What is found among held tables and paragraphs, against what the book that they stand for has.
use Rattle.std.proofs.Common.{◌≡◌, ℕ, List, map, length, get_or, Option, Some, None, Contains, Result, refl, sym, ap, subst, ◌∙◌}
use Rattle.std.specs.Cmp.Lexicographic.{pointwise}
use Rattle.std.specs.Map.{lookup}
use Rattle.std.specs.Borrow.{Bor}
use Rattle.std.specs.Option.{ok_or, option_copied}
use Rattle.std.specs.Prelude.{nat_eq, option_map, slice_get, IfErr, IfOk, IfSome, IsSome}
use Rattle.std.proofs.lemmas.List.Elements.{Contains-get_or}
use Rattle.std.proofs.lemmas.List.{length-map}
use Rattle.std.proofs.lemmas.Option.{get_or_from_slice_get, slice_get-map, slice_get_within}
use Rattle.std.proofs.lemmas.Map.Entries.{All-lookup}
use Rattle.louis_table.specs.Table.{Means}
use Rattle.desk_memory.specs.declared.marks.HeldMark.{HeldMark}
use Rattle.desk_memory.specs.declared.paragraphs.Paragraph.{Paragraph as HeldParagraph}
use Rattle.desk_memory.specs.declared.tables.BookTable.{BookTable}
use Rattle.desk_model.specs.Book.{Book, Paragraph, paragraph_of, text_of}
use Rattle.desk_memory.specs.Held.{HeldTables, HeldParagraphs, IsHeld, IsHeldParagraph, book_held, ids, paragraph_held}
use Rattle.desk_model.specs.Print.{print_of}
use Rattle.desk_model.specs.Sound.{IsSound}
use Rattle.desk_book.specs.Plans.{AreThere, IsHeldFor, IsTableFor}
use Rattle.desk_memory.proofs.Callers.{All-found, found-held, ids_of-held}
use Rattle.desk_model.proofs.Lists.Items.{lookup-map}
use Rattle.desk_model.proofs.Lists.Members.{Contains-map}
use Rattle.desk_model.proofs.Books.ParagraphLists.{Contains-found, id-found, ids_of}
use Rattle.desk_model.proofs.Books.SoundBooks.{paragraph_of-own}

-- ---- what `ok_or` gives

module _ {X E : Type 0} where
  pub IfOk-ok_or : (o : Option X) (d : E) (r : Result X E) → r ≡ ok_or o d → (P : X → Type 0) → ((x : X) → o ≡ Some x → P x) → IfOk r P
  IfOk-ok_or None d r is P h = rw is tt
  IfOk-ok_or (Some x) d r is P h = rw is (h x refl)

  pub IfErr-ok_or : (o : Option X) (d : E) (r : Result X E) → r ≡ ok_or o d → (P : E → Type 0) → (o ≡ None → P d) → IfErr r P
  IfErr-ok_or None d r is P h = rw is (h refl)
  IfErr-ok_or (Some x) d r is P h = rw is tt

-- ---- in a book

module _ (version : ℕ) (tables : HeldTables) (held : HeldParagraphs) (marks : List HeldMark) (book : Book) (is : book_held version tables held marks ≡ book) where
  pub paragraph_of-held : (id : ℕ) → paragraph_of book id ≡ option_map (λ p. paragraph_held (id, p)) (lookup (nat_eq id) held)
  paragraph_of-held id = rw (← is) (found-held id held)

  pub missing : (id : ℕ) (lent : Option (Bor HeldParagraph)) → option_copied lent ≡ lookup (nat_eq id) held → lent ≡ None → paragraph_of book id ≡ None
  missing id lent found none = paragraph_of-held id ∙ ap (option_map (λ p. paragraph_held (id, p))) (sym found ∙ ap option_copied none)

  pub text_of-held : (name : List ℕ) → text_of book name ≡ option_map (λ table. table.text) (lookup (pointwise nat_eq name) tables)
  text_of-held name = rw (← is) (lookup-map (pointwise nat_eq name) (λ (table : BookTable). table.text) tables)

  pub ids_of-book : ids_of book.paragraphs ≡ ids held
  ids_of-book = rw (← is) (ids_of-held held)

  pub count-paragraphs : length book.paragraphs ≡ length held
  count-paragraphs = rw (← is) (length-map held paragraph_held)

  -- paragraphs that are there stand in the order
  pub Contains-there : (named : List ℕ) → AreThere book named → (id : ℕ) → Contains named id → Contains (ids held) id
  Contains-there named there id c = by (paragraph_of book id) refl (there id c)
    where
      by : (o : Option Paragraph) → paragraph_of book id ≡ o → IsSome o → Contains (ids held) id
      by None e some = absurd (cc)
      by (Some p) e some =
          subst (λ (list : List ℕ). Contains list id) ids_of-book
          (subst (Contains (ids_of book.paragraphs)) (id-found id book.paragraphs p e)
          (Contains-map (λ (q : Paragraph). q.id) book.paragraphs p (Contains-found id book.paragraphs p e)))

  pub count-tables : length book.tables ≡ length tables
  count-tables = rw (← is) (length-map tables (λ (entry : List ℕ × BookTable). (entry.0, entry.1.text)))

  module _ (facts : IsHeld version tables held marks) where
    pub sound : IsSound book
    sound = subst IsSound is facts.sound

    pub IsHeldFor-lookup : (id : ℕ) (p : HeldParagraph) → lookup (nat_eq id) held ≡ Some p → IsHeldFor book id p
    IsHeldFor-lookup id p found = record {
      found = there;
      alone = λ k d lt same.
          let own = paragraph_of-own book sound (get_or book.paragraphs k d) (Contains-get_or book.paragraphs k d lt) in
          cc (ap (paragraph_of book) same, there);
      print = (All-found (IsHeldParagraph tables) id p held facts.translated found).print;
    }
      where
        there : paragraph_of book id ≡ Some (paragraph_held (id, p))
        there = paragraph_of-held id ∙ ap (option_map (λ p. paragraph_held (id, p))) found

    pub IsTableFor-lookup : (name : List ℕ) (table : BookTable) → lookup (pointwise nat_eq name) tables ≡ Some table → IsTableFor book name table
    IsTableFor-lookup name table found = record {
      found = text_of-held name ∙ ap (option_map (λ table. table.text)) found;
      means = subst (λ (o : Option BookTable). IfSome o (λ t. Means t.text t.rules)) found (All-lookup (λ t. Means t.text t.rules) (pointwise nat_eq name) tables facts.means);
    }

    pub held-at : (place id : ℕ) (p : HeldParagraph) → slice_get held place ≡ Some (id, p) → (slice_get book.paragraphs place ≡ Some (paragraph_held (id, p))) × (p.print ≡ print_of (paragraph_held (id, p)))
    held-at place id p at =
        let shown : slice_get (map paragraph_held held) place ≡ Some (paragraph_held (id, p)) = slice_get-map paragraph_held held place ∙ ap (option_map paragraph_held) at in
        let facts_here : IsHeldParagraph tables (get_or held place (id, p)) = facts.translated place (id, p) (slice_get_within held place (id, p) at) in (
          subst (λ (b : Book). slice_get b.paragraphs place ≡ Some (paragraph_held (id, p))) is shown,
          (rw (get_or_from_slice_get held place (id, p) (id, p) at) at facts_here).print,
        )

  pub held-past : (place : ℕ) → slice_get held place ≡ None → slice_get book.paragraphs place ≡ None
  held-past place past = subst (λ (b : Book). slice_get b.paragraphs place ≡ None) is (slice_get-map paragraph_held held place ∙ ap (option_map paragraph_held) past)
