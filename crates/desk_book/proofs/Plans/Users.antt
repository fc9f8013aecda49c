-- The paragraphs that use a table, one after the other.
use Rattle.std.proofs.Common.{◌≡◌, ℕ, zero, suc, ◌+◌, ◌-◌, ◌<◌, ◌≤◌, List, [], ◌∷◌, ◌++◌, length, get_or, Option, Some, None, refl, sym, ap, subst, ◌∙◌, arith, inl, inr}
use Rattle.std.specs.List.{All}
use Rattle.std.specs.Prelude.{slice_get, MatchOption, ◌≢◌}
use Rattle.std.proofs.lemmas.Bool.{cases_eq}
use Rattle.std.proofs.lemmas.List.Elements.{All-contains, All-nil, Contains-get_or}
use Rattle.std.proofs.lemmas.Option.{slice_get-get_or, same_Some}
use Rattle.louis_table.specs.Meaning.{Meaning}
use Rattle.louis_translate.specs.Position.{AreDefined, IsFirstUndefined}
use Rattle.desk_memory.specs.declared.paragraphs.Paragraph.{Paragraph as HeldParagraph}
use Rattle.desk_model.specs.Book.{Book, Paragraph, paragraph_of}
use Rattle.desk_book.specs.Changes.{AreRenewed}
use Rattle.desk_memory.specs.Braille.{AreCellsOf}
use Rattle.desk_memory.specs.Held.{paragraph_held}
use Rattle.desk_model.specs.Refusals.{DefinesUser, IsFirstUser}
use Rattle.desk_book.specs.Plans.{IsHeldFor}
use Rattle.desk_model.specs.Print.{print_of}
use Rattle.desk_model.specs.Sound.{IsSound}
use Rattle.desk_model.proofs.Books.ParagraphLists.{Contains-found}
use Rattle.desk_model.proofs.Commands.FirstUndefined.{IsFirstUser-later}
use Rattle.desk_model.proofs.Books.SoundBooks.{paragraph_of-own, paragraph_of-within}
use Rattle.desk_model.proofs.Lists.Items.{push-cases}

-- ---- each in the order of the book

-- those before a place that use the table have prints that it defines
abbrev pub DefinesUsersBelow : Meaning → List ℕ → List Paragraph → ℕ → Type 0
DefinesUsersBelow meaning name ps n = (k : ℕ) (p : Paragraph) → k < n → slice_get ps k ≡ Some p → DefinesUser meaning name p

module _ (meaning : Meaning) (name : List ℕ) where
  pub DefinesUsersBelow-more : (ps : List Paragraph) (n : ℕ) → DefinesUsersBelow meaning name ps n → ((p : Paragraph) → slice_get ps n ≡ Some p → DefinesUser meaning name p) → DefinesUsersBelow meaning name ps (n + 1)
  DefinesUsersBelow-more ps n below here k p lt at =
      elim (cases_eq k n) [
        | inl same ↦ here p (ap (slice_get ps) (sym same) ∙ at)
        | inr other ↦ below k p (omega arith) at
      ]

  pub DefinesUsersBelow-all : (ps : List Paragraph) (n : ℕ) → length ps ≤ n → DefinesUsersBelow meaning name ps n → All (DefinesUser meaning name) ps
  DefinesUsersBelow-all ps n many below k d lt = below k (get_or ps k d) (omega arith) (slice_get-get_or ps k d lt)

  pub DefinesUser-held : (ps : List Paragraph) (n id : ℕ) (held : HeldParagraph) → (slice_get ps n ≡ Some (paragraph_held (id, held))) × (held.print ≡ print_of (paragraph_held (id, held)))
      → (held.table ≡ name → AreDefined meaning held.print) → (p : Paragraph) → slice_get ps n ≡ Some p → DefinesUser meaning name p
  DefinesUser-held ps n id held (at, print) defined p e =
      subst (DefinesUser meaning name) (same_Some (paragraph_held (id, held)) p (sym at ∙ e)) (λ uses. subst (AreDefined meaning) print (defined uses))

  pub IsFirstUser-at : (ps : List Paragraph) (n place : ℕ) (p : Paragraph) → slice_get ps n ≡ Some p → DefinesUsersBelow meaning name ps n → p.table ≡ name → IsFirstUndefined meaning (print_of p) place → IsFirstUser meaning name ps p.id place
  IsFirstUser-at [] n place p at below uses first = absurd (cc)
  IsFirstUser-at (q ∷ ps) zero place p at below uses first = record {
    before = [];
    paragraph = p;
    after = ps;
    parts = let same : q ≡ p = cc in ap (λ (r : Paragraph). r ∷ ps) same;
    uses = uses;
    reported = refl;
    first = first;
    others = All-nil (DefinesUser meaning name);
  }
  IsFirstUser-at (q ∷ ps) (suc n) place p at below uses first =
      IsFirstUser-later meaning name q ps p.id place (below 0 q (omega arith) refl)
      (IsFirstUser-at ps n place p at (λ k r lt here. below (suc k) r (omega arith) here) uses first)

-- ---- each by its id

-- the cells are new for the book's paragraph with this id, if it uses the table
abbrev pub Renews : Book → Meaning → List ℕ → ℕ → Option (List ℕ) → Type 0
Renews book meaning name id cells =
    (p : Paragraph) → paragraph_of book id ≡ Some p → MatchOption cells (p.table ≢ name) (λ new. (p.table ≡ name) × AreCellsOf meaning (print_of p) new)

pub Renews-found : (book : Book) (meaning : Meaning) (name : List ℕ) (id : ℕ) (held : HeldParagraph) (cells : Option (List ℕ)) → IsHeldFor book id held
    → MatchOption cells (held.table ≢ name) (λ new. (held.table ≡ name) × AreCellsOf meaning held.print new) → Renews book meaning name id cells
Renews-found book meaning name id held cells k given p e =
    let same : paragraph_held (id, held) ≡ p = same_Some (paragraph_held (id, held)) p (sym k.found ∙ e) in
    subst (λ (q : Paragraph). MatchOption cells (q.table ≢ name) (λ new. (q.table ≡ name) × AreCellsOf meaning (print_of q) new)) same
    (subst (λ (t : List ℕ). MatchOption cells (held.table ≢ name) (λ new. (held.table ≡ name) × AreCellsOf meaning t new)) k.print given)

pub Renews-missing : (book : Book) (meaning : Meaning) (name : List ℕ) (id : ℕ) (cells : Option (List ℕ)) → paragraph_of book id ≡ None → Renews book meaning name id cells
Renews-missing book meaning name id cells none p e = absurd (cc)

-- the items are so for the ids from 1 on
abbrev pub RenewsEach : Book → Meaning → List ℕ → List (Option (List ℕ)) → Type 0
RenewsEach book meaning name cells = (k : ℕ) (item : Option (List ℕ)) → slice_get cells k ≡ Some item → Renews book meaning name (k + 1) item

module _ (book : Book) (meaning : Meaning) (name : List ℕ) where
  pub RenewsEach-push : (cells : List (Option (List ℕ))) (new : Option (List ℕ)) (n : ℕ) → n ≡ length cells → RenewsEach book meaning name cells → Renews book meaning name (n + 1) new → RenewsEach book meaning name (cells ++ new ∷ [])
  RenewsEach-push cells new n many each here k item e =
      elim (push-cases cells new k item e) [
        | inl h ↦ each k item h.1
        | inr h ↦
            let same : n + 1 ≡ k + 1 = omega (arith, h.0) in
            subst (λ (i : ℕ). Renews book meaning name i item) same (subst (Renews book meaning name (n + 1)) h.1 here)
      ]

  pub AreRenewed-each : IsSound book → (cells : List (Option (List ℕ))) → length cells ≡ length book.paragraphs → RenewsEach book meaning name cells → AreRenewed book name meaning cells
  AreRenewed-each sound cells many each k d lt =
      let p = get_or book.paragraphs k d in
      let found = paragraph_of-own book sound p (Contains-get_or book.paragraphs k d lt) in
      let within = paragraph_of-within book sound p.id p found in
      let item = get_or cells (p.id - 1) None in
      let at = slice_get-get_or cells (p.id - 1) None (omega arith) in
      let same : p.id - 1 + 1 ≡ p.id = omega arith in
      rw at (subst (λ (i : ℕ). Renews book meaning name i item) same (each (p.id - 1) item at) p found)

-- the paragraph that is found has a print that the table defines, if it uses the table
pub DefinesUser-found : (book : Book) (meaning : Meaning) (name : List ℕ) (id : ℕ) (p : Paragraph) → All (DefinesUser meaning name) book.paragraphs → paragraph_of book id ≡ Some p → DefinesUser meaning name p
DefinesUser-found book meaning name id p defined found = All-contains (DefinesUser meaning name) book.paragraphs p defined (Contains-found id book.paragraphs p found)
