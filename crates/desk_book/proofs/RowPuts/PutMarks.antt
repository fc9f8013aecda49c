-- The marks of a paragraph whose print changes.
use Rattle.std.proofs.Common.{◌≡◌, ℕ, ◌≤◌, List, [], ◌∷◌, Some, None, refl, sym, ap, ◌∙◌, inl, inr}
use Rattle.std.specs.List.{All}
use Rattle.std.specs.Prelude.{nat_eq}
use Rattle.std.proofs.lemmas.Bool.{cases_Bool, cond-false, eqb-true}
use Rattle.std.proofs.lemmas.List.Elements.{All-filter, All-head, All-tail, All-weaker}
use Rattle.desk_model.specs.Book.{Book, Mark, paragraph_of}
use Rattle.desk_book.specs.ChangePuts.{AreSpans}
use Rattle.desk_model.specs.Limits.{most_print}
use Rattle.desk_model.specs.ParagraphMarks.{marks_on}
use Rattle.desk_model.specs.Sound.{IsSound, IsSoundMark}
use Rattle.desk_memory.proofs.Callers.{IsWithin-sound}

module _ (book : Book) (id : ℕ) (sound : IsSound book) where
  -- they stand within a print
  pub AreSpans-on : AreSpans (marks_on id book.marks)
  AreSpans-on =
      All-filter (λ (m : Mark). nat_eq m.paragraph id) (λ (m : Mark). (m.start ≤ m.end) × (m.end ≤ most_print)) book.marks
      (All-weaker (IsSoundMark book) (λ (m : Mark). (m.start ≤ m.end) × (m.end ≤ most_print)) (λ m s. IsWithin-sound book m sound s) book.marks sound.marks)

  -- a paragraph that isn't there has none
  pub none-on : paragraph_of book id ≡ None → marks_on id book.marks ≡ []
  none-on none = each book.marks sound.marks
    where
      each : (ms : List Mark) → All (IsSoundMark book) ms → marks_on id ms ≡ []
      each [] all = refl
      each (m ∷ ms) all =
          let s = All-head (IsSoundMark book) m ms all in
          elim (cases_Bool (nat_eq m.paragraph id)) [
            | inl e ↦
                let both : Some s.paragraph ≡ None = sym s.found ∙ (ap (paragraph_of book) (eqb-true m.paragraph id e) ∙ none) in
                absurd (cc)
            | inr e ↦ cond-false (nat_eq m.paragraph id) (m ∷ marks_on id ms) (marks_on id ms) e ∙ each ms (All-tail (IsSoundMark book) m ms all)
          ]
