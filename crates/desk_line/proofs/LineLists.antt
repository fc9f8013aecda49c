-- The lines of a request, one after another.
use Rattle.std.proofs.Common.{◌≡◌, ◌≢◌, ℕ, ◌-◌, ◌<◌, ◌≤◌, Bool, true, false, ◌&&◌, eqb, ltb, leb, List, [], length, refl, sym, ap, subst, ◌∙◌, inl, inr, arith}
use Rattle.std.proofs.lemmas.Bool.{lt-ltb, le-leb, leb-true, cases_Bool}
use Rattle.louis_table.specs.Lines.{lines_of}
use Rattle.louis_table.proofs.LineLaws.{lines_of-split}
use Rattle.desk_ends.specs.Limits.{most_line_bytes}
use Rattle.desk_line.specs.ReadingSteps.{are_lines, head_line}
use Rattle.desk_line.specs.Lines.{after_first_line}

pub not-empty : (bytes : List ℕ) → eqb (length bytes) 0 ≡ false → bytes ≢ []
not-empty bytes e n = let h : eqb (length bytes) 0 ≡ true = rw n refl in cc

-- the first line and those after it
pub are_lines-first : (bytes : List ℕ) (count : ℕ) → bytes ≢ []
    → are_lines (lines_of bytes) count
    ≡ (ltb 0 count && leb (length (head_line bytes)) most_line_bytes && are_lines (lines_of (after_first_line bytes)) (count - 1))
are_lines-first bytes count some = ap (λ (lines : List (List ℕ)). are_lines lines count) (lines_of-split bytes some)

false-and : (a b c : Bool) → a ≡ true → b ≡ true → (a && b && c) ≡ c
false-and true true c e f = refl
false-and true false c e f = absurd cc
false-and false b c e f = absurd cc

pub no-line-left : (bytes : List ℕ) → bytes ≢ [] → are_lines (lines_of bytes) 0 ≡ false
no-line-left bytes some = are_lines-first bytes 0 some

first-false : (a b c : Bool) → b ≡ false → (a && b && c) ≡ false
first-false true true c e = absurd cc
first-false true false c e = refl
first-false false b c e = refl

over : (n : ℕ) → most_line_bytes < n → leb n most_line_bytes ≡ false
over n long =
    elim (cases_Bool (leb n most_line_bytes)) [
      | inl t ↦ let h = leb-true n most_line_bytes t in absurd (omega arith)
      | inr f ↦ f
    ]

module _ (bytes line : List ℕ) (count : ℕ) (some : bytes ≢ []) (at : line ≡ head_line bytes) where
  pub line-too-long : most_line_bytes < length line → are_lines (lines_of bytes) count ≡ false
  line-too-long long =
      are_lines-first bytes count some
      ∙ first-false (ltb 0 count) (leb (length (head_line bytes)) most_line_bytes) (are_lines (lines_of (after_first_line bytes)) (count - 1)) (over (length (head_line bytes)) (subst (λ (l : List ℕ). most_line_bytes < length l) at long))

  pub line-taken : (rest : List ℕ) → rest ≡ after_first_line bytes → 0 < count → length line ≤ most_line_bytes
      → are_lines (lines_of bytes) count ≡ are_lines (lines_of rest) (count - 1)
  line-taken rest r more short =
      are_lines-first bytes count some
      ∙ (false-and (ltb 0 count) (leb (length (head_line bytes)) most_line_bytes) (are_lines (lines_of (after_first_line bytes)) (count - 1))
      (lt-ltb 0 count more) (le-leb (length (head_line bytes)) most_line_bytes (subst (λ (l : List ℕ). length l ≤ most_line_bytes) at short))
      ∙ ap (λ (b : List ℕ). are_lines (lines_of b) (count - 1)) (sym r))
