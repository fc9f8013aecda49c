-- The lines of a block, and whether they are short.
use Rattle.std.proofs.Common.{◌≡◌, ◌≢◌, ℕ, List, [], ◌∷◌, ◌++◌, length, None, sym, ap, subst, ◌∙◌, inl, inr, arith}
use Rattle.std.specs.List.{AllByRecursion}
use Rattle.louis_table.specs.Lines.{lines_of}
use Rattle.desk_ends.specs.Lines.{IsLine, kept_line, without_ending}
use Rattle.desk_ends.proofs.ManyLines.{lines-then}
use Rattle.desk_ends.proofs.OneLine.{kept_line-none, long-line, one-line}
use Rattle.desk_line.specs.Lines.{IsShort}
use Rattle.desk_session.specs.ReadingSteps.{AreFed}

short-parts : (these those : List (List ℕ)) → AllByRecursion IsShort (these ++ those) → AllByRecursion IsShort these × AllByRecursion IsShort those
short-parts [] those all = (tt, all)
short-parts (line ∷ these) those all = let h = short-parts these those all.1 in ((all.0, h.0), h.1)

lines-more : (bytes more : List ℕ) → AreFed bytes → lines_of (bytes ++ more) ≡ lines_of bytes ++ lines_of more
lines-more bytes more (inl none) =
    ap (λ (t : List ℕ). lines_of (t ++ more)) none ∙ sym (ap (λ (t : List ℕ). lines_of t ++ lines_of more) none)
lines-more bytes more (inr (front, is)) =
    ap (λ (t : List ℕ). lines_of (t ++ more)) is
    ∙ (lines-then front more ∙ sym (ap (λ (t : List ℕ). lines_of t ++ lines_of more) is))

short-lines : (bytes more : List ℕ) → AreFed bytes → AllByRecursion IsShort (lines_of (bytes ++ more)) → AllByRecursion IsShort (lines_of bytes) × AllByRecursion IsShort (lines_of more)
short-lines bytes more fed all = short-parts (lines_of bytes) (lines_of more) (subst (AllByRecursion IsShort) (lines-more bytes more fed) all)

pub long-before : (bytes more : List ℕ) → AreFed bytes → ¬ AllByRecursion IsShort (lines_of bytes) → ¬ AllByRecursion IsShort (lines_of (bytes ++ more))
long-before bytes more fed long all = long (short-lines bytes more fed all).0

-- a line that isn't kept is too long
pub not-short : (bytes : List ℕ) → None ≡ kept_line bytes → ¬ IsShort (without_ending bytes)
not-short bytes is short = let many = long-line bytes is in absurd (omega arith)

pub long-after : (bytes more : List ℕ) → AreFed bytes → IsLine more → None ≡ kept_line more → ¬ AllByRecursion IsShort (lines_of (bytes ++ more))
long-after bytes more fed line is all =
    let some : more ≢ [] = λ none. let many = kept_line-none more is in let n = ap length none in omega arith in
    not-short more is (subst (AllByRecursion IsShort) (one-line more line some) (short-lines bytes more fed all).1).0
