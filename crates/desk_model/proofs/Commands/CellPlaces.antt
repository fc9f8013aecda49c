-- Where the choices of cells lie in a print.
use Rattle.std.proofs.Common.{◌≡◌, ℕ, ◌+◌, ◌<◌, ◌≤◌, List, [], ◌∷◌, ◌++◌, length, sym, ap, subst, ◌∙◌, arith, length-append}
use Rattle.louis_table.specs.Meaning.{Meaning}
use Rattle.louis_translate.specs.declared.choices.Choice.{Choice}
use Rattle.louis_translate.specs.Tiling.{Covers, Tiles}
use Rattle.louis_translate.specs.Braille.{cells_of, braille, IsPrintEnd, IsPrintPlace}
use Rattle.louis_translate.proofs.PlaceLists.{Covers-le}

module _ (meaning : Meaning) (print : List ℕ) where
  -- each of the choices that cover the places from i up to j lies within them
  within : (i j : ℕ) (before : List Choice) (c : Choice) (after : List Choice) → Covers meaning print i (before ++ c ∷ after) j
      → (i ≤ c.start) × (i ≤ c.end) × (c.end ≤ j)
  within i j [] c after (inside, at, rest) =
      let start = at.start in
      let end = at.end in
      (omega arith, omega arith, Covers-le meaning print c.end j after rest)
  within i j (b ∷ before) c after (inside, at, rest) =
      let end = at.end in
      let more = within b.end j before c after rest in
      let start = more.0 in
      let past = more.1 in
      (omega arith, omega arith, more.2)

  -- a choice begins no later than another ends, unless all cells of the other come before its own
  starts-before : (i j : ℕ) (xs : List Choice) (a : Choice) (u ys : List Choice) (b : Choice) (v : List Choice)
      → Covers meaning print i (xs ++ a ∷ u) j → xs ++ a ∷ u ≡ ys ++ b ∷ v
      → length (braille meaning print xs) < length (braille meaning print ys) + length (cells_of meaning print b)
      → a.start ≤ b.end
  starts-before i j [] a u ys b v covers e lt =
      let past = (within i j ys b v (subst (λ (t : List Choice). Covers meaning print i t j) e covers)).1 in
      omega (arith, covers.1.start)
  starts-before i j (x ∷ xs) a u [] b v covers e lt =
      let same : x ≡ b = cc in
      let its = ap (λ (c : Choice). length (cells_of meaning print c)) same in
      absurd (omega (arith, length-append (cells_of meaning print x) (braille meaning print xs)))
  starts-before i j (x ∷ xs) a u (y ∷ ys) b v covers e lt =
      let same : x ≡ y = cc in
      let its = ap (λ (c : Choice). length (cells_of meaning print c)) same in
      let first = length-append (cells_of meaning print x) (braille meaning print xs) in
      let second = length-append (cells_of meaning print y) (braille meaning print ys) in
      starts-before x.end j xs a u ys b v covers.2 (cc) (omega arith)

  -- the print that cells stand for ends within the print
  pub end-within : (choices : List Choice) (cell end : ℕ) → Tiles meaning print choices → IsPrintEnd meaning print choices cell end
      → end ≤ length print
  end-within choices cell end tiles (c, made, is) =
      let among = made.among in
      let last = (within 0 (length print) made.before c among.after (subst (λ (t : List Choice). Tiles meaning print t) among.parts tiles)).2 in
      omega arith

  -- the first of two cells begins no later than the second ends
  pub begins-before : (choices : List Choice) (first second start end : ℕ) → Tiles meaning print choices → first ≤ second
      → IsPrintPlace meaning print choices first start → IsPrintEnd meaning print choices second end → start ≤ end
  begins-before choices first second start end tiles le (a, one, begins) (b, other, ends) =
      let its = one.among in
      let others = other.among in
      let from = one.from in
      let to = other.to in
      let order = starts-before 0 (length print) one.before a its.after other.before b others.after
      (subst (λ (t : List Choice). Tiles meaning print t) its.parts tiles) (sym its.parts ∙ others.parts) (omega arith) in
      omega arith
