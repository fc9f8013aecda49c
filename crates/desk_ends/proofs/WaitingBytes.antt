-- Bytes that were read, and a line that is passed on from them.
use Rattle.std.proofs.Common.{◌≡◌, ◌≢◌, ℕ, ◌+◌, ◌-◌, ◌<◌, ◌≤◌, true, List, [], ◌∷◌, ◌++◌, length, take, drop, Option, sym, ap, ◌∙◌, arith, rules, EachIndex, slice_index}
use Rattle.std.proofs.Math.Seq.{take-append-add}
use Rattle.std.proofs.lemmas.List.{drop-drop, drop-take, length-take, take-append-drop}
use Rattle.std.proofs.lemmas.Grind.{common_steps}
use Rattle.desk_ends.specs.Input.{Passes}
use Rattle.desk_ends.specs.Lines.{IsFed, with_bytes}
use Rattle.desk_ends.proofs.OneLine.{no-feed}

-- no byte in these places is a line feed
abbrev pub LacksFeed : List ℕ → Type 0
LacksFeed bytes = EachIndex bytes (λ k. slice_index bytes k ≢ 10)

module _ (from to : ℕ) (xs old : List ℕ) (within : from ≤ to) (is : drop from (take to xs) ≡ old) where
  pub waiting-is : take (to - from) (drop from xs) ≡ old
  waiting-is =
      let size : to ≡ from + (to - from) = omega (arith, within) in
      sym (ap (λ (n : ℕ). drop from (take n xs)) size ∙ drop-take from (to - from) xs) ∙ is

  pub later-is : (n : ℕ) → drop (from + n) (take to xs) ≡ drop n old
  later-is n = sym (drop-drop n from (take to xs)) ∙ ap (drop n) is

pub none-left : (n : ℕ) (xs : List ℕ) → drop n (take n xs) ≡ []
none-left n xs = let same : n ≡ n + 0 = omega arith in ap (λ (m : ℕ). drop n (take m xs)) same ∙ drop-take n 0 xs

line-fed : (old : List ℕ) (end : ℕ) → end < length old → LacksFeed (take end old) → old ≡ take end old ++ 10 ∷ drop (end + 1) old → IsFed (take (end + 1) old)
line-fed old end within none parts = grind (arith, common_steps, length-take, take-append-add, no-feed)

-- a line is passed on
pub passes-line : (old new : List ℕ) (was line : Option (List ℕ)) (end : ℕ) → end < length old → LacksFeed (take end old) → old ≡ take end old ++ 10 ∷ drop (end + 1) old
    → new ≡ drop (end + 1) old → line ≡ with_bytes was (take (end + 1) old) → Passes true old new was line
passes-line old new was line end within none parts left held = search (rules, take-append-drop, line-fed)
