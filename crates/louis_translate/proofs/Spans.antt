-- How many characters a chosen rule covers.
use Rattle.std.proofs.Common.{ℕ, ◌+◌, ◌<◌, ◌≤◌, List, length, Option, Some, None, arith, inl, inr, rules, slice_get, IsSomeAnd}
use Rattle.std.specs.Option.{option_map_or}
use Rattle.std.proofs.lemmas.List.{length-map, length-take, length-drop}
use Rattle.louis_table.specs.Meaning.{Meaning}
use Rattle.louis_table.specs.declared.rule.Rule.{Rule}
use Rattle.louis_translate.specs.Choice.{Matches, IsCandidate, span, IsChosen}

-- a choice covers a character, as the definition does
pub span-positive : (meaning : Meaning) (print : List ℕ) (i : ℕ) (c : Option ℕ) → IsChosen meaning print i c → 0 < span meaning c
span-positive meaning print i c h = elim (h.first None tt) [ inl p ↦ omega arith | inr p ↦ omega arith ]

Matches-fits : (meaning : Meaning) (print : List ℕ) (i : ℕ) (rule : Rule) → i < length print → Matches meaning print i rule → i + length rule.chars ≤ length print
Matches-fits meaning print i rule lt m = search (rules, length-map, length-take, length-drop)

-- a choice ends within the print
pub span-fits : (meaning : Meaning) (print : List ℕ) (i : ℕ) (c : Option ℕ) → i < length print → IsCandidate meaning print i c → i + span meaning c ≤ length print
span-fits meaning print i None lt h = omega arith
span-fits meaning print i (Some k) lt h = fits (slice_get meaning.rules k) h
  where
    fits : (o : Option Rule) → IsSomeAnd o (Matches meaning print i) → i + option_map_or (λ r. length r.chars) o 0 ≤ length print
    fits None h = absurd h
    fits (Some rule) h = Matches-fits meaning print i rule lt h
