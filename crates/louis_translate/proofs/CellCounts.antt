-- Each choice of a table that a text means makes a cell.
use Rattle.std.proofs.Common.{◌≡◌, ◌≢◌, ℕ, ◌+◌, ◌<◌, List, [], ◌∷◌, ◌++◌, length, get_or, Option, Some, None, refl, sym, ap, subst, ◌∙◌, arith, slice_get, IsSome, IsSomeAnd, length-append}
use Rattle.std.specs.Option.{option_and_then, option_map_or}
use Rattle.std.proofs.lemmas.List.Concat.{flat_map-append}
use Rattle.std.proofs.lemmas.Option.{slice_get-get_or}
use Rattle.louis_table.specs.declared.definition.Definition.{Definition}
use Rattle.louis_table.specs.declared.rule.Rule.{Rule}
use Rattle.louis_table.specs.Meaning.{Meaning, HasCells, definition_of}
use Rattle.louis_translate.specs.declared.choices.Choice.{Choice}
use Rattle.louis_translate.specs.Choice.{Matches, IsCandidate}
use Rattle.louis_translate.specs.Position.{AreDefined}
use Rattle.louis_translate.specs.Sign.{sign_at}
use Rattle.louis_translate.specs.Tiling.{Covers, Tiles}
use Rattle.louis_translate.specs.Braille.{own_cells, chosen_cells, cells_of, braille, IsAmong, IsOutputPlace}

not_empty : (xs : List ℕ) → xs ≢ [] → 0 < length xs
not_empty [] some = absurd (some refl)
not_empty (x ∷ xs) some = omega arith

module _ (meaning : Meaning) (has : HasCells meaning) (print : List ℕ) (defined : AreDefined meaning print) where
  definition_cells : (o : Option Definition) (c : ℕ) → definition_of meaning c ≡ o → IsSome o → 0 < length (own_cells meaning o None)
  definition_cells None c e some = cc
  definition_cells (Some d) c e some = not_empty d.cells (has.definitions c d e)

  rule_cells : (k : ℕ) (definition : Option Definition) (o : Option Rule) → slice_get meaning.rules k ≡ o → (i : ℕ) → IsSomeAnd o (Matches meaning print i)
      → 0 < length (option_map_or (λ (r : Rule). r.cells) o [])
  rule_cells k definition None e i h = absurd h
  rule_cells k definition (Some rule) e i h = not_empty rule.cells (has.rules k rule e)

  chosen_some : (i : ℕ) (c : Option ℕ) → i < length print → IsCandidate meaning print i c → 0 < length (chosen_cells meaning print i c)
  chosen_some i None lt h =
      subst (λ (o : Option ℕ). 0 < length (own_cells meaning (option_and_then (definition_of meaning) o) None)) (sym (slice_get-get_or print i 0 lt))
      (definition_cells (definition_of meaning (get_or print i 0)) (get_or print i 0) refl (defined i lt))
  chosen_some i (Some k) lt h = rule_cells k (option_and_then (definition_of meaning) (slice_get print i)) (slice_get meaning.rules k) refl i h

  pub some_cells : (i j : ℕ) (t : List Choice) → Covers meaning print i t j → (before : List Choice) (choice : Choice) → IsAmong t before choice
      → 0 < length (chosen_cells meaning print choice.start choice.rule)
  some_cells i j t covers [] choice among =
      let h : Covers meaning print i (choice ∷ among.after) j = subst (λ (u : List Choice). Covers meaning print i u j) among.parts covers in
      subst (λ (k : ℕ). 0 < length (chosen_cells meaning print k choice.rule)) (sym h.1.start) (chosen_some i choice.rule h.0 h.1.chosen.candidate)
  some_cells i j t covers (first ∷ before) choice among =
      let h : Covers meaning print i (first ∷ (before ++ choice ∷ among.after)) j = subst (λ (u : List Choice). Covers meaning print i u j) among.parts covers in
      some_cells first.end j (before ++ choice ∷ among.after) h.2 before choice (record { after = among.after; parts = refl })

  -- so an output place is that of a cell
  pub output_within : (t : List Choice) → Tiles meaning print t → (i place : ℕ) → IsOutputPlace meaning print t i place → place < length (braille meaning print t)
  output_within t tiles i place at =
      let own = some_cells 0 (length print) t tiles at.before at.choice at.among in
      let all : length (braille meaning print t)
      ≡ length (braille meaning print at.before) + length (braille meaning print (at.choice ∷ at.among.after)) =
      ap (λ (u : List Choice). length (braille meaning print u)) at.among.parts
      ∙ (ap length (flat_map-append (cells_of meaning print) at.before (at.choice ∷ at.among.after))
      ∙ length-append (braille meaning print at.before) (braille meaning print (at.choice ∷ at.among.after))) in
      let here = length-append (cells_of meaning print at.choice) (braille meaning print at.among.after) in
      let made = length-append (sign_at meaning print at.choice.start) (chosen_cells meaning print at.choice.start at.choice.rule) in
      let place_is = at.place_is in
      omega arith
