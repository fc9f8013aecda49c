use Rattle.std.proofs.Common.{ℕ, ◌<◌, length, set, ap, arith, ◌∙◌}
use Rattle.std.proofs.lemmas.List.{get_or_default}
use Rattle.std.proofs.lemmas.List.Edits.{map_over_more}
use Rattle.louis_table.specs.Meaning.{fold_of}
use Rattle.louis_table.proofs.pending.fold_characters.Goals as goal

pub loop-character-preserved : goal.loop-character-preserved
loop-character-preserved c =
    let within : c.loop-character.character-index < length c.loop-character.characters = omega arith in
    ap (λ (v : ℕ). set c.loop-character.characters c.loop-character.character-index v) c.fold.ensures
    ∙ map_over_more (fold_of c.args.table.now) c.args.characters.now c.loop-character.characters c.loop-character.character-index _ c.loop-character-test.true c.loop-character.invariant (get_or_default c.loop-character.characters c.loop-character.character-index 0 _ within)
