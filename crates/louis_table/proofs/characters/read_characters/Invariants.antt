use Rattle.std.proofs.Common.{length}
use Rattle.louis_table.proofs.CharacterLaws.{SpellsOn}
use Rattle.louis_table.proofs.characters.read_characters.Given as goal

-- the rest completes the characters
abbrev pub invariant-loop-rest : goal.invariant-loop-rest
invariant-loop-rest l = SpellsOn l.operand l.characters.items l.rest

abbrev pub decreases-loop-rest : goal.decreases-loop-rest
decreases-loop-rest l = length l.rest
