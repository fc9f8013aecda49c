use Rattle.std.proofs.Common.{◌≡◌, drop}
use Rattle.louis_table.specs.Steps.Pending.{are_defined}
use Rattle.louis_table.proofs.pending.are_defined.Given as goal

-- the characters that are left decide
abbrev pub invariant-loop-character : goal.invariant-loop-character
invariant-loop-character l = are_defined l.table (drop l.character-index l.characters) ≡ are_defined l.table l.characters
