use Rattle.std.proofs.Common.{◌≡◌, None, take}
use Rattle.louis_table.specs.Table.{rule_cells}
use Rattle.louis_table.proofs.pending.joined_cells.Given as goal

-- the cells of the characters so far
abbrev pub invariant-loop-character : goal.invariant-loop-character
invariant-loop-character l = l.cells.items ≡ rule_cells l.table (take l.character-index l.characters) None
