use Rattle.louis_translate.proofs.PieceLists.{CellsSoFar}
use Rattle.desk_memory.proofs.paragraphs.cells_of.Given as goal

-- the cells are those of the pieces so far
abbrev pub invariant-loop-piece : goal.invariant-loop-piece
invariant-loop-piece l = CellsSoFar l.rules l.print l.piece-iterator l.cells.items
