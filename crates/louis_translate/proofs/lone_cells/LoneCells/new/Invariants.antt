use Rattle.louis_translate.specs.Piece.{AreLoneCells}
use Rattle.louis_translate.proofs.lone_cells.LoneCells.new.Given as goal

abbrev pub invariant-loop-code : goal.invariant-loop-code
invariant-loop-code l = AreLoneCells l.table l.cells
