use Rattle.std.proofs.Common.{◌≡◌, length}
use Rattle.std.specs.List.{slice_split}
use Rattle.cell_core.specs.Dots.{most_cells}
use Rattle.cell_core.specs.Reading.{is_hyphen}
use Rattle.cell_core.proofs.ReadCells.{ReadSoFar}
use Rattle.cell_core.proofs.dots.read_cells.Given as goal

abbrev pub invariant-loop-piece : goal.invariant-loop-piece
invariant-loop-piece l = record {
  can_next : (goal.iterator-loop-piece).can_next l.piece-iterator;
  is_finite : (goal.iterator-loop-piece).is_finite l.piece-iterator;
  counted : l.count ≡ length l.yielded;
  room : length l.cells ≡ most_cells;
  read : ReadSoFar (slice_split is_hyphen l.text) l.cells l.count;
}
