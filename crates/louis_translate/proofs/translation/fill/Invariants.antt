use Rattle.std.proofs.Common.{◌≤◌, length}
use Rattle.louis_translate.proofs.PiecePlaces.{PartSoFar}
use Rattle.louis_translate.proofs.translation.fill.Given as goal

-- the cells of the pieces so far are there and fit
abbrev pub invariant-loop-piece : goal.invariant-loop-piece
invariant-loop-piece g l = record {
  so_far : PartSoFar (g.B.RuleBook.meaning l.book) l.print l.piece-iterator l.cells.items l.used;
  fits : length l.cells.items ≤ l.room;
}
