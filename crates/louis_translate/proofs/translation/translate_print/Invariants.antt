use Rattle.louis_translate.proofs.PiecePlaces.{PlacesSoFar}
use Rattle.louis_translate.proofs.translation.translate_print.Given as goal

-- the cells and places of the pieces so far are there
abbrev pub invariant-loop-piece : goal.invariant-loop-piece
invariant-loop-piece g l = PlacesSoFar (g.B.RuleBook.meaning l.book) l.print l.piece-iterator l.cells.items l.output_pos.items l.input_pos.items
