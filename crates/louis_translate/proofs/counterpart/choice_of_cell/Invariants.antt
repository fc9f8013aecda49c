use Rattle.louis_translate.proofs.Counterparts.{PrintLeft}
use Rattle.louis_translate.proofs.counterpart.choice_of_cell.Given as goal

-- so many cells are left up to the one that is sought
abbrev pub invariant-loop-piece : goal.invariant-loop-piece
invariant-loop-piece g l = PrintLeft (g.B.RuleBook.meaning l.book) l.print l.cell l.piece-iterator l.left
