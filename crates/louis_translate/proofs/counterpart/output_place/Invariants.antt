use Rattle.louis_translate.proofs.Counterparts.{OutputLeft}
use Rattle.louis_translate.proofs.counterpart.output_place.Given as goal

-- so many cells come before the pieces that are left, before which the place that is sought isn't
abbrev pub invariant-loop-piece : goal.invariant-loop-piece
invariant-loop-piece g l = OutputLeft (g.B.RuleBook.meaning l.book) l.print l.place l.piece-iterator l.before
