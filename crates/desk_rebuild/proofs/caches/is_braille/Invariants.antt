use Rattle.desk_rebuild.proofs.CellRows.{IsBehind}
use Rattle.desk_rebuild.proofs.caches.is_braille.Given as goal

-- the masks that are left stand after the cells of the pieces so far
abbrev pub invariant-loop-piece : goal.invariant-loop-piece
invariant-loop-piece l = IsBehind l.rules l.print l.piece-iterator l.fn.masks l.left
