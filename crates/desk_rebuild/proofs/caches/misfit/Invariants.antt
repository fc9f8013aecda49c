use Rattle.desk_rebuild.specs.Caches.{AreRight}
use Rattle.desk_rebuild.proofs.caches.misfit.Given as goal

-- the rows so far are right
abbrev pub invariant-loop-index : goal.invariant-loop-index
invariant-loop-index l = AreRight l.tables l.paragraphs l.rows l.index
