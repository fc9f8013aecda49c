use Rattle.std.proofs.Common.{◌≡◌, Some, map}
use Rattle.desk_rebuild.proofs.caches.cells_in.Given as goal

-- the cells of the rows so far
abbrev pub invariant-loop-row : goal.invariant-loop-row
invariant-loop-row l = l.all.items ≡ map (λ row. Some row.cells) l.yielded
