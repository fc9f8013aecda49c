use Rattle.std.proofs.Common.{◌≡◌, take}
use Rattle.desk_rebuild.proofs.caches.are_masks.Given as goal

-- the masks so far are those of the cells
abbrev pub invariant-loop-index : goal.invariant-loop-index
invariant-loop-index l = take l.index l.masks ≡ take l.index l.cells
