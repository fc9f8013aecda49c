use Rattle.std.proofs.Common.{◌≡◌, replicate}
use Rattle.desk_rebuild.proofs.paras.free_places.Given as goal

-- the places so far
abbrev pub invariant-loop : goal.invariant-loop
invariant-loop l = l.order.items ≡ replicate l.counter 0
