use Rattle.std.proofs.Common.{length, map}
use Rattle.desk_rebuild.proofs.ReadGroups.{HaveReadTo}
use Rattle.desk_rebuild.proofs.entries.read_histories.Given as goal

abbrev pub invariant-loop-index : goal.invariant-loop-index
invariant-loop-index l = HaveReadTo (map (λ group. group.items) l.fn.groups.items) l.initial.items.items l.items.items (length l.yielded)
