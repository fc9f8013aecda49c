use Rattle.std.proofs.Common.{[], map}
use Rattle.desk_rebuild.specs.Entries.{AreGrouped}
use Rattle.desk_rebuild.proofs.entries.no_rows.Given as goal

abbrev pub invariant-loop : goal.invariant-loop
invariant-loop l = AreGrouped l.counter [] (map (λ group. group.items) l.groups.items)
