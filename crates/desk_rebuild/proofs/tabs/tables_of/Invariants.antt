use Rattle.std.proofs.Common.{◌≡◌, ◌++◌}
use Rattle.std.specs.Vec.Iter.{into_iter_items}
use Rattle.desk_rebuild.specs.Tabs.{AreRead, rows_of}
use Rattle.desk_rebuild.proofs.tabs.tables_of.Given as goal

-- the tables of the rows that were taken are read
abbrev pub invariant-loop-stored : goal.invariant-loop-stored
invariant-loop-stored l =
    (goal.iterator-loop-stored).can_next l.stored-iterator × (goal.iterator-loop-stored).is_finite l.stored-iterator ×
    AreRead (rows_of l.fn.rows.items) (rows_of l.yielded) l.tables × (l.yielded ++ into_iter_items l.stored-iterator ≡ l.fn.rows.items)
