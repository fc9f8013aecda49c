use Rattle.std.proofs.Common.{◌≡◌, ◌++◌, length}
use Rattle.std.specs.Vec.Iter.{into_iter_items}
use Rattle.desk_rebuild.specs.Marks.{IsHeldOf, mark_rule}
use Rattle.desk_rebuild.specs.OrderedRows.{AreHeldUpTo}
use Rattle.desk_rebuild.proofs.marks.marks_of.Given as goal

-- the rows that were taken are sound, and their marks read
abbrev pub invariant-loop-row : goal.invariant-loop-row
invariant-loop-row l =
    (goal.iterator-loop-row).can_next l.row-iterator × (goal.iterator-loop-row).is_finite l.row-iterator ×
    AreHeldUpTo (mark_rule l.items) IsHeldOf (length l.yielded) l.fn.rows.items l.marks.items ×
    (l.yielded ++ into_iter_items l.row-iterator ≡ l.fn.rows.items)
