use Rattle.std.proofs.Common.{◌≡◌, ◌++◌, length}
use Rattle.std.specs.Vec.Iter.{into_iter_items}
use Rattle.desk_rebuild.specs.Paras.{AreHeldOf}
use Rattle.desk_rebuild.proofs.paras.paragraphs_of.Given as goal

-- the rows that were taken are sound, and their paragraphs read
abbrev pub invariant-loop-row : goal.invariant-loop-row
invariant-loop-row l =
    (goal.iterator-loop-row).can_next l.row-iterator × (goal.iterator-loop-row).is_finite l.row-iterator ×
    AreHeldOf l.tables (length l.yielded) l.fn.rows.items l.items.items l.order.items ×
    (l.yielded ++ into_iter_items l.row-iterator ≡ l.fn.rows.items)
