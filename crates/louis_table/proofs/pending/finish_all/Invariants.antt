use Rattle.std.proofs.Common.{◌≡◌, ◌++◌, None, flat_map}
use Rattle.std.specs.Vec.Iter.{into_iter_items}
use Rattle.louis_table.specs.Steps.Pending.{complete_rules, first_lacking}
use Rattle.louis_table.proofs.pending.finish_all.Given as goal

-- what was taken so far is complete, and its rules finished
abbrev pub invariant-loop-one : goal.invariant-loop-one
invariant-loop-one l =
    (goal.iterator-loop-one).can_next l.one-iterator ×
    (goal.iterator-loop-one).is_finite l.one-iterator ×
    (first_lacking l.table l.yielded ≡ None) ×
    (l.rules.items ≡ flat_map (complete_rules l.table) l.yielded) ×
    (l.yielded ++ into_iter_items l.one-iterator ≡ l.fn.written.items)
