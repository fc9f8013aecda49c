use Rattle.std.proofs.Common.{◌≡◌, ◌≤◌, length, take}
use Rattle.desk_memory.specs.Histories.{entries_held}
use Rattle.desk_model.specs.Print.{stack}
use Rattle.desk_memory.proofs.history.newest.Given as goal

-- the entries after the place were taken back
abbrev pub invariant-loop-count : goal.invariant-loop-count
invariant-loop-count l = (l.count ≤ length l.history) × (stack (take l.count (entries_held l.history)) ≡ stack (entries_held l.history))

abbrev pub decreases-loop-count : goal.decreases-loop-count
decreases-loop-count l = l.count
