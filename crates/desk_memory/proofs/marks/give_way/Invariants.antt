use Rattle.std.proofs.Common.{◌≡◌, ℕ, drop}
use Rattle.desk_memory.specs.HeldMarks.{indexes_on}
use Rattle.desk_memory.proofs.MarkIndexes.{HaveMoved}
use Rattle.desk_memory.proofs.marks.give_way.Given as goal

abbrev pub invariant-loop-index : goal.invariant-loop-index
invariant-loop-index l =
    (id : ℕ) → l.indexes ≡ indexes_on id l.fn.marks → HaveMoved id l.start l.removed l.added l.fn.marks (drop l.index-index l.indexes) l.marks
