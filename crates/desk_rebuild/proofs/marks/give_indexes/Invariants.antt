use Rattle.std.proofs.Common.{◌≡◌, map, take}
use Rattle.desk_rebuild.specs.Rows.{HaveMarks, without_marks}
use Rattle.desk_rebuild.proofs.marks.give_indexes.Given as goal

-- the paragraphs have the indexes of the marks so far
abbrev pub invariant-loop-index : goal.invariant-loop-index
invariant-loop-index l = HaveMarks (take l.index l.marks) l.items × (map without_marks l.items ≡ map without_marks l.initial.items)
