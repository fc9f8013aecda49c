use Rattle.std.proofs.Common.{◌++◌}
use Rattle.desk_ends.proofs.Sending.{Sending}
use Rattle.desk_line.specs.ReplyLines.{mark_line}
use Rattle.desk_line.proofs.Putting.{shown_lines}
use Rattle.desk_line.proofs.shown.put_marks.Given as goal

abbrev pub invariant-loop-mark : goal.invariant-loop-mark
invariant-loop-mark g l =
    Sending (g.K.Sink.contents l.fn.sink) (g.K.Sink.contents l.sink) l.block (shown_lines mark_line l.mark-iterator) (l.fn.block ++ shown_lines mark_line l.fn.marks)
