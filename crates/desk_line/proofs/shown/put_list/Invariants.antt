use Rattle.std.proofs.Common.{◌++◌}
use Rattle.desk_ends.proofs.Sending.{Sending}
use Rattle.desk_line.specs.ReplyLines.{list_line}
use Rattle.desk_line.proofs.Putting.{shown_lines}
use Rattle.desk_line.proofs.shown.put_list.Given as goal

abbrev pub invariant-loop-paragraph : goal.invariant-loop-paragraph
invariant-loop-paragraph g l =
    Sending (g.K.Sink.contents l.fn.sink) (g.K.Sink.contents l.sink) l.block (shown_lines list_line l.paragraph-iterator) (l.fn.block ++ shown_lines list_line l.fn.list)
