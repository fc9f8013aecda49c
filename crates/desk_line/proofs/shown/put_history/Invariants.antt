use Rattle.std.proofs.Common.{◌++◌}
use Rattle.desk_ends.proofs.Sending.{Sending}
use Rattle.desk_line.specs.ReplyLines.{entry_line}
use Rattle.desk_line.proofs.Putting.{shown_lines}
use Rattle.desk_line.proofs.shown.put_history.Given as goal

abbrev pub invariant-loop-item : goal.invariant-loop-item
invariant-loop-item g l =
    Sending (g.K.Sink.contents l.fn.sink) (g.K.Sink.contents l.sink) l.block (shown_lines entry_line l.item-iterator) (l.fn.block ++ shown_lines entry_line l.fn.history)
