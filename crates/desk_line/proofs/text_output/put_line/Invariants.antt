use Rattle.std.proofs.Common.{◌++◌, drop}
use Rattle.std.specs.Prelude.{decimal}
use Rattle.desk_ends.proofs.Sending.{Sending}
use Rattle.desk_line.specs.ReplyLines.{word_and}
use Rattle.desk_line.proofs.Putting.{ended}
use Rattle.desk_line.proofs.text_output.put_line.Given as goal

abbrev pub invariant-loop-number : goal.invariant-loop-number
invariant-loop-number g l =
    Sending (g.K.Sink.contents l.fn.sink) (g.K.Sink.contents l.sink) l.block (ended decimal (drop l.number-index l.numbers)) (l.fn.block ++ word_and l.word l.numbers)
