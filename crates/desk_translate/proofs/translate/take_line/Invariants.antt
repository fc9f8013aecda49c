use Rattle.std.proofs.Common.{◌-◌}
use Rattle.desk_ends.specs.Limits.{most_input}
use Rattle.desk_translate.proofs.Taking.{IsTaking}
use Rattle.desk_translate.proofs.translate.take_line.Given as goal

abbrev pub invariant-loop-sink : goal.invariant-loop-sink
invariant-loop-sink g l =
    IsTaking (g.S.Source.remaining l.fn.source) (g.S.Source.remaining l.source) (g.K.Sink.contents l.fn.sink) (g.K.Sink.contents l.sink)
    l.fn.input l.input l.line

abbrev pub decreases-loop-sink : goal.decreases-loop-sink
decreases-loop-sink g l = most_input - l.input.total
