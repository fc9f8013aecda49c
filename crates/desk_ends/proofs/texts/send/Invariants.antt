use Rattle.std.proofs.Common.{[], length}
use Rattle.desk_ends.proofs.Sending.{Sending}
use Rattle.desk_ends.proofs.texts.send.Given as goal

abbrev pub invariant-loop-rest : goal.invariant-loop-rest
invariant-loop-rest g l = Sending (g.K.Sink.contents l.initial.sink) (g.K.Sink.contents l.sink) [] l.rest l.fn.text

abbrev pub decreases-loop-rest : goal.decreases-loop-rest
decreases-loop-rest g l = length l.rest
