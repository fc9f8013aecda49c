use Rattle.std.proofs.Common.{[], drop, flat_map}
use Rattle.desk_ends.proofs.Sending.{Sending}
use Rattle.desk_ends.proofs.texts.send_parts.Given as goal

abbrev pub invariant-loop-part : goal.invariant-loop-part
invariant-loop-part g l =
    Sending (g.K.Sink.contents l.initial.sink) (g.K.Sink.contents l.sink) [] (flat_map (λ part. part.now) (drop l.part-index l.parts)) (flat_map (λ part. part.now) l.parts)
