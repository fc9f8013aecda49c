use Rattle.std.proofs.Common.{◌++◌, drop}
use Rattle.desk_ends.proofs.Sending.{Sending}
use Rattle.desk_ends.proofs.bytes.put_bytes.Given as goal

abbrev pub invariant-loop-byte : goal.invariant-loop-byte
invariant-loop-byte g l =
    Sending (g.K.Sink.contents l.initial.sink) (g.K.Sink.contents l.sink) l.block (drop l.byte-index l.bytes) (l.initial.block ++ l.bytes)
