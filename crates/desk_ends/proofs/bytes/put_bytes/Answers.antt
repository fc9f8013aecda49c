use Rattle.std.proofs.Common.{[], ◌∷◌, get_or, is_ok, ap, arith, drop_of_length-le}
use Rattle.std.proofs.lemmas.List.{drop_more}
use Rattle.std.proofs.lemmas.Grind.{common_steps}
use Rattle.desk_ends.proofs.Sending.{Sending-done, Sending-fails, Sending-more, fails-at}
use Rattle.desk_ends.proofs.bytes.put_bytes.Goals as goal

pub returns-in_err-put_byte : goal.returns-in_err-put_byte
returns-in_err-put_byte g c =
    Sending-fails g.K.Sink.can_fail _ _ _ c.loop-byte.block _ _ _ _ c.loop-byte.invariant (get_or c.args.bytes.now c.loop-byte.byte-index 0 ∷ []) _
    (drop_more c.args.bytes.now c.loop-byte.byte-index 0 c.loop-byte-test.true) c.put_byte.ensures _ _ (ap is_ok c.in_err-put_byte.was) (fails-at c.from_residual.result _ c.from_residual.ensures.1)

pub loop-byte-preserved : goal.loop-byte-preserved
loop-byte-preserved g c =
    Sending-more g.K.Sink.can_fail _ _ _ c.loop-byte.block _ _ _ _ c.loop-byte.invariant (get_or c.args.bytes.now c.loop-byte.byte-index 0 ∷ []) _
    (drop_more c.args.bytes.now c.loop-byte.byte-index 0 c.loop-byte-test.true) c.put_byte.ensures (ap is_ok c.in_ok-put_byte.was)

pub returns : goal.returns
returns g c = grind (arith, common_steps, Sending-done, drop_of_length-le)
