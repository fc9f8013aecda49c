use Rattle.std.proofs.Common.{[], ◌∷◌, is_ok, refl, ap}
use Rattle.desk_ends.proofs.Sending.{Sending-first, Sending-last, Sending-no_first, fails-at}
use Rattle.desk_line.proofs.text_output.put_field.Goals as goal

pub returns-in_err-put_byte : goal.returns-in_err-put_byte
returns-in_err-put_byte g c =
    Sending-no_first c.args.block.now (32 ∷ []) c.args.field.now refl c.put_byte.ensures (ap is_ok c.in_err-put_byte.was) (fails-at c.from_residual.result _ c.from_residual.ensures.1)

pub returns : goal.returns
returns g c =
    Sending-last g.K.Sink.can_fail _ _ _ c.put_byte.new.block _ c.args.field.now _ _
    (Sending-first c.args.block.now (32 ∷ []) c.args.field.now refl c.put_byte.ensures (ap is_ok c.in_ok-put_byte.was)) c.put_bytes.ensures
