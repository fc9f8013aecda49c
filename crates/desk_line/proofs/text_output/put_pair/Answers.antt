use Rattle.std.proofs.Common.{[], ◌∷◌, ◌+◌, ◌/◌, ◌%◌, is_ok, ap}
use Rattle.desk_ends.proofs.Sending.{Sending-first, Sending-last, Sending-no_first, fails-at}
use Rattle.desk_line.proofs.Putting.{encode-two}
use Rattle.desk_line.proofs.text_output.put_pair.Goals as goal

pub returns-in_err-put_byte : goal.returns-in_err-put_byte
returns-in_err-put_byte g c =
    Sending-no_first c.args.block.now ((192 + c.args.character / 64) ∷ []) ((128 + c.args.character % 64) ∷ []) (encode-two c.args.character c.requires.wide c.requires.short) c.put_byte.ensures
    (ap is_ok c.in_err-put_byte.was) (fails-at c.from_residual.result _ c.from_residual.ensures.1)

pub returns : goal.returns
returns g c =
    let lower = (128 + c.args.character % 64) ∷ [] in
    Sending-last g.K.Sink.can_fail _ _ _ c.put_byte.new.block _ lower _ _
    (Sending-first c.args.block.now ((192 + c.args.character / 64) ∷ []) lower (encode-two c.args.character c.requires.wide c.requires.short) c.put_byte.ensures
    (ap is_ok c.in_ok-put_byte.was)) c.put_byte-2.ensures
