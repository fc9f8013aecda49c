use Rattle.std.proofs.Common.{[], ◌∷◌, is_ok, refl, ap, arith}
use Rattle.std.proofs.lemmas.Grind.{common_steps}
use Rattle.desk_ends.proofs.Sending.{Sending-end, Sending-first, Sending-no_first, fails-at}
use Rattle.desk_ends.proofs.bytes.send_block.Goals as goal

pub returns-in_err-put_byte : goal.returns-in_err-put_byte
returns-in_err-put_byte g c =
    Sending-no_first c.args.block.now (10 ∷ []) [] refl c.put_byte.ensures (ap is_ok c.in_err-put_byte.was) (fails-at c.from_residual.result _ c.from_residual.ensures.1)

pub returns : goal.returns
returns g c = grind (arith, common_steps, Sending-end, Sending-first, is_ok)
