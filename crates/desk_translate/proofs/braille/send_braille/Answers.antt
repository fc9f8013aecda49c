use Rattle.std.proofs.Common.{[], ◌∷◌, is_ok, refl, ap}
use Rattle.std.proofs.lemmas.Result.{err_from_is_err_and}
use Rattle.desk_ends.proofs.Sending.{Sending-fails, Sending-last, Sending-more, Sending-none}
use Rattle.desk_translate.proofs.braille.send_braille.Goals as goal

pub returns-in_err-put_print : goal.returns-in_err-put_print
returns-in_err-put_print g c =
    let p = err_from_is_err_and c.from_residual.result c.from_residual.ensures.1 in
    λ choices tiles.
    Sending-fails g.K.Sink.can_fail _ _ _ [] _ _ _ _ (Sending-none _ [] _ _ refl) _ (10 ∷ []) refl (rw c.clear.ensures at (c.put_print.ensures choices tiles)) _ _ (ap is_ok c.in_err-put_print.was) (ap is_ok p.1)

pub returns : goal.returns
returns g c =
    λ choices tiles.
    let put = Sending-more g.K.Sink.can_fail _ _ _ [] _ _ _ _ (Sending-none _ [] _ _ refl) _ (10 ∷ []) refl (rw c.clear.ensures at (c.put_print.ensures choices tiles)) (ap is_ok c.in_ok-put_print.was) in
    Sending-last g.K.Sink.can_fail _ _ _ c.put_print.new.block _ _ _ _ put c.send_block.ensures
