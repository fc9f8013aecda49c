use Rattle.std.proofs.Common.{is_ok, ap, [], arith, flat_map, drop_of_length-le}
use Rattle.std.proofs.lemmas.List.{drop_more}
use Rattle.std.proofs.lemmas.Result.{err_from_is_err_and}
use Rattle.std.proofs.lemmas.Grind.{common_steps}
use Rattle.desk_ends.proofs.Sending.{Sending-done, Sending-fails, Sending-more}
use Rattle.desk_ends.proofs.texts.send_parts.Goals as goal

pub returns-in_err-send : goal.returns-in_err-send
returns-in_err-send g c =
    let p = err_from_is_err_and c.from_residual.result c.from_residual.ensures.1 in
    let parts = ap (flat_map (λ part. part.now)) (drop_more c.args.parts.now c.loop-part.part-index _ c.loop-part-test.true) in
    Sending-fails g.K.Sink.can_fail _ _ _ [] [] _ _ _ c.loop-part.invariant _ _ parts c.send.ensures _ _ (ap is_ok c.in_err-send.was) (ap is_ok p.1)

pub loop-part-preserved : goal.loop-part-preserved
loop-part-preserved g c =
    let parts = ap (flat_map (λ part. part.now)) (drop_more c.args.parts.now c.loop-part.part-index _ c.loop-part-test.true) in
    Sending-more g.K.Sink.can_fail _ _ _ [] [] _ _ _ c.loop-part.invariant _ _ parts c.send.ensures (ap is_ok c.in_ok-send.was)

pub returns : goal.returns
returns g c = grind (arith, common_steps, Sending-done, drop_of_length-le)
