use Rattle.std.proofs.Common.{[], true, take, drop, sym, refl, take-append-drop}
use Rattle.std.proofs.lemmas.List.{take_rest}
use Rattle.desk_ends.proofs.Sending.{Sending-more, Transmits-whole}
use Rattle.desk_ends.proofs.texts.send.Goals as goal

pub loop-rest-preserved : goal.loop-rest-preserved
loop-rest-preserved g c =
    let n = c.in_ok-count.count in
    let xs = c.loop-rest.rest.now in
    let F = g.K.Sink.can_fail in
    rw (take_rest xs n)
    (Sending-more F _ _ _ [] [] xs _ true c.loop-rest.invariant (take n xs) (drop n xs) (sym (take-append-drop n xs))
    (Transmits-whole F _ _ (take n xs) true c.in_ok-count.ensures.bytes refl) refl)
