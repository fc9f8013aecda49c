use Rattle.std.proofs.Common.{[], ◌∷◌, ◌+◌, drop, get_or, is_ok, ap}
use Rattle.std.proofs.lemmas.List.{drop_more}
use Rattle.std.proofs.Math.ListN.{drop_of_length-le}
use Rattle.std.specs.Prelude.{decimal}
use Rattle.desk_ends.proofs.Sending.{Sending-fails, Sending-first, Sending-last, Sending-more, Sending-no_first, fails-at}
use Rattle.desk_line.proofs.Putting.{ended, field-next, line-begins}
use Rattle.desk_line.proofs.text_output.put_line.Goals as goal

pub returns-in_err-put_bytes : goal.returns-in_err-put_bytes
returns-in_err-put_bytes g c =
    Sending-no_first c.args.block.now c.args.word.now (ended decimal c.args.numbers.now) (line-begins decimal c.args.word.now c.args.numbers.now) c.put_bytes.ensures
    (ap is_ok c.in_err-put_bytes.was) (fails-at c.from_residual.result _ c.from_residual.ensures.1)

pub loop-number-init : goal.loop-number-init
loop-number-init g c =
    Sending-first c.args.block.now c.args.word.now (ended decimal c.args.numbers.now) (line-begins decimal c.args.word.now c.args.numbers.now) c.put_bytes.ensures
    (ap is_ok c.in_ok-put_bytes.was)

pub returns-in_err-put_number : goal.returns-in_err-put_number
returns-in_err-put_number g c =
    let numbers = c.args.numbers.now in
    let i = c.loop-number.number-index in
    let number = get_or numbers i 0 in
    Sending-fails g.K.Sink.can_fail _ _ _ c.loop-number.block _ _ _ _ c.loop-number.invariant (32 ∷ decimal number) _
    (field-next decimal (drop i numbers) number (drop (i + 1) numbers) (drop_more numbers i 0 c.loop-number-test.true))
    c.put_number.ensures _ _ (ap is_ok c.in_err-put_number.was) (fails-at c.from_residual-in_err-put_number.result _ c.from_residual-in_err-put_number.ensures.1)

pub loop-number-preserved : goal.loop-number-preserved
loop-number-preserved g c =
    let numbers = c.args.numbers.now in
    let i = c.loop-number.number-index in
    let number = get_or numbers i 0 in
    Sending-more g.K.Sink.can_fail _ _ _ c.loop-number.block _ _ _ _ c.loop-number.invariant (32 ∷ decimal number) _
    (field-next decimal (drop i numbers) number (drop (i + 1) numbers) (drop_more numbers i 0 c.loop-number-test.true))
    c.put_number.ensures (ap is_ok c.in_ok-put_number.was)

pub returns : goal.returns
returns g c =
    Sending-last g.K.Sink.can_fail _ _ _ c.loop-number.block _ (10 ∷ []) _ _
    (rw (drop_of_length-le c.args.numbers.now c.loop-number-test.false) at c.loop-number.invariant) c.put_byte.ensures
