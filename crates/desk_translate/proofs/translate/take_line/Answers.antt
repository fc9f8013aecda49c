use Rattle.std.proofs.Common.{◌≡◌, ◌∙◌, Ok, not, false, true, is_ok, ap}
use Rattle.std.proofs.KnownBytes.{Appends-nil}
use Rattle.desk_ends.proofs.LineReading.{IsReading-none}
use Rattle.desk_ends.proofs.Sending.{at_err, at_ok}
use Rattle.desk_translate.proofs.Taking.{IsTaking-filled, IsTaking-more, TakesLine-failed, TakesLine-fed, TakesLine-over, TakesLine-unflushed}
use Rattle.desk_translate.proofs.translate.take_line.Goals as goal

pub loop-sink-init : goal.loop-sink-init
loop-sink-init g c =
    record { part = IsReading-none _ c.args.input.now _ c.clear.ensures; still = Appends-nil _ }

pub returns-then-pass_line : goal.returns-then-pass_line
returns-then-pass_line g c =
    TakesLine-fed g.S.Source.can_fail g.K.Sink.can_fail _ _ _ _ _ _ c.loop-sink.input _ c.loop-sink.line _ c.loop-sink.invariant
    (rw c.if-pass_line.true at c.pass_line.ensures)

pub returns-then-is_err : goal.returns-then-is_err
returns-then-is_err g c =
    let passed = rw c.if-pass_line.false at c.pass_line.ensures in
    let taking = IsTaking-more _ _ _ _ _ _ c.loop-sink.input _ c.loop-sink.line _ c.loop-sink.invariant passed c.flush.ensures.bytes in
    let broken : is_ok c.flush.result ≡ false = c.is_err.ensures.negation ∙ ap not c.if-is_err.true in
    TakesLine-unflushed g.S.Source.can_fail g.K.Sink.can_fail _ _ _ _ _ _ _ _ taking passed.1 (at_err c.flush.result _ c.flush.ensures.fails broken)

pub returns-in_default : goal.returns-in_default
returns-in_default g c =
    let passed = rw c.if-pass_line.false at c.pass_line.ensures in
    let taking = IsTaking-more _ _ _ _ _ _ c.loop-sink.input _ c.loop-sink.line _ c.loop-sink.invariant passed c.flush.ensures.bytes in
    let flushed : is_ok c.flush.result ≡ true = c.is_err.ensures.negation ∙ ap not c.if-is_err.false in
    TakesLine-failed g.S.Source.can_fail g.K.Sink.can_fail _ _ _ _ _ _ _ _ _ _ taking _ c.in_default.ensures (at_ok c.flush.result _ c.flush.ensures.all flushed)

pub returns-then-not-is_more : goal.returns-then-not-is_more
returns-then-not-is_more g c =
    let passed = rw c.if-pass_line.false at c.pass_line.ensures in
    let taking = IsTaking-more _ _ _ _ _ _ c.loop-sink.input _ c.loop-sink.line _ c.loop-sink.invariant passed c.flush.ensures.bytes in
    TakesLine-over g.S.Source.can_fail g.K.Sink.can_fail _ _ _ _ _ _ _ _ _ _ taking (rw (c.in-Ok.is ∙ ap Ok c.if-not-is_more.true) at c.fill.ensures)

pub loop-sink-preserved : goal.loop-sink-preserved
loop-sink-preserved g c =
    let passed = rw c.if-pass_line.false at c.pass_line.ensures in
    let taking = IsTaking-more _ _ _ _ _ _ c.loop-sink.input _ c.loop-sink.line _ c.loop-sink.invariant passed c.flush.ensures.bytes in
    IsTaking-filled g.S.Source.can_fail _ _ _ _ _ _ _ _ _ taking (rw (c.in-Ok.is ∙ ap Ok c.if-not-is_more.false) at c.fill.ensures)
