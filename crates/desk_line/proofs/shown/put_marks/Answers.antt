use Rattle.std.proofs.Common.{◌++◌, is_ok, true, refl, ap}
use Rattle.desk_ends.proofs.Sending.{Sending-done, Sending-fails, Sending-more, Sending-none, fails-at}
use Rattle.desk_line.specs.ReplyLines.{mark_line, shown_line}
use Rattle.desk_line.proofs.Putting.{shown_lines}
use Rattle.desk_line.proofs.shown.put_marks.Goals as goal

pub loop-mark-init : goal.loop-mark-init
loop-mark-init g c =
    Sending-none _ c.args.block.now _ _ (ap (λ things. c.args.block.now ++ shown_lines mark_line things) c.into_iter-mark-iterator.ensures.into_iter_gives)

pub returns-in_err-put_mark : goal.returns-in_err-put_mark
returns-in_err-put_mark g c =
    let step = c.in-Some.ensures.steps in
    Sending-fails g.K.Sink.can_fail _ _ _ c.loop-mark.block _ _ _ _ c.loop-mark.invariant (shown_line (mark_line step.0)) (shown_lines mark_line c.next.new.self) (ap (shown_lines mark_line) step.1)
    (c.put_mark.ensures step.0 step.2) _ _ (ap is_ok c.in_err-put_mark.was) (fails-at c.from_residual.result _ c.from_residual.ensures.1)

pub loop-mark-preserved : goal.loop-mark-preserved
loop-mark-preserved g c =
    let step = c.in-Some.ensures.steps in
    Sending-more g.K.Sink.can_fail _ _ _ c.loop-mark.block _ _ _ _ c.loop-mark.invariant (shown_line (mark_line step.0)) (shown_lines mark_line c.next.new.self) (ap (shown_lines mark_line) step.1)
    (c.put_mark.ensures step.0 step.2) (ap is_ok c.in_ok-put_mark.was)

pub returns : goal.returns
returns g c =
    Sending-done g.K.Sink.can_fail _ _ c.loop-mark.block _ true (rw c.in-None.ensures.steps.0 at c.loop-mark.invariant) refl
