use Rattle.std.proofs.Common.{◌++◌, is_ok, true, refl, ap}
use Rattle.desk_ends.proofs.Sending.{Sending-done, Sending-fails, Sending-more, Sending-none, fails-at}
use Rattle.desk_line.specs.ReplyLines.{list_line, shown_line}
use Rattle.desk_line.proofs.Putting.{shown_lines}
use Rattle.desk_line.proofs.shown.put_list.Goals as goal

pub loop-paragraph-init : goal.loop-paragraph-init
loop-paragraph-init g c =
    Sending-none _ c.args.block.now _ _ (ap (λ things. c.args.block.now ++ shown_lines list_line things) c.into_iter-paragraph-iterator.ensures.into_iter_gives)

pub returns-in_err-put_listed : goal.returns-in_err-put_listed
returns-in_err-put_listed g c =
    let step = c.in-Some.ensures.steps in
    Sending-fails g.K.Sink.can_fail _ _ _ c.loop-paragraph.block _ _ _ _ c.loop-paragraph.invariant (shown_line (list_line step.0)) (shown_lines list_line c.next.new.self) (ap (shown_lines list_line) step.1)
    (c.put_listed.ensures step.0 step.2) _ _ (ap is_ok c.in_err-put_listed.was) (fails-at c.from_residual.result _ c.from_residual.ensures.1)

pub loop-paragraph-preserved : goal.loop-paragraph-preserved
loop-paragraph-preserved g c =
    let step = c.in-Some.ensures.steps in
    Sending-more g.K.Sink.can_fail _ _ _ c.loop-paragraph.block _ _ _ _ c.loop-paragraph.invariant (shown_line (list_line step.0)) (shown_lines list_line c.next.new.self) (ap (shown_lines list_line) step.1)
    (c.put_listed.ensures step.0 step.2) (ap is_ok c.in_ok-put_listed.was)

pub returns : goal.returns
returns g c =
    Sending-done g.K.Sink.can_fail _ _ c.loop-paragraph.block _ true (rw c.in-None.ensures.steps.0 at c.loop-paragraph.invariant) refl
