use Rattle.std.proofs.Common.{ℕ, ◌++◌, subst, is_ok, true, refl, ap}
use Rattle.desk_ends.specs.Sending.{Transmits}
use Rattle.desk_ends.proofs.Sending.{Sending-done, Sending-fails, Sending-more, Sending-none, fails-at}
use Rattle.desk_line.specs.ReplyLines.{entry_line, shown_line}
use Rattle.desk_line.proofs.Putting.{shown_lines}
use Rattle.desk_line.proofs.shown.put_history.Goals as goal

pub loop-item-init : goal.loop-item-init
loop-item-init g c =
    Sending-none _ c.args.block.now _ _ (ap (λ things. c.args.block.now ++ shown_lines entry_line things) c.into_iter-item-iterator.ensures.into_iter_gives)

pub returns-in_err-put_entry : goal.returns-in_err-put_entry
returns-in_err-put_entry g c =
    let step = c.in-Some.ensures.steps in
    Sending-fails g.K.Sink.can_fail _ _ _ c.loop-item.block _ _ _ _ c.loop-item.invariant (shown_line (entry_line step.0)) (shown_lines entry_line c.next.new.self) (ap (shown_lines entry_line) step.1)
    (subst (λ (n : ℕ). Transmits g.K.Sink.can_fail (g.K.Sink.contents c.loop-item.sink) (g.K.Sink.contents c.put_entry.new.sink) (c.loop-item.block ++ shown_line (entry_line (n, step.0.1))) c.put_entry.new.block (is_ok c.put_entry.result))
    step.2 (c.put_entry.ensures step.0.1 step.3)) _ _ (ap is_ok c.in_err-put_entry.was) (fails-at c.from_residual.result _ c.from_residual.ensures.1)

pub loop-item-preserved : goal.loop-item-preserved
loop-item-preserved g c =
    let step = c.in-Some.ensures.steps in
    Sending-more g.K.Sink.can_fail _ _ _ c.loop-item.block _ _ _ _ c.loop-item.invariant (shown_line (entry_line step.0)) (shown_lines entry_line c.next.new.self) (ap (shown_lines entry_line) step.1)
    (subst (λ (n : ℕ). Transmits g.K.Sink.can_fail (g.K.Sink.contents c.loop-item.sink) (g.K.Sink.contents c.put_entry.new.sink) (c.loop-item.block ++ shown_line (entry_line (n, step.0.1))) c.put_entry.new.block (is_ok c.put_entry.result))
    step.2 (c.put_entry.ensures step.0.1 step.3)) (ap is_ok c.in_ok-put_entry.was)

pub returns : goal.returns
returns g c =
    Sending-done g.K.Sink.can_fail _ _ c.loop-item.block _ true (rw c.in-None.ensures.steps.0 at c.loop-item.invariant) refl
