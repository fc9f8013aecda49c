use Rattle.std.proofs.Common.{◌∙◌, Ok, ap}
use Rattle.std.proofs.lemmas.Result.{err_from_is_err_and}
use Rattle.desk_session.proofs.Blocks.{IsFilling-line, IsFilling-none, ReadsBlock-failed, ReadsBlock-short}
use Rattle.desk_session.proofs.reader.read_block.Goals as goal

pub loop-left-init : goal.loop-left-init
loop-left-init g c = IsFilling-none _ c.args.input.now c.new.result c.args.count c.new.ensures.items

pub returns-in_err-is_whole : goal.returns-in_err-is_whole
returns-in_err-is_whole g c =
    let p = err_from_is_err_and c.from_residual.result c.from_residual.ensures.1 in
    rw p.1
    (ReadsBlock-failed _ _ _ _ _ _ c.loop-left.text c.loop-left.text _ _ _ c.loop-left.invariant c.loop-left-test.true g.S.Source.can_fail p.0
    (rw c.in_err-is_whole.was at c.read_line.ensures))

pub returns-then-not-is_whole : goal.returns-then-not-is_whole
returns-then-not-is_whole g c =
    ReadsBlock-short _ _ _ _ _ _ _ _ _ _ _ c.loop-left.invariant c.loop-left-test.true g.S.Source.can_fail
    (rw (c.in_ok-is_whole.was ∙ ap Ok c.if-not-is_whole.true) at c.read_line.ensures) c.add_line-text.ensures.holds

pub loop-left-preserved : goal.loop-left-preserved
loop-left-preserved g c =
    IsFilling-line _ _ _ _ _ _ _ _ _ _ _ c.loop-left.invariant c.loop-left-test.true g.S.Source.can_fail
    (rw (c.in_ok-is_whole.was ∙ ap Ok c.if-not-is_whole.false) at c.read_line.ensures) c.add_line-text.ensures.holds
