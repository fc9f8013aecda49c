use Rattle.std.proofs.Common.{◌∙◌, Ok, ap}
use Rattle.std.proofs.lemmas.Result.{err_from_is_err_and}
use Rattle.desk_ends.proofs.LineReading.{IsReading-filled, IsReading-more, ReadsLine-failed, ReadsLine-fed, ReadsLine-over}
use Rattle.desk_ends.proofs.input.Input.read_line.Goals as goal

pub returns-then-pass_line : goal.returns-then-pass_line
returns-then-pass_line g c =
    ReadsLine-fed _ _ _ c.loop-self.self _ c.loop-self.line _ c.loop-self.invariant g.S.Source.can_fail (rw c.if-pass_line.true at c.pass_line.ensures)

pub returns-in_err-fill : goal.returns-in_err-fill
returns-in_err-fill g c =
    let part = IsReading-more _ _ _ c.loop-self.self _ c.loop-self.line _ c.loop-self.invariant (rw c.if-pass_line.false at c.pass_line.ensures) in
    let p = err_from_is_err_and c.from_residual.result c.from_residual.ensures.1 in
    let fills = rw c.in_err-fill.was at c.fill.ensures in
    rw p.1 (ReadsLine-failed g.S.Source.can_fail _ _ _ _ _ _ _ part p.0 fills)

pub returns-then-not-branch : goal.returns-then-not-branch
returns-then-not-branch g c =
    let part = IsReading-more _ _ _ c.loop-self.self _ c.loop-self.line _ c.loop-self.invariant (rw c.if-pass_line.false at c.pass_line.ensures) in
    ReadsLine-over g.S.Source.can_fail _ _ _ _ _ _ _ part (rw (c.in_ok-fill.was ∙ ap Ok c.if-not-branch.true) at c.fill.ensures)

pub loop-self-preserved : goal.loop-self-preserved
loop-self-preserved g c =
    let part = IsReading-more _ _ _ c.loop-self.self _ c.loop-self.line _ c.loop-self.invariant (rw c.if-pass_line.false at c.pass_line.ensures) in
    IsReading-filled g.S.Source.can_fail _ _ _ _ _ _ _ part (rw (c.in_ok-fill.was ∙ ap Ok c.if-not-branch.false) at c.fill.ensures).0
