use Rattle.std.proofs.Common.{None, refl, Err, sym, ap, subst, ◌∙◌}
use Rattle.std.proofs.lemmas.Result.{err_from_is_err_and}
use Rattle.louis_table.specs.Steps.Dots.{rule_in, ReadsDots, are_many_written}
use Rattle.louis_table.proofs.StepLaws.{rule_in-equals, rule_fault, rule_reported, rule_unreported}
use Rattle.louis_table.proofs.dots.read_rule_cells.Goals as goal

pub returns-then-is_equals : goal.returns-then-is_equals
returns-then-is_equals c = (None, rule_in-equals c.args.dots.now (sym c.is_equals.ensures ∙ c.if-is_equals.true), (refl, refl))

pub returns-in_err-cells : goal.returns-in_err-cells
returns-in_err-cells c =
    let exit = err_from_is_err_and c.from_residual.result c.from_residual.ensures.1 in
    subst (λ r. ReadsDots are_many_written r (rule_in c.args.dots.now)) (sym (exit.1 ∙ ap (λ e. Err e) exit.2))
    (rule_fault c.args.dots.now c.in_err-cells.field-0.0 (sym c.is_equals.ensures ∙ c.if-is_equals.false) c.in_err-cells.ensures)

pub returns-in-Some : goal.returns-in-Some
returns-in-Some c = rule_reported c.args.dots.now c.in-Some.cells (sym c.is_equals.ensures ∙ c.if-is_equals.false) (rw c.in-Some.is at c.in_ok-cells.ensures)

pub returns-in-None : goal.returns-in-None
returns-in-None c = rule_unreported c.args.dots.now (sym c.is_equals.ensures ∙ c.if-is_equals.false) (rw c.in-None.is at c.in_ok-cells.ensures)
