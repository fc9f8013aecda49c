use Rattle.std.proofs.Common.{List, ℕ, true, false, not, eqb, length, refl, Some, Err, sym, ap, subst, ◌∙◌, rules}
use Rattle.std.proofs.lemmas.Result.{err_from_is_err_and}
use Rattle.louis_table.specs.declared.opcode.Opcode.TheVariants.{Announce}
use Rattle.louis_table.specs.Table.{Announces}
use Rattle.louis_table.specs.Steps.Dots.{are_many}
use Rattle.louis_table.specs.Steps.Line.{IsVerdict, judge_opcode}
use Rattle.louis_table.proofs.StepLaws.{is_there, is_missing, not_nil_from_test, judged, sign_missing, sign_fault, sign_at}
use Rattle.louis_table.proofs.line_entry.read_sign.Goals as goal

pub returns-then-is_empty : goal.returns-then-is_empty
returns-then-is_empty c = search (rules, sign_missing)

pub returns-in_err-cells : goal.returns-in_err-cells
returns-in_err-cells c =
    let exit = err_from_is_err_and c.from_residual.result c.from_residual.ensures.1 in
    subst (λ r. IsVerdict r (judge_opcode c.args.table.now (Announce c.args.sign) c.args.operands.now)) (sym (exit.1 ∙ ap (λ e. Err e) exit.2))
    (sign_fault c.args.sign c.args.operands.now c.next_field.result.0.now c.next_field.ensures.field c.args.table.now c.in_err-cells.field-0.0
    (not_nil_from_test _ _ c.is_empty.ensures c.if-is_empty.false) c.in_err-cells.ensures)

pub returns-then-not-is_empty : goal.returns-then-not-is_empty
returns-then-not-is_empty c =
    judged c.args.table.now (Announce c.args.sign) c.args.operands.now (Announces c.args.sign c.in_ok-cells.ensures.0) false true _
    (sign_at c.args.sign c.args.operands.now c.next_field.result.0.now c.next_field.ensures.field _ (not_nil_from_test _ _ c.is_empty.ensures c.if-is_empty.false) c.in_ok-cells.ensures.1)
    refl
    (ap (λ (t : List ℕ). not (eqb (length t) 0)) (sym c.sign.ensures) ∙ (ap not (sym c.is_empty-2.ensures) ∙ ap not c.if-not-is_empty.true))
    refl

pub returns-in_err-cells-2 : goal.returns-in_err-cells-2
returns-in_err-cells-2 c =
    is_missing _ _ c.from_residual-in_err-cells-2.result _ c.ok_or.ensures.value c.in_err-cells-2.was c.from_residual-in_err-cells-2.ensures.1 (λ none.
    let reported = rw none at c.in_ok-cells.ensures in
    judged c.args.table.now (Announce c.args.sign) c.args.operands.now (Announces c.args.sign reported.0) false false true
    (sign_at c.args.sign c.args.operands.now c.next_field.result.0.now c.next_field.ensures.field reported.0 (not_nil_from_test _ _ c.is_empty.ensures c.if-is_empty.false) reported.1)
    refl
    (ap (λ (t : List ℕ). not (eqb (length t) 0)) (sym c.sign.ensures) ∙ (ap not (sym c.is_empty-2.ensures) ∙ ap not c.if-not-is_empty.false))
    reported.2)

pub returns : goal.returns
returns c =
    let reported = rw (is_there _ _ c.ok_or.ensures.value c.in_ok-cells-2.was) at c.in_ok-cells.ensures in
    judged c.args.table.now (Announce c.args.sign) c.args.operands.now (Announces c.args.sign c.in_ok-cells-2.cells) false false false
    (sign_at c.args.sign c.args.operands.now c.next_field.result.0.now c.next_field.ensures.field c.in_ok-cells-2.cells (not_nil_from_test _ _ c.is_empty.ensures c.if-is_empty.false) (reported.1 ∙ ap Some reported.2.0))
    refl
    (ap (λ (t : List ℕ). not (eqb (length t) 0)) (sym c.sign.ensures) ∙ (ap not (sym c.is_empty-2.ensures) ∙ ap not c.if-not-is_empty.false))
    (sym (ap are_many reported.2.0) ∙ reported.2.1)
