use Rattle.std.proofs.Common.{Some, sym, ap, subst, ◌∙◌, rules}
use Rattle.louis_table.specs.declared.opcode.Opcode.TheVariants.{Replace}
use Rattle.louis_table.specs.Steps.Line.{IsVerdict}
use Rattle.louis_table.proofs.StepLaws.{is_there, is_missing, nil_from_test, not_nil_from_test, judge_line-skipped, judge_line-unknown, judge_line-known}
use Rattle.louis_table.proofs.line_entry.read_line.Goals as goal
use Rattle.louis_table.proofs.line_entry.read_line.Goals.{then-is_empty-via-else-is_empty+then-name-eq-COMMENT}

pub returns-then-is_empty : goal.returns-then-is_empty
returns-then-is_empty c = search (rules, judge_line-skipped, nil_from_test, then-is_empty-via-else-is_empty+then-name-eq-COMMENT)

pub returns-in_err-class : goal.returns-in_err-class
returns-in_err-class c = is_missing _ _ c.from_residual.result _ c.ok_or.ensures.value c.in_err-class.was c.from_residual.ensures.1 (λ none. judge_line-unknown c.args.table.now c.args.line.now c.next_field.result.0.now c.next_field.result.1.now c.next_field.ensures.field c.next_field.ensures.rest (not_nil_from_test _ _ c.is_empty.ensures c.if-is_empty.false) c.index-name-0.result c.index-name-0.is c.if-name-eq-COMMENT.false (sym none ∙ c.from_name.ensures))

pub returns-in-Define : goal.returns-in-Define
returns-in-Define c = search (rules, judge_line-known)

pub returns-in-UpLow : goal.returns-in-UpLow
returns-in-UpLow c = search (rules, judge_line-known)

pub returns-in-Replace : goal.returns-in-Replace
returns-in-Replace c =
    subst (IsVerdict c.read_rule.result) (sym (judge_line-known c.args.table.now c.args.line.now c.next_field.result.0.now c.next_field.result.1.now c.next_field.ensures.field c.next_field.ensures.rest (not_nil_from_test _ _ c.is_empty.ensures c.if-is_empty.false) c.index-name-0.result c.index-name-0.is c.if-name-eq-COMMENT.false (Replace c.in-Replace.kind) (ap Some (sym c.in-Replace.is) ∙ (sym (is_there _ _ c.ok_or.ensures.value c.in_ok-class.was) ∙ c.from_name.ensures)))) (c.read_rule.ensures c.args.table.now)

pub returns-in-Announce : goal.returns-in-Announce
returns-in-Announce c = search (rules, judge_line-known)

pub returns-in-Collect : goal.returns-in-Collect
returns-in-Collect c = search (rules, judge_line-known)
