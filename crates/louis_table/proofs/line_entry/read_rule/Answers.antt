use Rattle.std.proofs.Common.{◌≡◌, ◌<◌, ◌≤◌, List, ℕ, Option, length, true, false, ltb, refl, arith, Some, Ok, Err, sym, ap, subst, ◌∙◌, rules, lt-ltb, le-ltb}
use Rattle.std.proofs.lemmas.Result.{err_from_is_err_and}
use Rattle.louis_table.specs.declared.opcode.Opcode.TheVariants.{Replace}
use Rattle.louis_table.specs.Table.{Replaces, most_rule_characters}
use Rattle.louis_table.specs.Steps.Dots.{are_many_written}
use Rattle.louis_table.specs.Steps.Line.{IsVerdict, judge_opcode}
use Rattle.louis_table.proofs.EntryLaws.{or_left, or_right}
use Rattle.louis_table.proofs.StepLaws.{is_there, is_missing, neither, operands_fault, judged, rule_bad, rule_at}
use Rattle.louis_table.proofs.line_entry.read_rule.Goals as goal

pub returns-in_err-characters : goal.returns-in_err-characters
returns-in_err-characters c = search (rules, operands_fault)

pub returns-in_err-cells : goal.returns-in_err-cells
returns-in_err-cells c = λ meaning.
    let exit = err_from_is_err_and c.from_residual-in_err-cells.result c.from_residual-in_err-cells.ensures.1 in
    subst (λ r. IsVerdict r (judge_opcode meaning (Replace c.args.kind) c.args.operands.now)) (sym (exit.1 ∙ ap (λ e. Err e) exit.2))
    (rule_bad c.args.kind c.args.operands.now c.in_ok-characters.characters.items c.in_ok-characters.dots.now c.in_ok-characters.ensures.ok meaning c.in_err-cells.field-0.0 c.in_err-cells.ensures)

pub returns-then-len-gt-MOST_RULE_CHARACTERS : goal.returns-then-len-gt-MOST_RULE_CHARACTERS
returns-then-len-gt-MOST_RULE_CHARACTERS c = λ meaning.
    let reported = c.in_ok-cells.ensures in
    let long : most_rule_characters < length c.in_ok-characters.characters.items = omega (arith, c.in_ok-characters.characters.ok.0) in
    judged meaning (Replace c.args.kind) c.args.operands.now (Replaces c.args.kind c.in_ok-characters.characters.items reported.0) false false true
    (rule_at c.args.kind c.args.operands.now c.in_ok-characters.characters.items c.in_ok-characters.dots.now c.in_ok-characters.ensures.ok reported.0 reported.1) refl refl (or_left _ _ (lt-ltb _ _ long))

pub returns-in_err-cells-2 : goal.returns-in_err-cells-2
returns-in_err-cells-2 c = λ meaning.
    is_missing _ _ c.from_residual-in_err-cells-2.result _ c.ok_or.ensures.value c.in_err-cells-2.was c.from_residual-in_err-cells-2.ensures.1 (λ none.
    let reported = rw none at c.in_ok-cells.ensures in
    judged meaning (Replace c.args.kind) c.args.operands.now (Replaces c.args.kind c.in_ok-characters.characters.items reported.0) false false true
    (rule_at c.args.kind c.args.operands.now c.in_ok-characters.characters.items c.in_ok-characters.dots.now c.in_ok-characters.ensures.ok reported.0 reported.1) refl refl (or_right (ltb most_rule_characters (length c.in_ok-characters.characters.items)) _ reported.2))

pub returns : goal.returns
returns c = λ meaning.
    let reported = rw (is_there _ _ c.ok_or.ensures.value c.in_ok-cells-2.was) at c.in_ok-cells.ensures in
    let short : length c.in_ok-characters.characters.items ≤ most_rule_characters = omega (arith, c.in_ok-characters.characters.ok.0) in
    let same : c.from_vec.result ≡ c.in_ok-characters.characters.items = c.from_vec.ensures in
    subst (λ (t : List ℕ). judge_opcode meaning (Replace c.args.kind) c.args.operands.now ≡ Ok (Some (Replaces c.args.kind t c.in_ok-cells-2.cells))) (sym same)
    (judged meaning (Replace c.args.kind) c.args.operands.now (Replaces c.args.kind c.in_ok-characters.characters.items c.in_ok-cells-2.cells) false false false
    (rule_at c.args.kind c.args.operands.now c.in_ok-characters.characters.items c.in_ok-characters.dots.now c.in_ok-characters.ensures.ok c.in_ok-cells-2.cells (reported.1 ∙ ap (λ (o : Option (List ℕ)). Some o) reported.2.0)) refl refl
    (neither _ _ (le-ltb _ _ short) (sym (ap are_many_written reported.2.0) ∙ reported.2.1)))
