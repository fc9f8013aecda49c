use Rattle.std.proofs.Common.{◌≡◌, ◌<◌, ◌≤◌, List, ℕ, length, true, false, not, eqb, refl, arith, Some, Ok, sym, ap, subst, ◌∙◌, rules, lt-ltb, le-ltb}
use Rattle.louis_table.specs.declared.opcode.Opcode.TheVariants.{Collect}
use Rattle.louis_table.specs.Table.{Collects, most_set_characters}
use Rattle.louis_table.specs.Steps.Line.{judge_opcode}
use Rattle.louis_table.proofs.StepLaws.{is_there, not_nil_from_test, judged, set_missing, set_bad, set_at}
use Rattle.louis_table.proofs.line_entry.read_set.Goals as goal

pub returns-then-is_empty : goal.returns-then-is_empty
returns-then-is_empty c = search (rules, set_missing)

pub returns-in_err-characters : goal.returns-in_err-characters
returns-in_err-characters c = search (rules, set_bad)

pub returns-then-not-is_empty : goal.returns-then-not-is_empty
returns-then-not-is_empty c =
    judged c.args.table.now (Collect c.args.set) c.args.operands.now (Collects c.args.set c.in_ok-characters.characters.items) false true _
    (set_at c.args.set c.args.operands.now c.next_field.result.0.now c.next_field.ensures.field c.in_ok-characters.characters.items (not_nil_from_test _ _ c.is_empty.ensures c.if-is_empty.false)
    (sym (rw (is_there _ _ c.ok_or.ensures.value c.in_ok-characters.was) at c.in-Ok.ensures)))
    refl
    (ap (λ (t : List ℕ). not (eqb (length t) 0)) (sym c.set.ensures) ∙ (ap not (sym c.is_empty-2.ensures) ∙ ap not c.if-not-is_empty.true))
    refl

pub returns-then-len-gt-MOST_SET_CHARACTERS : goal.returns-then-len-gt-MOST_SET_CHARACTERS
returns-then-len-gt-MOST_SET_CHARACTERS c =
    let long : most_set_characters < length c.in_ok-characters.characters.items = omega (arith, c.in_ok-characters.characters.ok.0) in
    judged c.args.table.now (Collect c.args.set) c.args.operands.now (Collects c.args.set c.in_ok-characters.characters.items) false false true
    (set_at c.args.set c.args.operands.now c.next_field.result.0.now c.next_field.ensures.field c.in_ok-characters.characters.items (not_nil_from_test _ _ c.is_empty.ensures c.if-is_empty.false)
    (sym (rw (is_there _ _ c.ok_or.ensures.value c.in_ok-characters.was) at c.in-Ok.ensures)))
    refl
    (ap (λ (t : List ℕ). not (eqb (length t) 0)) (sym c.set.ensures) ∙ (ap not (sym c.is_empty-2.ensures) ∙ ap not c.if-not-is_empty.false))
    (lt-ltb _ _ long)

pub returns : goal.returns
returns c =
    let short : length c.in_ok-characters.characters.items ≤ most_set_characters = omega (arith, c.in_ok-characters.characters.ok.0) in
    subst (λ (t : List ℕ). judge_opcode c.args.table.now (Collect c.args.set) c.args.operands.now ≡ Ok (Some (Collects c.args.set t))) (sym c.from_vec.ensures)
    (judged c.args.table.now (Collect c.args.set) c.args.operands.now (Collects c.args.set c.in_ok-characters.characters.items) false false false
    (set_at c.args.set c.args.operands.now c.next_field.result.0.now c.next_field.ensures.field c.in_ok-characters.characters.items (not_nil_from_test _ _ c.is_empty.ensures c.if-is_empty.false)
    (sym (rw (is_there _ _ c.ok_or.ensures.value c.in_ok-characters.was) at c.in-Ok.ensures)))
    refl
    (ap (λ (t : List ℕ). not (eqb (length t) 0)) (sym c.set.ensures) ∙ (ap not (sym c.is_empty-2.ensures) ∙ ap not c.if-not-is_empty.false))
    (le-ltb _ _ short))
