use Rattle.std.proofs.Common.{◌≡◌, ◌∷◌, [], List, ℕ, true, false, refl, Some, Ok, Err, sym, ap, subst, ◌∙◌, rules}
use Rattle.std.proofs.lemmas.Result.{err_from_is_err_and}
use Rattle.louis_table.specs.declared.opcode.Opcode.TheVariants.{Define}
use Rattle.louis_table.specs.Table.{Defines}
use Rattle.louis_table.specs.Steps.Dots.{are_many}
use Rattle.louis_table.specs.Steps.Line.{IsVerdict, both_at, judge_opcode}
use Rattle.louis_table.proofs.StepLaws.{only_one, is_there, is_missing, operands_fault, characters_fault, judged, definition_fault, definition_at}
use Rattle.louis_table.proofs.line_entry.read_definition.Goals as goal

pub returns-in_err-characters : goal.returns-in_err-characters
returns-in_err-characters c = search (rules, operands_fault)

pub returns-in_default : goal.returns-in_default
returns-in_default c = search (rules, characters_fault)

pub returns-in_err-cells : goal.returns-in_err-cells
returns-in_err-cells c =
    let one : c.in_ok-characters.characters.items ≡ c.character-item.result ∷ [] = sym c.as_slice.ensures.value ∙ only_one _ _ c.in-len1.len_at_least c.in-len1.len_below c.character-item.is in
    let both : both_at c.args.operands.now ≡ Ok (c.character-item.result ∷ [], c.in_ok-characters.dots.now) =
    c.in_ok-characters.ensures.ok ∙ ap (λ (t : List ℕ). Ok (t, c.in_ok-characters.dots.now)) one in
    let exit = err_from_is_err_and c.from_residual-in_err-cells.result c.from_residual-in_err-cells.ensures.1 in
    subst (λ r. IsVerdict r (judge_opcode c.args.table.now (Define c.args.class) c.args.operands.now)) (sym (exit.1 ∙ ap (λ e. Err e) exit.2))
    (definition_fault c.args.class c.args.operands.now c.in_ok-characters.dots.now c.character-item.result both c.args.table.now c.in_err-cells.field-0.0 c.in_err-cells.ensures)

pub returns-then-defines : goal.returns-then-defines
returns-then-defines c =
    let one : c.in_ok-characters.characters.items ≡ c.character-item.result ∷ [] = sym c.as_slice.ensures.value ∙ only_one _ _ c.in-len1.len_at_least c.in-len1.len_below c.character-item.is in
    let both : both_at c.args.operands.now ≡ Ok (c.character-item.result ∷ [], c.in_ok-characters.dots.now) =
    c.in_ok-characters.ensures.ok ∙ ap (λ (t : List ℕ). Ok (t, c.in_ok-characters.dots.now)) one in
    judged c.args.table.now (Define c.args.class) c.args.operands.now (Defines c.character-item.result (record { class = c.args.class; cells = c.in_ok-cells.ensures.0 })) true _ _
    (definition_at c.args.class c.args.operands.now c.in_ok-characters.dots.now c.character-item.result both c.in_ok-cells.ensures.0 c.in_ok-cells.ensures.1)
    (sym c.defines.ensures ∙ c.if-defines.true) refl refl

pub returns-in_err-cells-2 : goal.returns-in_err-cells-2
returns-in_err-cells-2 c =
    let one : c.in_ok-characters.characters.items ≡ c.character-item.result ∷ [] = sym c.as_slice.ensures.value ∙ only_one _ _ c.in-len1.len_at_least c.in-len1.len_below c.character-item.is in
    let both : both_at c.args.operands.now ≡ Ok (c.character-item.result ∷ [], c.in_ok-characters.dots.now) =
    c.in_ok-characters.ensures.ok ∙ ap (λ (t : List ℕ). Ok (t, c.in_ok-characters.dots.now)) one in
    is_missing _ _ c.from_residual-in_err-cells-2.result _ c.ok_or.ensures.value c.in_err-cells-2.was c.from_residual-in_err-cells-2.ensures.1 (λ none.
    let reported = rw none at c.in_ok-cells.ensures in
    judged c.args.table.now (Define c.args.class) c.args.operands.now (Defines c.character-item.result (record { class = c.args.class; cells = reported.0 })) false false true
    (definition_at c.args.class c.args.operands.now c.in_ok-characters.dots.now c.character-item.result both reported.0 reported.1)
    (sym c.defines.ensures ∙ c.if-defines.false) refl reported.2)

pub returns : goal.returns
returns c =
    let one : c.in_ok-characters.characters.items ≡ c.character-item.result ∷ [] = sym c.as_slice.ensures.value ∙ only_one _ _ c.in-len1.len_at_least c.in-len1.len_below c.character-item.is in
    let both : both_at c.args.operands.now ≡ Ok (c.character-item.result ∷ [], c.in_ok-characters.dots.now) =
    c.in_ok-characters.ensures.ok ∙ ap (λ (t : List ℕ). Ok (t, c.in_ok-characters.dots.now)) one in
    let reported = rw (is_there _ _ c.ok_or.ensures.value c.in_ok-cells-2.was) at c.in_ok-cells.ensures in
    judged c.args.table.now (Define c.args.class) c.args.operands.now (Defines c.character-item.result (record { class = c.args.class; cells = c.in_ok-cells-2.cells })) false false false
    (definition_at c.args.class c.args.operands.now c.in_ok-characters.dots.now c.character-item.result both c.in_ok-cells-2.cells (reported.1 ∙ ap Some reported.2.0))
    (sym c.defines.ensures ∙ c.if-defines.false) refl (sym (ap are_many reported.2.0) ∙ reported.2.1)
