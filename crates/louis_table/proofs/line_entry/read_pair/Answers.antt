use Rattle.std.proofs.Common.{◌≡◌, ◌∷◌, [], List, ℕ, true, false, refl, Some, Ok, Err, sym, ap, subst, ◌∙◌, rules}
use Rattle.std.proofs.lemmas.Result.{err_from_is_err_and}
use Rattle.louis_table.specs.declared.opcode.Opcode.TheVariants.{UpLow}
use Rattle.louis_table.specs.Table.{Pairs}
use Rattle.louis_table.specs.Steps.Dots.{are_many_of_two}
use Rattle.louis_table.specs.Steps.Line.{IsVerdict, both_at, judge_opcode}
use Rattle.louis_table.proofs.StepLaws.{only_two, is_there, is_missing, operands_fault, characters_fault, judged, pair_fault, pair_at}
use Rattle.louis_table.proofs.line_entry.read_pair.Goals as goal

pub returns-in_err-characters : goal.returns-in_err-characters
returns-in_err-characters c = search (rules, operands_fault)

pub returns-in_default : goal.returns-in_default
returns-in_default c = search (rules, characters_fault)

pub returns-in_err-cells : goal.returns-in_err-cells
returns-in_err-cells c =
    let two : c.in_ok-characters.characters.items ≡ c.upper-item.result ∷ c.lower-item.result ∷ [] =
    sym c.as_slice.ensures.value ∙ only_two _ _ _ c.in-len2.len_at_least c.in-len2.len_below c.upper-item.is c.lower-item.is in
    let both : both_at c.args.operands.now ≡ Ok (c.upper-item.result ∷ c.lower-item.result ∷ [], c.in_ok-characters.dots.now) =
    c.in_ok-characters.ensures.ok ∙ ap (λ (t : List ℕ). Ok (t, c.in_ok-characters.dots.now)) two in
    let exit = err_from_is_err_and c.from_residual-in_err-cells.result c.from_residual-in_err-cells.ensures.1 in
    subst (λ r. IsVerdict r (judge_opcode c.args.table.now UpLow c.args.operands.now)) (sym (exit.1 ∙ ap (λ e. Err e) exit.2))
    (pair_fault c.args.operands.now c.in_ok-characters.dots.now c.upper-item.result c.lower-item.result both c.args.table.now c.in_err-cells.field-0.0 c.in_err-cells.ensures)

pub returns-then-is_taken : goal.returns-then-is_taken
returns-then-is_taken c =
    let two : c.in_ok-characters.characters.items ≡ c.upper-item.result ∷ c.lower-item.result ∷ [] =
    sym c.as_slice.ensures.value ∙ only_two _ _ _ c.in-len2.len_at_least c.in-len2.len_below c.upper-item.is c.lower-item.is in
    let both : both_at c.args.operands.now ≡ Ok (c.upper-item.result ∷ c.lower-item.result ∷ [], c.in_ok-characters.dots.now) =
    c.in_ok-characters.ensures.ok ∙ ap (λ (t : List ℕ). Ok (t, c.in_ok-characters.dots.now)) two in
    let reported = c.in_ok-cells.ensures in
    judged c.args.table.now UpLow c.args.operands.now (Pairs c.upper-item.result reported.0.0 c.lower-item.result reported.0.1) true _ _
    (pair_at c.args.operands.now c.in_ok-characters.dots.now c.upper-item.result c.lower-item.result both reported.0.0 reported.0.1 reported.1) (sym c.is_taken.ensures ∙ c.if-is_taken.true) refl refl

pub returns-in_err-upper_cells : goal.returns-in_err-upper_cells
returns-in_err-upper_cells c =
    let two : c.in_ok-characters.characters.items ≡ c.upper-item.result ∷ c.lower-item.result ∷ [] =
    sym c.as_slice.ensures.value ∙ only_two _ _ _ c.in-len2.len_at_least c.in-len2.len_below c.upper-item.is c.lower-item.is in
    let both : both_at c.args.operands.now ≡ Ok (c.upper-item.result ∷ c.lower-item.result ∷ [], c.in_ok-characters.dots.now) =
    c.in_ok-characters.ensures.ok ∙ ap (λ (t : List ℕ). Ok (t, c.in_ok-characters.dots.now)) two in
    is_missing _ _ c.from_residual-in_err-upper_cells.result _ c.ok_or.ensures.value c.in_err-upper_cells.was c.from_residual-in_err-upper_cells.ensures.1 (λ none.
    let reported = rw none at c.in_ok-cells.ensures in
    judged c.args.table.now UpLow c.args.operands.now (Pairs c.upper-item.result reported.0.0 c.lower-item.result reported.0.1) false false true
    (pair_at c.args.operands.now c.in_ok-characters.dots.now c.upper-item.result c.lower-item.result both reported.0.0 reported.0.1 reported.1) (sym c.is_taken.ensures ∙ c.if-is_taken.false) refl reported.2)

pub returns : goal.returns
returns c =
    let two : c.in_ok-characters.characters.items ≡ c.upper-item.result ∷ c.lower-item.result ∷ [] =
    sym c.as_slice.ensures.value ∙ only_two _ _ _ c.in-len2.len_at_least c.in-len2.len_below c.upper-item.is c.lower-item.is in
    let both : both_at c.args.operands.now ≡ Ok (c.upper-item.result ∷ c.lower-item.result ∷ [], c.in_ok-characters.dots.now) =
    c.in_ok-characters.ensures.ok ∙ ap (λ (t : List ℕ). Ok (t, c.in_ok-characters.dots.now)) two in
    let reported = rw (is_there _ _ c.ok_or.ensures.value c.in_ok-upper_cells.was) at c.in_ok-cells.ensures in
    judged c.args.table.now UpLow c.args.operands.now (Pairs c.upper-item.result c.in_ok-upper_cells.upper_cells c.lower-item.result c.in_ok-upper_cells.lower_cells) false false false
    (pair_at c.args.operands.now c.in_ok-characters.dots.now c.upper-item.result c.lower-item.result both c.in_ok-upper_cells.upper_cells c.in_ok-upper_cells.lower_cells
    (reported.1 ∙ ap Some reported.2.0))
    (sym c.is_taken.ensures ∙ c.if-is_taken.false) refl
    (sym (ap are_many_of_two reported.2.0) ∙ reported.2.1)
