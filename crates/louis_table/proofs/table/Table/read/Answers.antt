use Rattle.std.proofs.Common.{◌+◌, ℕ, Result, Ok, Err, ap, ◌∙◌, eqb, take, IfOk, IfErr, count_by}
use Rattle.louis_table.specs.Table.{no_text, Means, without_byte_order_mark}
use Rattle.louis_table.specs.ReportedFault.{IsReportedOf}
use Rattle.louis_table.proofs.OneMeaning.{LinesMean-Means, LinesReport-IsReportedOf}
use Rattle.louis_table.proofs.table.Table.read.Goals as goal

at_ok : {T E : Type 0} (r : Result T E) (P Q : T → Type 0) → IfOk r P → ((x : T) → P x → Q x) → IfOk r Q
at_ok (Ok x) P Q h f = f x h
at_ok (Err e) P Q h f = tt

at_err : {T E : Type 0} (r : Result T E) (P Q : E → Type 0) → IfErr r P → ((x : E) → P x → Q x) → IfErr r Q
at_err (Ok x) P Q h f = tt
at_err (Err e) P Q h f = f e h

pub returns-in-Ok-clause-ok : goal.returns-in-Ok-clause-ok
returns-in-Ok-clause-ok c =
    at_ok c.read_text.result _ (Means c.args.text.now) c.read_text.ensures.ok
    (λ meaning. LinesMean-Means c.args.text.now c.without_byte_order_mark.result.now c.in-Ok.ensures.cases.1 (c.without_byte_order_mark.ensures ∙ ap without_byte_order_mark c.in-Ok.ensures.cases.0) meaning)

pub returns-in-Ok-clause-err : goal.returns-in-Ok-clause-err
returns-in-Ok-clause-err c =
    at_err c.read_text.result _ (IsReportedOf c.args.text.now) c.read_text.ensures.err
    (λ fault. LinesReport-IsReportedOf c.args.text.now c.without_byte_order_mark.result.now c.in-Ok.ensures.cases.1 (c.without_byte_order_mark.ensures ∙ ap without_byte_order_mark c.in-Ok.ensures.cases.0) fault)

pub returns-in-Err-clause-err : goal.returns-in-Err-clause-err
returns-in-Err-clause-err c =
    no_text c.in-Err.ensures.cases.0
    (c.line_of_byte.ensures ∙ ap (λ (n : ℕ). count_by (λ b. eqb b 10) (take n c.args.text.now) + 1) (c.valid_up_to.ensures ∙ c.in-Err.ensures.valid_len))
    c.number.ensures
