use Rattle.std.proofs.Common.{◌≢◌, List, [], subst}
use Rattle.std.proofs.lemmas.Result.{err_from_is_err_and}
use Rattle.sqlite.specs.Held.{state}
use Rattle.desk_parts.specs.declared.file_table.FileTable.TheVariants as tables
use Rattle.desk_parts.specs.Rows.{StoredTab}
use Rattle.desk_rows.specs.Whole.{DifferBy}
use Rattle.desk_rows.proofs.TableReads.Answering.{are_apart, are_together, not_judged, still_not_read, tabs_begin}
use Rattle.desk_rows.proofs.read.read_tabs.Goals as goal

pub returns-in_err-tabs-clause-answers : goal.returns-in_err-tabs-clause-answers
returns-in_err-tabs-clause-answers g c clean =
    let p = err_from_is_err_and c.from_residual.result c.from_residual.ensures.1 in
    rw (p.1, p.2)
    (still_not_read (λ xs. xs.items) tables.Tab (λ x. x) (DifferBy (λ (s : StoredTab). s.rowid)) (state g.S.Store c.args.conn.now) (state g.S.Store c.read_rows.new.conn) c.in_err-tabs.field-0.0 (c.in_err-tabs.ensures.answers clean))

pub returns-in-Ok-true-clause-answers : goal.returns-in-Ok-true-clause-answers
returns-in-Ok-true-clause-answers g c clean =
    are_apart (λ xs. xs.items) tables.Tab (λ x. x) (DifferBy (λ (s : StoredTab). s.rowid)) (state g.S.Store c.args.conn.now) (state g.S.Store c.read_rows.new.conn)
    c.in_ok-tabs.tabs (c.in_ok-tabs.ensures.answers clean)
    (subst (DifferBy (λ (s : StoredTab). s.rowid)) c.deref.ensures.value (rw c.in-Ok-true.field-0-test at c.in-Ok-true.ensures.apart))

pub returns-in-Ok-false-clause-answers : goal.returns-in-Ok-false-clause-answers
returns-in-Ok-false-clause-answers g c clean =
    are_together (λ xs. xs.items) tables.Tab (λ x. x) (DifferBy (λ (s : StoredTab). s.rowid)) (state g.S.Store c.args.conn.now) (state g.S.Store c.read_rows.new.conn)
    c.in_ok-tabs.tabs (c.in_ok-tabs.ensures.answers clean)
    (subst (λ (xs : List StoredTab). ¬ DifferBy (λ (s : StoredTab). s.rowid) xs) c.deref.ensures.value (rw c.in-Ok-false.field-0-test at c.in-Ok-false.ensures.apart))

pub returns-in-Err-clause-answers : goal.returns-in-Err-clause-answers
returns-in-Err-clause-answers g c clean =
    let a = c.in_ok-tabs.ensures.answers clean in
    let some = subst (λ (xs : List StoredTab). xs ≢ []) c.deref.ensures.value c.in-Err.ensures.no_memory in
    not_judged (λ xs. xs.items) tables.Tab (λ x. x) (DifferBy (λ (s : StoredTab). s.rowid)) (state g.S.Store c.args.conn.now) (state g.S.Store c.read_rows.new.conn)
    c.in_ok-tabs.tabs a (tabs_begin a.gives.0 c.in_ok-tabs.tabs.items a.gives.2 some a.utf8)
