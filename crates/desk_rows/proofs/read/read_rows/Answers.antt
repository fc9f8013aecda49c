use Rattle.std.proofs.Common.{[], map, sym, ap, subst, ◌∙◌}
use Rattle.std.specs.List.{AllByRecursion}
use Rattle.std.proofs.lemmas.Result.{IfErr-weaker, IfOk-weaker, err_from_is_err_and}
use Rattle.sqlite.specs.Held.{state}
use Rattle.sql_tables.specs.Kinds.{HasKinds}
use Rattle.sql_tables.proofs.Quiet.{commits_nothing}
use Rattle.desk_rows.specs.TableQuery.{BeginWith, given, query_of}
use Rattle.desk_rows.specs.Descriptions.{description_of}
use Rattle.desk_rows.proofs.TableReads.Answering.{answers, fails}
use Rattle.desk_rows.proofs.TableReads.WholeReads.{reads_only}
use Rattle.desk_rows.proofs.read.read_rows.Goals as goal

pub returns-clause-answers : goal.returns-clause-answers
returns-clause-answers g c clean =
    let rows = sym c.deref.ensures.value in
    answers (λ xs. xs.items) g.T.TableRow.table g.T.TableRow.view (state g.S.Store c.args.conn.now) (state g.S.Store c.ask.new.conn) c.in_ok-rows.rows.items
    (rw c.query.ensures at (c.in_ok-rows.ensures.shown clean)) c.all_of.result
    (IfOk-weaker c.all_of.result _ _ (λ xs made. ap (map (given g.T.TableRow.table)) rows ∙ made) c.all_of.ensures.reads)
    (λ all. c.all_of.ensures.kinds (subst (AllByRecursion (HasKinds (query_of g.T.TableRow.table).kinds)) rows all)) c.all_of.ensures.not_lost
    (IfErr-weaker c.all_of.result _ _ (λ fault begins none. subst (BeginWith (query_of g.T.TableRow.table).kinds) (sym rows) (begins none)) c.all_of.ensures.no_memory) c.all_of.ensures.utf8

pub returns-in_err-rows-clause-answers : goal.returns-in_err-rows-clause-answers
returns-in_err-rows-clause-answers g c clean =
    let p = err_from_is_err_and c.from_residual.result c.from_residual.ensures.1 in
    rw (p.1, p.2)
    (fails (λ xs. xs.items) g.T.TableRow.table g.T.TableRow.view (state g.S.Store c.args.conn.now) (state g.S.Store c.ask.new.conn) _ (rw c.query.ensures at (c.in_err-rows.ensures.failed clean)))

pub returns-clause-survives : goal.returns-clause-survives
returns-clause-survives g c =
    commits_nothing (description_of g.T.TableRow.table).read (reads_only g.T.TableRow.table) [] (state g.S.Store c.args.conn.now) (state g.S.Store c.ask.new.conn) (rw c.query.ensures at c.ask.ensures.survives)

pub returns-in_err-rows-clause-survives : goal.returns-in_err-rows-clause-survives
returns-in_err-rows-clause-survives g c =
    commits_nothing (description_of g.T.TableRow.table).read (reads_only g.T.TableRow.table) [] (state g.S.Store c.args.conn.now) (state g.S.Store c.ask.new.conn) (rw c.query.ensures at c.ask.ensures.survives)
