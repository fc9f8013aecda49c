use Rattle.std.proofs.Common.{ap, refl}
use Rattle.std.proofs.lemmas.Result.{err_from_is_err_and}
use Rattle.sqlite.specs.Held.{state}
use Rattle.sql_tables.specs.States.{seen}
use Rattle.sql_tables.proofs.Makes.{within}
use Rattle.sqlite.specs.Values.{bound}
use Rattle.desk_rows.proofs.Schema.Creates.{err_runs}
use Rattle.desk_rows.proofs.put_statements.run.Goals as goal

pub returns-clause-runs : goal.returns-clause-runs
returns-clause-runs g c clean = let old = seen g.S.Store c.args.tx.now in (c.in_ok-execute.field-0, c.in_ok-execute.ensures.runs clean (within old.in_transaction c.in_ok-execute.ensures.ended))

pub returns-in_err-execute-clause-runs : goal.returns-in_err-execute-clause-runs
returns-in_err-execute-clause-runs g c clean =
    let p = err_from_is_err_and c.from_residual.result c.from_residual.ensures.1 in
    let old = seen g.S.Store c.args.tx.now in
    rw (p.1, p.2) (err_runs c.args.text.now (bound c.args.params.now) old (seen g.S.Store c.execute.new.self) _ old.in_transaction refl (λ out. ap (state g.S.Store) (c.in_err-execute.ensures.ended out).1) (c.in_err-execute.ensures.runs clean))
