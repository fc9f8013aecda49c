use Rattle.std.proofs.lemmas.Result.{err_from_is_err_and}
use Rattle.desk_rows.specs.TableQuery.{query_of}
use Rattle.desk_rows.proofs.TableReads.Beginnings.{kinds_there}
use Rattle.desk_rows.proofs.read.all_of.Goals as goal

pub returns-in_err-from_row-clause-kinds : goal.returns-in_err-from_row-clause-kinds
returns-in_err-from_row-clause-kinds g c all =
    let p = err_from_is_err_and c.from_residual.result c.from_residual.ensures.1 in
    rw (p.1, p.2)
    (c.in_err-from_row.ensures.kinds (kinds_there (query_of g.T.TableRow.table).kinds c.args.rows.now c.loop-row.row-index c.row-item.result c.loop-row-test.true c.row-item.is all))
