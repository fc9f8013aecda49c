use Rattle.sql_tables.specs.States.{seen}
use Rattle.desk_parts.specs.Puts.{put_of}
use Rattle.desk_rows.proofs.RowPuts.Changing.{put_ran}
use Rattle.desk_rows.proofs.put_statements.run_put.Goals as goal

pub returns-clause-put : goal.returns-clause-put
returns-clause-put g c clean =
    put_ran (put_of c.args.put.now) (seen g.S.Store c.args.tx.now) (seen g.S.Store c.run.new.tx) c.run.result (rw (c.put_text.ensures, c.requires) at (c.run.ensures.runs clean))
