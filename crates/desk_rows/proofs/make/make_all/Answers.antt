use Rattle.std.proofs.Common.{inr, arith}
use Rattle.std.proofs.lemmas.Result.{IfErr-weaker, on_ok_weaker}
use Rattle.sqlite.specs.State.{HasCleanDisk}
use Rattle.sql_tables.specs.States.{seen}
use Rattle.desk_rows.specs.Making.{first_row}
use Rattle.desk_rows.proofs.RowPuts.Changing.{puts_row, row_reported}
use Rattle.desk_rows.proofs.make.make_all.Goals as goal

pub returns-clause-put : goal.returns-clause-put
returns-clause-put g c clean =
    let early : HasCleanDisk (seen g.S.Store c.create_all.new.tx) = omega (arith, clean, c.put_book.ensures.survives.clean) in
    on_ok_weaker c.put_book.result (λ it. (c.create_all.new.tx.conn.now, c.create_all.ensures.survives, c.in_ok-create_all.ensures.makes early, c.put_book.ensures.survives, it)) (puts_row first_row (seen g.S.Store c.create_all.new.tx) (seen g.S.Store c.put_book.new.tx) c.put_book.result (c.put_book.ensures.put clean))

pub returns-clause-reported : goal.returns-clause-reported
returns-clause-reported g c clean was =
    let early : HasCleanDisk (seen g.S.Store c.create_all.new.tx) = omega (arith, clean, c.put_book.ensures.survives.clean) in
    IfErr-weaker c.put_book.result _ _ (λ e stopped. inr (c.create_all.new.tx.conn.now, c.create_all.ensures.survives, c.in_ok-create_all.ensures.makes early, c.put_book.ensures.survives, stopped))
    (row_reported first_row (seen g.S.Store c.create_all.new.tx) (seen g.S.Store c.put_book.new.tx) c.put_book.result (c.put_book.ensures.put clean) (c.in_ok-create_all.ensures.inside early was))
