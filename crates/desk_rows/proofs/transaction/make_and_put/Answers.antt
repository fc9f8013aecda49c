use Rattle.std.proofs.Common.{inr, arith}
use Rattle.std.proofs.lemmas.Result.{IfErr-weaker, on_ok_weaker}
use Rattle.sqlite.specs.State.{HasCleanDisk}
use Rattle.sql_tables.specs.States.{seen}
use Rattle.desk_rows.proofs.transaction.make_and_put.Goals as goal

pub returns-clause-put : goal.returns-clause-put
returns-clause-put g c clean =
    let early : HasCleanDisk (seen g.S.Store c.create_all.new.tx) = omega (arith, clean, c.put_all.ensures.survives.clean) in
    on_ok_weaker c.put_all.result (λ it. (c.create_all.new.tx.conn.now, c.create_all.ensures.survives, c.in_ok-create_all.ensures.makes early, c.put_all.ensures.survives, it)) (c.put_all.ensures.put clean)

pub returns-clause-reported : goal.returns-clause-reported
returns-clause-reported g c clean was =
    let early : HasCleanDisk (seen g.S.Store c.create_all.new.tx) = omega (arith, clean, c.put_all.ensures.survives.clean) in
    IfErr-weaker c.put_all.result _ _ (λ e stopped. inr (c.create_all.new.tx.conn.now, c.create_all.ensures.survives, c.in_ok-create_all.ensures.makes early, c.put_all.ensures.survives, stopped))
    (c.put_all.ensures.reported clean (c.in_ok-create_all.ensures.inside early was))
