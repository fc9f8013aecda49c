use Rattle.std.proofs.Common.{rules, [], refl}
use Rattle.sqlite.specs.Held.{state}
use Rattle.desk_store.specs.Completing.{which_new}
use Rattle.desk_rows.specs.Statements.{with_transaction}
use Rattle.desk_rows.proofs.Transactions.Both.{on_ok_both}
use Rattle.desk_store.proofs.GainedTables.{gains_none, leaves_gained, left_whole}
use Rattle.desk_store.proofs.opening.complete.Goals as goal

pub returns-in-Some-clause-fills : goal.returns-in-Some-clause-fills
returns-in-Some-clause-fills g c = rw c.in-Some.is c.fill.ensures.fills

pub returns-in-Some-clause-leaves : goal.returns-in-Some-clause-leaves
returns-in-Some-clause-leaves g c clean l stands left =
    let old = state g.S.Store c.args.conn.now in
    let new = state g.S.Store c.fill.new.conn in
    rw c.in-Some.is
    (on_ok_both c.fill.result _ _ _ (λ gained settled. leaves_gained l stands.1.0 c.args.book.now new (which_new c.in-Some.tables) old.now.trees gained settled)
    (c.fill.ensures.fills.filled clean l stands) (c.fill.ensures.settled clean))

pub returns-in-None-clause-fills : goal.returns-in-None-clause-fills
returns-in-None-clause-fills g c =
    let old = c.args.conn.now in
    rw c.in-None.is (record {
      filled = λ clean l stands. gains_none l stands.1.0 c.args.book.now (state g.S.Store old) stands.1.1 stands.1.2;
      crash = search rules;
      ran = λ clean. (with_transaction old, ([], [], (refl, refl), refl), refl);
      left = search rules;
      reported = tt;
      stops = λ clean. tt;
    })

pub returns-in-None-clause-leaves : goal.returns-in-None-clause-leaves
returns-in-None-clause-leaves g c clean l stands left =
    left_whole c.args.lacked l c.args.book.now (state g.S.Store c.args.conn.now) c.in-None.is left
