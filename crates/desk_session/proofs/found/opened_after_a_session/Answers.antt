use Rattle.std.proofs.Common.{◌∙◌, ap, sym}
use Rattle.sqlite.specs.Effect.{Database}
use Rattle.sqlite.specs.Held.{state}
use Rattle.sql_tables.specs.States.{IsSettled}
use Rattle.desk_session.proofs.FoundAgain.{begins_found, finds_kept}
use Rattle.desk_session.proofs.found.opened_after_a_session.Goals as goal

pub returns-clause-found : goal.returns-clause-found
returns-clause-found g c l book held ended turns given tables session ends left may anew make result opens =
    let next = c.args.next.now in
    finds_kept g.T.Store make next (state g.T.Store c.args.opened.now) anew c.schema.ensures.live l tables book ended given
    (left.leaves (state g.T.Store next).committed.trees may) held turns session ends result opens

pub returns-clause-begins : goal.returns-clause-begins
returns-clause-begins g c l book held ended given tables left may anew make found opens =
    let next = c.args.next.now in
    let settled : IsSettled (state g.T.Store next) =
    λ db left. g.met.T.Store.settled next.store db anew.is_open left ∙ sym (ap (λ (d : Database). d.trees) anew.clean) in
    begins_found g.T.Store make next (state g.T.Store c.args.opened.now) anew c.schema.ensures.live l tables book ended given
    (left.leaves (state g.T.Store next).committed.trees may) settled found opens
