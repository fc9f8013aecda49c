use Rattle.std.proofs.Common.{◌∙◌, ap, sym}
use Rattle.std.specs.Prelude.{Contains}
use Rattle.sqlite.specs.Effect.{Database}
use Rattle.sqlite.specs.Held.{state}
use Rattle.sql_tables.specs.States.{IsSettled}
use Rattle.desk_store.proofs.Reopening.{finds_no_other, finds_such, keeps}
use Rattle.desk_store.proofs.found.found_after_a_crash.Goals as goal

pub returns-clause-found : goal.returns-clause-found
returns-clause-found g c books make result leaves may anew opens =
    let next = c.args.next.now in
    let held = leaves (state g.T.Store next).committed.trees may in
    finds_such g.T.Store make next (state g.T.Store c.args.opened.now) anew c.schema.ensures.live (Contains books) held.0 held.1 held.2 result opens

pub returns-clause-kept : goal.returns-clause-kept
returns-clause-kept g c books make found leaves may anew opens =
    let next = c.args.next.now in
    let held = leaves (state g.T.Store next).committed.trees may in
    let settled : IsSettled (state g.T.Store next) =
    λ db left. g.met.T.Store.settled next.store db anew.is_open left ∙ sym (ap (λ (d : Database). d.trees) anew.clean) in
    keeps g.T.Store make next (state g.T.Store c.args.opened.now) anew c.schema.ensures.live held.0 found held.2 settled opens

pub returns-clause-none : goal.returns-clause-none
returns-clause-none g c make result leaves may anew opens =
    let next = c.args.next.now in
    finds_no_other g.T.Store make next (state g.T.Store c.args.opened.now) anew c.schema.ensures.live (leaves (state g.T.Store next).committed.trees may) result opens
