use Rattle.sqlite.specs.Held.{state}
use Rattle.desk_rows.proofs.Schema.Schemas.{shows_committed}
use Rattle.desk_session.proofs.FoundAgain.{is_found}
use Rattle.desk_session.proofs.laws.found_after_a_session.Goals as goal

pub returns : goal.returns
returns g c l book held ended turns given tables session ends left may opens =
    let s = state g.T.Store c.args.next.now in
    is_found l book held ended turns given s.committed.trees s tables session ends (left.leaves s.committed.trees may)
    (shows_committed s opens c.schema.ensures.live l)
