use Rattle.sqlite.specs.Held.{state}
use Rattle.desk_rows.proofs.Schema.Schemas.{shows_committed, still_left}
use Rattle.desk_rows.proofs.laws.found_again.Goals as goal

pub returns-clause-left : goal.returns-clause-left
returns-clause-left g c = still_left (state g.S.Store c.args.last.now) (state g.T.Store c.args.next.now)

pub returns-clause-shows : goal.returns-clause-shows
returns-clause-shows g c opens = shows_committed (state g.T.Store c.args.next.now) opens c.schema.ensures.live
