use Rattle.sqlite.specs.Held.{state}
use Rattle.desk_store.proofs.StoppedOpenings.{still_shown}
use Rattle.desk_store.proofs.found.still_shown_where_opening_stopped.Goals as goal

pub returns : goal.returns
returns g c fault stops same = still_shown g.S.Store c.args.old.now (state g.S.Store c.args.new.now) fault same stops
