use Rattle.sqlite.specs.Held.{state}
use Rattle.desk_session.proofs.FoundAgain.{begins_after_a_stop}
use Rattle.desk_session.proofs.found.begins_where_opening_stopped_first.Goals as goal

pub returns : goal.returns
returns g c make book fault = begins_after_a_stop g.S.Store make book c.args.first.now c.args.old.now (state g.S.Store c.args.new.now) fault
