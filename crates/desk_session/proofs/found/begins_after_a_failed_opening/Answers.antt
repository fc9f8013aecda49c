use Rattle.sqlite.specs.Held.{state}
use Rattle.desk_session.proofs.FoundAgain.{begins_again}
use Rattle.desk_session.proofs.found.begins_after_a_failed_opening.Goals as goal

pub returns : goal.returns
returns g c make book = begins_again g.S.Store make book c.args.old.now (state g.S.Store c.args.new.now)
