use Rattle.sqlite.specs.Held.{state}
use Rattle.desk_store.proofs.StandingBooks.{found_there}
use Rattle.desk_store.proofs.laws.found_where_it_stands.Goals as goal

pub returns : goal.returns
returns g c make = found_there g.S.Store make c.args.old.now (state g.S.Store c.args.new.now)
