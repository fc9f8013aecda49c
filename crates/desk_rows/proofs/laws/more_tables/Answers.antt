use Rattle.sqlite.specs.Held.{state}
use Rattle.desk_rows.proofs.Schema.MoreTables.{more_made}
use Rattle.desk_rows.proofs.laws.more_tables.Goals as goal

pub returns : goal.returns
returns g c l contents tables committed differ was makes = more_made l contents tables differ committed (state g.S.Store c.args.old.now) (state g.S.Store c.args.new.now) was makes
