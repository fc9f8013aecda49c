use Rattle.sqlite.specs.Held.{state}
use Rattle.desk_rows.proofs.Schema.Schemas.{shows_own}
use Rattle.desk_rows.proofs.laws.one_file.Goals as goal

pub returns : goal.returns
returns g c is_open l contents is = shows_own (state g.S.Store c.args.conn.now) l contents c.schema.ensures.live is_open is
