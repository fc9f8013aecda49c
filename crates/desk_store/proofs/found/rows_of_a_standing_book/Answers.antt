use Rattle.sqlite.specs.Held.{state}
use Rattle.desk_store.proofs.ShownRows.{shown_where_it_stands}
use Rattle.desk_store.proofs.found.rows_of_a_standing_book.Goals as goal

pub returns : goal.returns
returns g c = shown_where_it_stands (state g.S.Store c.args.conn.now)
