use Rattle.std.proofs.Common.{◌≡◌, rules}
use Rattle.sqlite.specs.Held.{state}
use Rattle.desk_rows.specs.Commits.{making_file}
use Rattle.desk_rows.specs.Failing.{of_first_row}
use Rattle.desk_rows.specs.Making.{new_tables}
use Rattle.desk_rows.proofs.Commits.{comes_to}
use Rattle.desk_rows.proofs.Schema.MadeTables.{left_made, shows_made}
use Rattle.desk_rows.proofs.Transactions.LostStores.{first_row_lost, tables_lost}
use Rattle.desk_rows.proofs.make.make_tables.Goals as goal

pub returns : goal.returns
returns g c =
    let old = c.args.conn.now in
    let last = c.make_all-ran.new.tx.conn.now in
    let same : c.conn-1.given.0 ≡ c.end.new.tx.0 = search rules in
    let all = comes_to g.S.Store (making_file g.S.Store) old _ last
    c.begin-tx.ensures.begun c.make_all-ran.result c.end.result (state g.S.Store c.end.new.tx.0)
    c.make_all-ran.ensures.survives c.end.ensures.survives c.make_all-ran.ensures.put (shows_made g.S.Store old last c.begin-tx.ensures.live)
    (tables_lost g.S.Store new_tables (of_first_row g.S.Store) (first_row_lost g.S.Store))
    c.begin-tx.ensures.settled c.make_all-ran.ensures.kept c.make_all-ran.ensures.inside c.make_all-ran.ensures.reported c.end.ensures.ends
    (left_made g.S.Store old last c.begin-tx.ensures.live) in
    rw same (record { idle = c.end.ensures.ended; commits = all.0; crash = all.1 })
