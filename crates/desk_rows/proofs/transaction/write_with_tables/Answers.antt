use Rattle.std.proofs.Common.{◌≡◌, rules}
use Rattle.sqlite.specs.Held.{state}
use Rattle.desk_rows.specs.Commits.{making_tables}
use Rattle.desk_rows.specs.Failing.{of_items}
use Rattle.desk_rows.proofs.Commits.{comes_to}
use Rattle.desk_rows.proofs.Schema.MoreTables.{left_grown, shows_grown}
use Rattle.desk_rows.proofs.Transactions.LostStores.{items_lost, tables_lost}
use Rattle.desk_rows.proofs.transaction.write_with_tables.Goals as goal

pub returns : goal.returns
returns g c =
    let old = c.args.conn.now in
    let last = c.make_and_put-ran.new.tx.conn.now in
    let same : c.conn-1.given.0 ≡ c.end.new.tx.0 = search rules in
    let all = comes_to g.S.Store (making_tables g.S.Store c.args.tables.now g.I.Iterator.next_gives c.args.puts) old _ last
    c.begin-tx.ensures.begun c.make_and_put-ran.result c.end.result (state g.S.Store c.end.new.tx.0)
    c.make_and_put-ran.ensures.survives c.end.ensures.survives c.make_and_put-ran.ensures.put (shows_grown g.S.Store c.args.tables.now g.I.Iterator.next_gives c.args.puts old last)
    (tables_lost g.S.Store c.args.tables.now (of_items g.S.Store g.I.Iterator.next_gives c.args.puts) (items_lost g.S.Store g.I.Iterator.next_gives c.args.puts))
    c.begin-tx.ensures.settled c.make_and_put-ran.ensures.kept c.make_and_put-ran.ensures.inside c.make_and_put-ran.ensures.reported c.end.ensures.ends
    (left_grown g.S.Store c.args.tables.now g.I.Iterator.next_gives c.args.puts old last) in
    rw same (record { idle = c.end.ensures.ended; commits = all.0; crash = all.1 })
