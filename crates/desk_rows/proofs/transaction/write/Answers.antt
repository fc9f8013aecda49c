use Rattle.std.proofs.Common.{◌≡◌, rules}
use Rattle.sqlite.specs.Held.{state}
use Rattle.desk_rows.specs.Commits.{putting_items}
use Rattle.desk_rows.proofs.Commits.{comes_to}
use Rattle.desk_rows.proofs.Transactions.Committing.{left_items, shows_items}
use Rattle.desk_rows.proofs.Transactions.LostStores.{items_lost}
use Rattle.desk_rows.proofs.transaction.write.Goals as goal

pub returns : goal.returns
returns g c =
    let old = c.args.conn.now in
    let last = c.put_all-ran.new.tx.conn.now in
    let same : c.conn-1.given.0 ≡ c.end.new.tx.0 = search rules in
    let all = comes_to g.S.Store (putting_items g.S.Store g.I.Iterator.next_gives c.args.puts) old _ last
    c.begin-tx.ensures.begun c.put_all-ran.result c.end.result (state g.S.Store c.end.new.tx.0)
    c.put_all-ran.ensures.survives c.end.ensures.survives c.put_all-ran.ensures.put (shows_items g.S.Store g.I.Iterator.next_gives c.args.puts old last)
    (items_lost g.S.Store g.I.Iterator.next_gives c.args.puts)
    c.begin-tx.ensures.settled c.put_all-ran.ensures.kept c.put_all-ran.ensures.inside c.put_all-ran.ensures.reported c.end.ensures.ends
    (left_items g.S.Store g.I.Iterator.next_gives c.args.puts old last) in
    rw same (record { idle = c.end.ensures.ended; commits = all.0; crash = all.1 })
