use Rattle.std.proofs.Common.{◌≡◌, map, true}
use Rattle.sqlite.specs.State.{HasCleanDisk, KeepsCommit, Survives}
use Rattle.desk_parts.specs.Puts.{put_of}
use Rattle.desk_rows.proofs.RowPuts.Changing.{ArePut}
use Rattle.sql_tables.specs.States.{seen}
use Rattle.desk_rows.proofs.put_statements.put_all.Given as goal

-- those so far are put, and nothing is committed
abbrev pub invariant-loop-one : goal.invariant-loop-one
invariant-loop-one g l =
    let old = seen g.S.Store l.fn.tx in
    let now = seen g.S.Store l.tx in
    record {
      same : l.tx.conn.ghost_name ≡ l.fn.tx.conn.ghost_name;
      survives : Survives old now (λ _. ⊥);
      kept : HasCleanDisk now → KeepsCommit old now;
      inside : HasCleanDisk now → old.in_transaction ≡ true → now.in_transaction ≡ true;
      put : HasCleanDisk now → ArePut g.S.Store (map put_of l.yielded) l.fn.tx.conn.now l.tx.conn.now;
    }
