use Rattle.std.proofs.Common.{◌≡◌, true, take}
use Rattle.sqlite.specs.State.{HasCleanDisk, KeepsCommit, Survives}
use Rattle.desk_rows.specs.Making.{AreMade}
use Rattle.sql_tables.specs.States.{seen}
use Rattle.desk_rows.proofs.make.create_all.Given as goal

-- those so far are made, and nothing is committed
abbrev pub invariant-loop-table : goal.invariant-loop-table
invariant-loop-table g l =
    let old = seen g.S.Store l.fn.tx in
    let now = seen g.S.Store l.tx in
    record {
      same : l.tx.conn.ghost_name ≡ l.fn.tx.conn.ghost_name;
      survives : Survives old now (λ _. ⊥);
      kept : HasCleanDisk now → KeepsCommit old now;
      inside : HasCleanDisk now → old.in_transaction ≡ true → now.in_transaction ≡ true;
      made : HasCleanDisk now → AreMade g.S.Store (take l.table-index l.tables) l.fn.tx.conn.now l.tx.conn.now;
    }
