-- What a connection shows of a table, and what a crash may leave.
use Rattle.std.specs.Prelude.{◌≡◌, ℕ, List, [], None, IsTrue}
use Rattle.sqlite_trees.specs.Tree.{Trees}
use Rattle.sqlite_trees.specs.declared.store.Store.{Ghosts}
use Rattle.sqlite_schema.specs.declared.schema.Table.{Table}
use Rattle.sqlite_catalog.specs.Listing.{IsSound}
use Rattle.sqlite_resolve.specs.declared.compiled.Compiled.{Compiled}
use Rattle.sqlite.specs.declared.error.Error.{Error}
use Rattle.sqlite.specs.Effect.{Database, RefusesToRead}
use Rattle.sqlite.specs.Held.{state}
use Rattle.sqlite.specs.Listing.{IsSourceOf, reads_listing}
use Rattle.sqlite.specs.State.{State, IsStatement, KeepsCommit}
use Rattle.sqlite.specs.declared.transaction.Transaction.{Transaction}
use Rattle.sql_tables.specs.Tables.{IsDeclared}

-- what a transaction shows
abbrev pub seen : {S : Type 0} (g : Ghosts S) → Transaction S → State
seen g tx = state g tx.conn.now

-- a crash now leaves only trees with this
abbrev pub Leaves : (Trees → Type 0) → State → Type 0
Leaves P s = (db : Trees) → s.may_leave db → P db

-- a crash now leaves just the trees that the connection shows
abbrev pub IsSettled : State → Type 0
IsSettled s = Leaves (λ db. db ≡ s.now.trees) s

-- the connection is open, and shows the last commit
abbrev pub IsCommitted : State → Type 0
IsCommitted s = IsTrue s.is_open × (s.committed ≡ s.now)

-- If the connection is still open, its last commit is that of before, and it shows it.
abbrev pub IsUndone : State → State → Type 0
IsUndone old new = KeepsCommit old new × (IsTrue new.is_open → new.now ≡ new.committed)

-- If the connection is still open, it shows what it showed before.
abbrev pub ShowsAsBefore : State → State → Type 0
ShowsAsBefore old new = IsTrue new.is_open → new.now ≡ old.now

-- the connection shows a database in which this table is declared
pub record HasTable (table : Table) (s : State) : Type 0 where
  pub declared : IsDeclared s.now.schema table
  pub sound : IsSound s.now.schema s.now.trees

-- A statement without parameters has an answer in this state: it is understood there, is one
-- statement and doesn't read the time, and nothing that it reads is of a wrong type or gives a sum
-- that overflows.
pub record HasAnswer (text : List ℕ) (s : State) : Type 0 where
  pub compiled : Compiled
  pub is : IsStatement s text [] compiled
  pub timeless : compiled.formats ≡ []
  pub unrefused : (db : Database) → IsSourceOf (reads_listing s.now.schema text) s.now db
      → (e : Error) → ¬ RefusesToRead None compiled.command db [] e
