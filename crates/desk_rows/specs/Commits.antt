-- A transaction as a whole: the work that it is to do, and what it comes to.
use Rattle.std.specs.Prelude.{◌++◌, map, List, MatchResult, Option, Result}
use Rattle.sqlite_trees.specs.Tree.{Trees}
use Rattle.sqlite_trees.specs.declared.store.Store.{Ghosts}
use Rattle.sqlite.specs.declared.error.Error.{Error}
use Rattle.sqlite.specs.Held.{Held, state}
use Rattle.sqlite.specs.State.{State, Survives}
use Rattle.sql_tables.specs.States.{IsCommitted, IsSettled, IsUndone, ShowsAsBefore}
use Rattle.desk_parts.specs.declared.file_table.FileTable.{FileTable}
use Rattle.desk_parts.specs.declared.put.Put.{Put}
use Rattle.desk_rows.specs.Failing.{FailsToPut, Putting, after_tables, of_first_row, of_items}
use Rattle.desk_rows.specs.Fault.{CountsLoss, IsReportedAs}
use Rattle.desk_rows.specs.Making.{AreFreeIn, IsFileWithTables, IsMade, IsNew}
use Rattle.desk_rows.specs.Making.{WritesWithTables, creation, making, new_layout, new_tables}
use Rattle.desk_rows.specs.Puts.{IsFileWith, OfItems, Writes, statement}
use Rattle.desk_rows.specs.States.{ShowsContents}
use Rattle.desk_rows.specs.Statements.{AreRun, IsLeftBy, with_transaction}
use Rattle.desk_rows.specs.declared.fault.DatabaseFault.TheVariants.{Refused}

-- ---- the work

-- How it is done within a transaction, and, once this is committed, what the connection shows and
-- what trees a crash leaves.
pub record Work (S : Type 0) : Type 1 where
  pub putting : Putting S
  pub Shown : Held S → State → Type 0
  pub Left : Held S → Trees → Type 0

-- What an iterator gives is put in turn. In any file the connection shows what the statements made
-- of it.
abbrev pub putting_items : {S I : Type 0} → Ghosts S → (I → Option Put → I → Type 0) → I → Work S
putting_items g gives it = record {
  putting = of_items g gives it;
  Shown = λ old new. OfItems gives it (λ xs.
      Writes xs (state g old) new × AreRun g (map statement xs) old new);
  Left = λ old db. OfItems gives it (λ xs.
      IsFileWith xs (state g old) db × IsLeftBy g (map statement xs) old db);
}

-- these tables are made before that
abbrev pub making_tables : {S I : Type 0} → Ghosts S → List FileTable → (I → Option Put → I → Type 0) → I → Work S
making_tables g tables gives it = record {
  putting = after_tables g tables (of_items g gives it);
  Shown = λ old new. OfItems gives it (λ xs.
      WritesWithTables tables xs (state g old) new
      × AreRun g (map creation tables ++ map statement xs) old new);
  Left = λ old db. OfItems gives it (λ xs.
      IsFileWithTables tables xs (state g old) db
      × IsLeftBy g (map creation tables ++ map statement xs) old db);
}

-- The tables of a new file are made, with the row of a new book, where none of their names is
-- taken.
abbrev pub making_file : {S : Type 0} → Ghosts S → Work S
making_file g = record {
  putting = after_tables g new_tables (of_first_row g);
  Shown = λ old new. AreFreeIn (state g old).now.schema new_tables
      × IsNew (state g old).now.schema (state g old).now.trees
      (λ c. ShowsContents (new_layout (state g old).now.schema) c new)
      × AreRun g making old new;
  Left = λ old db. IsMade (state g old) db × IsLeftBy g making old db;
}

-- ---- what it comes to

-- It is committed: the connection is open and shows what was done, and a crash leaves just what it
-- shows.
pub record IsDone {S : Type 0} (work : Work S) (old : Held S) (new : State) : Type 0 where
  pub shown : work.Shown old new
  pub committed : IsCommitted new
  pub settled : IsSettled new

-- It isn't done, for this error, which has a cause. If the connection is still open, its last
-- commit is that of before, and it shows what it showed before. After a refusal a crash leaves
-- nothing new.
pub record IsGivenUp {S : Type 0} (g : Ghosts S) (work : Work S) (old : Held S) (new : State) (e : Error)
    : Type 0 where
  pub fails : FailsToPut g work.putting (with_transaction old) new e
  pub lost : CountsLoss (state g old) new e
  pub undone : IsUndone (state g old) new
  pub as_before : ShowsAsBefore (state g old) new
  pub refused : IsReportedAs e Refused → Survives (state g old) new (λ _. ⊥)

-- A transaction of its own with this work, from this connection to this state, is done or given up,
-- as this result says.
abbrev pub Commits : {S V : Type 0} → Ghosts S → Work S → Held S → State → Result V Error → Type 0
Commits g work old new result =
    MatchResult result (λ done. IsDone work old new) (IsGivenUp g work old new)
