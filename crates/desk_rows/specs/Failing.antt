-- Why a change in one transaction fails, in the database's words. Between two statements the
-- connection keeps its limit on steps and counts its failures, and a crash leaves nothing new.
use Rattle.std.specs.Prelude.{◌≡◌, ◌⊎◌, List, [], ◌∷◌, ◌++◌, map, Option, Some}
use Rattle.std.specs.Iterator.{YieldsThen}
use Rattle.sqlite_trees.specs.declared.store.Store.{Ghosts}
use Rattle.sqlite.specs.declared.error.Error.{Error}
use Rattle.sqlite.specs.Held.{Held, state}
use Rattle.sqlite.specs.State.{State, Fails, Survives}
use Rattle.desk_rows.specs.Making.{AreMade, MakesTables, creation, first_row}
use Rattle.desk_rows.specs.Puts.{OfItems, PutsAll, StopsAt, statement}
use Rattle.desk_rows.specs.Statements.{FailsWith, Ran, RunInTurn, Stops}
use Rattle.desk_parts.specs.declared.file_table.FileTable.{FileTable}
use Rattle.desk_parts.specs.declared.file_table.FileTable.TheVariants as tables
use Rattle.desk_parts.specs.declared.put.Put.{Put}
use Rattle.desk_parts.specs.Puts.{PutRow, put_of}

-- Of these tables those so far were made, and this is what the database answered to the statement
-- that makes the next.
pub record StopsMaking {S : Type 0} (g : Ghosts S) (tables : List FileTable) (old : Held S) (new : State) (e : Error)
    : Type 0 where
  pub done : List FileTable
  pub next : FileTable
  pub later : List FileTable
  pub all : tables ≡ done ++ next ∷ later
  pub stops : Stops g (map creation done) (FailsWith (creation next)) old new e
  pub made : MakesTables done (state g old) (state g stops.before)

-- How rows are put within a transaction: what stops it, and what it does if nothing does.
pub record Putting (S : Type 0) : Type 1 where
  pub stops : Held S → State → Error → Type 0
  pub puts : Held S → Held S → Type 0

-- What an iterator gives, each item by its statement; the first that isn't put stops it.
abbrev pub of_items : {S I : Type 0} → Ghosts S → (I → Option Put → I → Type 0) → I → Putting S
of_items {S} {I} g gives it = record {
  stops = λ old new e. (lent : List Put) × (next : Put) × (rest : I) × YieldsThen gives it lent (Some next) rest
      × StopsAt g (map put_of lent) (put_of next) old new e;
  puts = λ old new. OfItems gives it
      (λ xs. PutsAll xs (state g old) (state g new) × RunInTurn g (map statement xs) old new);
}

-- the row of a new book
abbrev pub of_first_row : {S : Type 0} → Ghosts S → Putting S
of_first_row g = record {
  stops = λ old new e. FailsWith (statement (PutRow tables.Book first_row)) (state g old) new e;
  puts = λ old new. PutsAll (PutRow tables.Book first_row ∷ []) (state g old) (state g new)
      × Ran (statement (PutRow tables.Book first_row)) (state g old) (state g new);
}

-- These tables are made first: some of them aren't, or what is put then isn't.
abbrev pub after_tables : {S : Type 0} → Ghosts S → List FileTable → Putting S → Putting S
after_tables {S} g tables putting = record {
  stops = λ old new e. StopsMaking g tables old new e
      ⊎ ((made : Held S) × Survives (state g old) (state g made) (λ _. ⊥) × AreMade g tables old made
      × Survives (state g made) new (λ _. ⊥) × putting.stops made new e);
  puts = λ old new. (made : Held S) × Survives (state g old) (state g made) (λ _. ⊥) × AreMade g tables old made
      × Survives (state g made) (state g new) (λ _. ⊥) × putting.puts made new;
}

module _ {S : Type 0} (g : Ghosts S) where
  -- The putting is stopped, and then all of it is undone, or the store fails at the commit.
  pub data FailsToPut (putting : Putting S) (old : Held S) (new : State) (e : Error) : Type 0 where
    at_put : (last : Held S) → Survives (state g old) (state g last) (λ _. ⊥)
        → putting.stops old (state g last) e
        → Survives (state g last) new (λ _. ⊥) → FailsToPut putting old new e
    at_commit : (last : Held S) → Survives (state g old) (state g last) (λ _. ⊥)
        → putting.puts old last
        → Survives (state g last) new (λ db. db ≡ (state g last).now.trees)
        → Fails (state g last) new ⊥ e → FailsToPut putting old new e

  -- A table is not made, or the putting is stopped, and then all of it is undone; or the store
  -- fails at the commit.
  abbrev pub FailsToChange : List FileTable → Putting S → Held S → State → Error → Type 0
  FailsToChange tables putting = FailsToPut (after_tables g tables putting)
