-- The contents once rows are put in turn.
use Rattle.std.specs.Prelude.{◌≡◌, ◌⊎◌, ℕ, true, List, [], ◌∷◌, map, fold, Option}
use Rattle.std.specs.Prelude.{Result, Ok, Err, IfErr, IsTrue, OnOk, ⊤}
use Rattle.std.specs.Iterator.{Drains}
use Rattle.std.specs.List.{AllByRecursion}
use Rattle.sqlite_value.specs.declared.value.Value.TheVariants.{Int, Text}
use Rattle.sqlite_value.specs.Order.{Row}
use Rattle.sqlite_trees.specs.declared.error.StoreError.TheVariants.{OutOfMemory}
use Rattle.sqlite_trees.specs.declared.store.Store.{Ghosts}
use Rattle.sqlite_trees.specs.Tree.{Trees}
use Rattle.sqlite.specs.declared.error.Error.{Error}
use Rattle.sqlite.specs.Effect.{Database}
use Rattle.sqlite.specs.Held.{Held, state}
use Rattle.sqlite.specs.State.{State, KeepsCommit, ExecutesInside, store_error}
use Rattle.desk_parts.specs.declared.file_table.FileTable.TheVariants as tables
use Rattle.desk_parts.specs.declared.put.Put.{Put}
use Rattle.desk_parts.specs.Puts.{RowPut, PutRow, SetColumns, Flags, Place, Print, Resolved}
use Rattle.desk_parts.specs.Puts.{Span, Table, Version, change_of, put_of, table_put}
use Rattle.desk_rows.specs.Contents.{Contents}
use Rattle.desk_rows.specs.Descriptions.{description_of}
use Rattle.desk_rows.specs.Layout.{Layout}
use Rattle.desk_rows.specs.Rows.{columns_of, set_at}
use Rattle.desk_rows.specs.States.{IsFile, IsUnder, ShowsContents}
use Rattle.desk_rows.specs.Statements.{FailsWith, Ran, Statement, Stops}
use Rattle.desk_rows.specs.declared.texts.TheConstants.{SET_FLAGS, SET_PLACE, SET_PRINT, SET_RESOLVED}
use Rattle.desk_rows.specs.declared.texts.TheConstants.{SET_SPAN, SET_TABLE, SET_VERSION}

-- the contents with this put: the row with its key is replaced, or the row added, or columns are
-- set in the row with the key
abbrev pub put_into : Contents → RowPut → Contents
put_into c it = record c { rows = set_at (table_put it) (change_of it) c.rows }

-- the contents with these put in turn
abbrev pub puts_into : List RowPut → Contents → Contents
puts_into puts c = fold put_into c puts

-- the tables that they change are there
abbrev pub HasThem : Layout → List RowPut → Type 0
HasThem l = AllByRecursion (λ it. l.has (table_put it) ≡ true)

-- The trees are a file with these put, of whatever file the connection showed that has their
-- tables.
abbrev pub IsFileWith : List RowPut → State → Trees → Type 0
IsFileWith puts s db =
    (l : Layout) (c : Contents) → HasThem l puts → ShowsContents l c s → IsFile l (puts_into puts c) db

-- All of these were put into whatever file the connection showed that has their tables.
abbrev pub Writes : List RowPut → State → State → Type 0
Writes puts old new =
    (l : Layout) (c : Contents) → HasThem l puts → ShowsContents l c old → ShowsContents l (puts_into puts c) new

-- ---- the statement of a put

-- The statement that puts a row of a table, or sets columns. Nothing is put into `corr`: there the
-- text is empty and takes no parameters, so that it never runs with the six columns of a row.
abbrev pub statement : RowPut → Statement
statement (PutRow t x) = record { text = (description_of t).put; params = columns_of t x }
statement (SetColumns tables.Book id (Version version)) =
    record { text = SET_VERSION.now; params = Int id ∷ Int version ∷ [] }
statement (SetColumns tables.Para id (Place place)) =
    record { text = SET_PLACE.now; params = Int id ∷ Int place ∷ [] }
statement (SetColumns tables.Para id (Flags style volume struck)) =
    record { text = SET_FLAGS.now; params = Int id ∷ Int style ∷ Int volume ∷ Int struck ∷ [] }
statement (SetColumns tables.Para id (Table tab)) =
    record { text = SET_TABLE.now; params = Int id ∷ Text tab ∷ [] }
statement (SetColumns tables.Para id (Print print)) =
    record { text = SET_PRINT.now; params = Int id ∷ Text print ∷ [] }
statement (SetColumns tables.Mark id (Span start stop touched)) =
    record { text = SET_SPAN.now; params = Int id ∷ Int start ∷ Int stop ∷ Int touched ∷ [] }
statement (SetColumns tables.Mark id (Resolved resolved)) =
    record { text = SET_RESOLVED.now; params = Int id ∷ Int resolved ∷ [] }
statement (SetColumns t key none) = absurd none

-- ---- what a statement within a transaction does

-- A statement ran inside a transaction with these parameters, or failed, as the database answers,
-- and committed nothing.
abbrev pub RunsTo : {V : Type 0} → Result V Error → List ℕ → Row → State → State → Type 0
RunsTo (Ok v) text params old new = (count : ℕ) × ExecutesInside 0 text params old new (Ok count)
RunsTo (Err e) text params old new =
    KeepsCommit old new × (old.in_transaction ≡ true → ExecutesInside 0 text params old new (Err e))

-- A put that allocates before its statement runs: a print is encoded, and cells are written as
-- bytes.
abbrev pub TakesMemory : RowPut → Type 0
TakesMemory (PutRow tables.Book row) = ⊥
TakesMemory (PutRow tables.Tab row) = ⊥
TakesMemory (PutRow tables.Para row) = ⊤
TakesMemory (PutRow tables.Corr row) = ⊥
TakesMemory (PutRow tables.Mark row) = ⊥
TakesMemory (PutRow tables.Cache row) = ⊤
TakesMemory (PutRow tables.NamedCorr row) = ⊥
TakesMemory (SetColumns tables.Book id (Version version)) = ⊥
TakesMemory (SetColumns tables.Para id (Place place)) = ⊥
TakesMemory (SetColumns tables.Para id (Flags style volume struck)) = ⊥
TakesMemory (SetColumns tables.Para id (Table tab)) = ⊥
TakesMemory (SetColumns tables.Para id (Print print)) = ⊤
TakesMemory (SetColumns tables.Mark id (Span start stop touched)) = ⊥
TakesMemory (SetColumns tables.Mark id (Resolved resolved)) = ⊥
TakesMemory (SetColumns t key none) = absurd none

-- nothing was done
pub record Rests (old new : State) : Type 0 where
  pub now : new.now ≡ old.now
  pub committed : new.committed ≡ old.committed
  pub is_open : new.is_open ≡ old.is_open
  pub inside : new.in_transaction ≡ old.in_transaction
  pub faults : new.faults ≡ old.faults

-- Why something isn't put: the database answered the error to its statement, or an allocation for
-- it failed, and nothing was done.
abbrev pub NotPut : RowPut → State → State → Error → Type 0
NotPut it old new e =
    FailsWith (statement it) old new e ⊎ (TakesMemory it × (e ≡ store_error OutOfMemory) × Rests old new)

-- Something is put into the contents, over the same commit, if its table is there, and the
-- transaction goes on; or, if a transaction was open, it is said why it isn't put.
pub record IsPut {V : Type 0} (result : Result V Error) (it : RowPut) (old new : State) : Type 0 where
  pub put : (committed : Database) (l : Layout) (c : Contents) → l.has (table_put it) ≡ true
      → IsUnder committed l c old → OnOk result (IsUnder committed l (put_into c it) new)
  pub ran : OnOk result (Ran (statement it) old new)
  pub is_open : OnOk result (IsTrue old.is_open)
  pub inside : OnOk result (new.in_transaction ≡ true)
  pub kept : KeepsCommit old new
  pub reported : old.in_transaction ≡ true → IfErr result (NotPut it old new)

-- ---- puts in turn

-- all of these, over the same commit
abbrev pub PutsAll : List RowPut → State → State → Type 0
PutsAll puts old new =
    (committed : Database) (l : Layout) (c : Contents) → HasThem l puts
    → IsUnder committed l c old → IsUnder committed l (puts_into puts c) new

-- Those so far were put, and then this one wasn't, with this error.
pub record StopsAt {S : Type 0} (g : Ghosts S) (done : List RowPut) (next : RowPut) (old : Held S)
    (new : State) (e : Error) : Type 0 where
  pub stops : Stops g (map statement done) (NotPut next) old new e
  pub put : PutsAll done (state g old) (state g stops.before)

-- what an iterator puts until it ends, with this
abbrev pub OfItems : {I : Type 0} → (I → Option Put → I → Type 0) → I → (List RowPut → Type 0) → Type 0
OfItems gives it P = (lent : List Put) × Drains gives it lent × P (map put_of lent)
