-- The book of a file: what a connection shows of it, what a crash leaves, and the book once a
-- change is kept.
use Rattle.std.specs.Prelude.{◌≡◌, ◌⊎◌, Bool, true, false, List, map, refl}
use Rattle.std.specs.Coded.{Coded, code_by, coded×, coded_bool}
use Rattle.std.specs.List.{AllByRecursion}
use Rattle.sqlite_trees.specs.declared.store.Store.{Ghosts}
use Rattle.sqlite_trees.specs.Tree.{Trees}
use Rattle.sqlite.specs.declared.error.Error.{Error}
use Rattle.sqlite.specs.Held.{Held, held_code, state}
use Rattle.sqlite.specs.State.{HasCleanDisk, State, Survives}
use Rattle.sql_tables.specs.States.{Leaves, ShowsAsBefore}
use Rattle.desk_model.specs.Book.{Book}
use Rattle.desk_book.specs.Changes.{Carries, Change, change_puts}
use Rattle.desk_parts.specs.Puts.{LendsFirst}
use Rattle.desk_model.specs.Shows.{Shows as RowsShow}
use Rattle.desk_model.specs.declared.command.Command.{Command}
use Rattle.desk_store.specs.BookFile.{rows_of}
use Rattle.desk_rows.specs.Contents.{Contents}
use Rattle.desk_rows.specs.Failing.{FailsToPut, of_items}
use Rattle.desk_rows.specs.Fault.{CountsLoss}
use Rattle.desk_rows.specs.Layout.{Layout}
use Rattle.desk_rows.specs.Making.{new_tables}
use Rattle.desk_rows.specs.Puts.{statement}
use Rattle.desk_rows.specs.States.{IsFile, ShowsContents}
use Rattle.desk_rows.specs.Statements.{AreRun, IsLeftBy, Statement, with_transaction}

-- ---- the book of a file

-- A file of this layout shows the book: there are contents of which this is known, and their rows
-- show it.
abbrev pub WithBook : Layout → Book → (Contents → Type 0) → Type 0
WithBook l book P = (c : Contents) × P c × RowsShow (rows_of l c) book

-- the connection shows such a file
abbrev pub ShowsBook : Layout → Book → State → Type 0
ShowsBook l book s = WithBook l book (λ c. ShowsContents l c s)

-- the trees are such a file
abbrev pub HoldsBook : Layout → Book → Trees → Type 0
HoldsBook l book db = WithBook l book (λ c. IsFile l c db)

-- a crash now leaves the book
abbrev pub LeavesBook : Layout → Book → State → Type 0
LeavesBook l book = Leaves (HoldsBook l book)

-- a crash now leaves one of these two books
abbrev pub LeavesEither : Layout → (book next : Book) → State → Type 0
LeavesEither l book next = Leaves (λ db. HoldsBook l book db ⊎ HoldsBook l next db)

-- the layout has each table of a new file
abbrev pub HasNewTables : Layout → Type 0
HasNewTables l = AllByRecursion (λ t. l.has t ≡ true) new_tables

-- The file shows the book and keeps it: it has the tables of a new one, the connection shows the
-- book in it, and so does whatever a crash leaves. A change that is kept brings a file to this, and
-- so does making a book, or opening one that any crash beforehand would have left; a session may
-- begin with it.
pub record MayServe (l : Layout) (book : Book) (s : State) : Type 0 where
  pub tables : HasNewTables l
  pub shows : ShowsBook l book s
  pub leaves : LeavesBook l book s

-- ---- a change of it

-- the change carries out a command that makes the next of this book
abbrev pub LeadsTo : Book → Change → Book → Type 0
LeadsTo book change next = (command : Command) × Carries book command next change

-- The connection shows the book in a file with the tables of a new one, and the change makes the
-- next of it.
pub record MayKeep (l : Layout) (book : Book) (change : Change) (next : Book) (s : State) : Type 0 where
  pub tables : HasNewTables l
  pub leads : LeadsTo book change next
  pub shows : ShowsBook l book s

-- the trees hold the next book, of whatever file the connection showed in which the change may be
-- kept
abbrev pub HoldsKept : Book → Change → State → Trees → Type 0
HoldsKept book change s db = (l : Layout) (next : Book) → MayKeep l book change next s → HoldsBook l next db

-- the statements of what this change puts, in their order
abbrev pub statements_of : Book → Change → List Statement
statements_of book change = map statement (change_puts book change)

-- Why a change isn't kept: the database answered the error to one of the statements of what this
-- change puts, once those before it had run in turn, or to the commit, or an allocation for a put
-- failed. What was lost is counted, or was too big.
pub record FailsToKeep {S : Type 0} (g : Ghosts S) (book : Book) (change : Change) (old : Held S)
    (new : State) (e : Error) : Type 0 where
  pub fails : FailsToPut g (of_items g LendsFirst (change_puts book change)) (with_transaction old) new e
  pub counts : CountsLoss (state g old) new e

-- What is known once it was tried to keep a change, by whether it is kept. If it is, and the
-- connection showed the book in a file with the tables of a new one, it then shows the next book,
-- and so does whatever a crash leaves. At any exit a crash leaves the book or the next one, and
-- nothing is committed but the change. In any file the statements of what this change puts ran in
-- turn, as one transaction, and no others: if it is kept, the connection shows what they made of
-- it, and at any exit a crash leaves nothing else new. If it isn't, a connection that is still open
-- shows what it showed before.
pub record KeepsChange {S : Type 0} (g : Ghosts S) (book : Book) (change : Change) (old : Held S) (new : State)
    (is_kept : Bool) : Type 0 where
  pub kept : HasCleanDisk new → is_kept ≡ true → (l : Layout) (next : Book) → MayKeep l book change next (state g old)
      → MayServe l next new
  pub either : HasCleanDisk new → (l : Layout) (next : Book) → MayKeep l book change next (state g old)
      → LeavesBook l book (state g old) → LeavesEither l book next new
  pub survives : Survives (state g old) new (HoldsKept book change (state g old))
  pub ran : HasCleanDisk new → is_kept ≡ true → AreRun g (statements_of book change) old new
  pub left : Survives (state g old) new (λ db. IsLeftBy g (statements_of book change) old db)
  pub as_before : HasCleanDisk new → is_kept ≡ false → ShowsAsBefore (state g old) new

-- ---- a store

-- a connection, and whether a change was lost on it
pub record Store (S : Type 0) : Type 0 where
  pub connection : Held S
  pub lost : Bool

-- a store, coded as its connection and that flag
abbrev pub store_code : {S : Type 0} → Coded S → Coded (Store S)
store_code {S} store =
    code_by (Held S × Bool) (coded× (held_code store) coded_bool) (λ s. (s.connection, s.lost))
    (λ p. record { connection = p.0; lost = p.1 })
    (λ _. refl)

-- what its connection shows
abbrev pub shown_by : {S : Type 0} → Ghosts S → Store S → State
shown_by g store = state g store.connection
