-- What opening a book's file reports, what it writes, and what the connection shows then.
use Rattle.std.specs.Prelude.{◌≡◌, ◌⊎◌, ℤ, Bool, true, false, IsTrue, List}
use Rattle.std.specs.Prelude.{Some, IfErr, IfOk, OnOk, Result, ⊤}
use Rattle.sqlite_catalog.specs.Listing.{IsSound}
use Rattle.sqlite_schema.specs.declared.schema.Schema.{Schema}
use Rattle.sqlite_trees.specs.Tree.{Trees}
use Rattle.sqlite_trees.specs.declared.store.Store.{Ghosts}
use Rattle.sqlite.specs.declared.error.Error.{Error}
use Rattle.sqlite.specs.Held.{Held, state}
use Rattle.sqlite.specs.State.{HasCleanDisk, State, Survives}
use Rattle.sql_tables.specs.States.{Leaves, ShowsAsBefore}
use Rattle.desk_model.specs.Book.{Book, empty_book}
use Rattle.desk_model.specs.Damage.{IsDamagedBook, IsFirstDamage}
use Rattle.desk_parts.specs.declared.file_table.FileTable.{FileTable}
use Rattle.desk_parts.specs.declared.file_table.FileTable.TheVariants as tables
use Rattle.desk_parts.specs.FileRows.{FileRows}
use Rattle.desk_parts.specs.Puts.{LendsFirst, RowPut}
use Rattle.desk_model.specs.FilledRows.{Fills}
use Rattle.desk_model.specs.Shows.{Shows as RowsShow}
use Rattle.desk_model.specs.declared.new_tables.NewTables.{NewTables}
use Rattle.desk_parts.specs.declared.rows.BookRow.{BookRow}
use Rattle.desk_store.specs.BookFile.{rows_of}
use Rattle.desk_store.specs.Keeping.{HasNewTables, HoldsBook, LeavesBook, MayServe, ShowsBook}
use Rattle.desk_rows.specs.Contents.{Contents}
use Rattle.desk_rows.specs.TableQuery.{FailsAs, query_of}
use Rattle.desk_rows.specs.Failing.{FailsToChange, of_first_row, of_items}
use Rattle.desk_rows.specs.Fault.{IsReportedAs}
use Rattle.desk_store.specs.Completing.{Completes, HasGained, lacking, missing_tables, which_new, with_missing_tables}
use Rattle.desk_store.specs.Formats.{IsExact, IsOfEither, IsOfFormat, presence}
use Rattle.desk_store.specs.Found.{AreFileRows, AreRowsIn, AreToldApart, HasNone, IsReadAs, RowsShowIn, ShowsIn}
use Rattle.desk_rows.specs.Layout.{Layout}
use Rattle.desk_rows.specs.Making.{IsMade, IsNew, new_layout, new_tables}
use Rattle.desk_store.specs.Opening.{CanAllBeRead, IsBookRow, IsNewer, IsRefusal, Stays, format_in, opened_as}
use Rattle.desk_rows.specs.Rows.{shown_columns}
use Rattle.desk_rows.specs.States.{IsFile, ShowsContents}
use Rattle.desk_rows.specs.Tables.{is_there}
use Rattle.desk_rows.specs.Statements.{with_transaction}
use Rattle.desk_rows.specs.declared.fault.DatabaseFault.{DatabaseFault}
use Rattle.desk_rows.specs.declared.fault.DatabaseFault.TheVariants as fault
use Rattle.desk_store.specs.declared.fault.OpenFault.{OpenFault}
use Rattle.desk_store.specs.declared.fault.OpenFault.TheVariants.{NotABook, Damaged, NewerFormat, Lost, NoMemory}

-- ---- what is reported of a file whose tables are declared as those of a new one

-- the tables of its format can all be read, and this is the first damage in their rows
pub record IsDamagedIn (l : Layout) (c : Contents) (table : FileTable) (id : ℤ) : Type 0 where
  pub row : BookRow
  pub book : IsBookRow (c.rows tables.Book) row
  pub of : IsOfFormat (format_in row.format) l
  pub readable : CanAllBeRead (format_in row.format) l c
  pub first : IsFirstDamage (rows_of l c) table id

-- What is reported of a file that has a table of a book, the first of these that holds: `book` is
-- missing, is of a later format or is damaged; its row is sound and of a known format, and a table
-- of that format can't be read; rows of the tables are damaged. Nothing is said here of `Lost` and
-- `NoMemory`.
abbrev pub TellsOf : Layout → Contents → OpenFault → Type 0
TellsOf l c NotABook =
    (l.has tables.Book ≡ false)
    ⊎ ((row : BookRow) × (l.has tables.Book ≡ true) × IsBookRow (c.rows tables.Book) row
    × ¬ CanAllBeRead (format_in row.format) l c)
TellsOf l c (Damaged table id) =
    ((l.has tables.Book ≡ true) × (table ≡ tables.Book) × IsDamagedBook (c.rows tables.Book) id
    × ¬ IsNewer (c.rows tables.Book))
    ⊎ IsDamagedIn l c table id
TellsOf l c NewerFormat = (l.has tables.Book ≡ true) × IsNewer (c.rows tables.Book)
TellsOf l c Lost = ⊤
TellsOf l c NoMemory = ⊤

-- ---- what is reported of any file without the tables of a book

-- It holds no book, if none is to be made or `cache` is there. Otherwise a statement that makes a
-- table of a new file or puts the row of `book` failed, or the commit did, with an error that is
-- reported so.
abbrev pub TellsOfNone : {S : Type 0} → (make : Bool) → Ghosts S → Held S → State → OpenFault → Type 0
TellsOfNone make g old new reported =
    ((reported ≡ NotABook) × ((make ≡ false) ⊎ (is_there (state g old).now.schema tables.Cache ≡ true)))
    ⊎ ((e : Error) × (why : DatabaseFault) × (make ≡ true) × (is_there (state g old).now.schema tables.Cache ≡ false)
    × FailsToChange g new_tables (of_first_row g) (with_transaction old) new e × IsReportedAs e why
    × (reported ≡ opened_as why))

-- ---- what stands in a file, and what it is after opening

-- the connection shows the book in a file of either format
abbrev pub Stands : Layout → Book → State → Type 0
Stands l book s = IsOfEither l × ShowsBook l book s

-- the trees are those of a database without the tables of a book
abbrev pub HoldsNone : Trees → Type 0
HoldsNone db = (s : Schema) × IsSound s db × HasNone s

-- the empty book, in a file with the tables of a new one
abbrev pub HoldsEmpty : Trees → Type 0
HoldsEmpty db = (l : Layout) × HasNewTables l × HoldsBook l empty_book db

-- What opening commits, and only in a file without the tables of a book or whose rows show one: a
-- new book if there was none and one is to be made, and else the book that stood there, with the
-- tables that its file lacked.
pub record MayBring (make : Bool) (s : State) (db : Trees) : Type 0 where
  pub only : HasNone s.now.schema ⊎ ((book : Book) × ShowsIn s book)
  pub new : HasNone s.now.schema → (make ≡ true) × IsMade s db
  pub old : (l : Layout) (book : Book) (stands : Stands l book s)
      → HasGained (missing_tables l) l stands.1.0 book s.now.trees (λ after d. IsFile after d db)

-- the book in the file as it was, or with the tables that it lacked
abbrev pub HoldsEither : Layout → Book → Trees → Type 0
HoldsEither l book db = HoldsBook l book db ⊎ HoldsBook (with_missing_tables l) book db

-- The rows of the file showed the book, it stands there in a file with the tables of a new one, and
-- a crash leaves it so, also if it left it in either these tables or without.
pub record IsOpened (l : Layout) (c : Contents) (book : Book) (old new : State) : Type 0 where
  pub rows : RowsShow (rows_of l c) book
  pub tables : HasNewTables (with_missing_tables l)
  pub shows : HasGained (missing_tables l) l c book old.now.trees (λ after d. ShowsContents after d new)
  pub leaves : Leaves (HoldsEither l book) old → LeavesBook (with_missing_tables l) book new

-- a new book, the empty one, was made since none of the tables was there, and a crash leaves it
pub record IsMadeNew (make : Bool) (book : Book) (old new : State) : Type 0 where
  pub bare : HasNone old.now.schema
  pub wanted : make ≡ true
  pub empty : book ≡ empty_book
  pub beside : IsNew old.now.schema old.now.trees (λ c. ShowsContents (new_layout old.now.schema) c new)
  pub kept : MayServe (new_layout old.now.schema) book new

-- ---- why it isn't opened, where it isn't refused

-- The statement that reads a table failed so, or there was no memory for the rows that it showed.
-- The table is `book`, or one that is read in the format which the row of `book` names. The
-- connection was as at first.
pub record StopsReading {S : Type 0} (g : Ghosts S) (old : Held S) (new : State) (why : DatabaseFault) : Type 0 where
  pub table : FileTable
  pub is_read : (table ≡ tables.Book)
      ⊎ ((rows : List BookRow) × (row : BookRow) × AreRowsIn (state g old) tables.Book rows
      × IsBookRow rows row × IsReadAs (presence (format_in row.format) table) (is_there (state g old).now.schema table))
  pub before : Held S
  pub stays : Stays (state g old) (state g before)
  pub fails : FailsAs (query_of table) (shown_columns table) (AreToldApart table) (state g before) new why

-- how an error is reported that stops the filling of a file which shows a book, so that it isn't
-- refused
abbrev pub filled_as : DatabaseFault → OpenFault
filled_as fault.NoMemory = NoMemory
filled_as fault.Lost = Lost
filled_as fault.Refused = Lost

-- A statement that makes these tables or puts what the book has for them failed with an error that
-- is reported so, or the commit did. If the connection is open still, it shows what it showed
-- before.
pub record StopsFilling {S : Type 0} (g : Ghosts S) (tables : NewTables) (book : Book) (old : Held S)
    (new : State) (reported : OpenFault) : Type 0 where
  pub puts : List RowPut
  pub fill : Fills tables book puts
  pub error : Error
  pub fails : FailsToChange g (which_new tables) (of_items g LendsFirst puts) (with_transaction old) new error
  pub why : DatabaseFault
  pub is_caused : IsReportedAs error why
  pub is_reported : reported ≡ filled_as why
  pub as_before : ShowsAsBefore (state g old) new

-- A table isn't read; or all of them are, and there is no memory for the book; or they show a book,
-- and what the file lacks isn't filled.
pub data StopsOpening {S : Type 0} (g : Ghosts S) (old : Held S) (new : State) (reported : OpenFault)
    : Type 0 where
  reading : (why : DatabaseFault) → StopsReading g old new why → reported ≡ opened_as why
      → StopsOpening g old new reported
  rebuilding : (rows : FileRows) → AreFileRows (state g old) rows → Stays (state g old) new → reported ≡ NoMemory
      → StopsOpening g old new reported
  filling : (rows : FileRows) (book : Book) (tables : NewTables) (before : Held S)
      → AreFileRows (state g old) rows → RowsShow rows book → lacking rows.entries rows.caches ≡ Some tables
      → Stays (state g old) (state g before) → StopsFilling g tables book before new reported
      → StopsOpening g old new reported

-- ---- the whole

-- such a book is found, or no refusal is reported
abbrev pub FindsBook : (Book → Type 0) → Result Book OpenFault → Type 0
FindsBook P result = IfOk result P × IfErr result (λ fault. ¬ IsRefusal fault)

-- What is answered of any file: a book only if its rows show it, or if a new one was made; and if
-- they show one, that or no refusal.
pub record AnswersBook (make : Bool) (old new : State) (result : Result Book OpenFault) : Type 0 where
  pub found : IfOk result (λ book. ShowsIn old book ⊎ IsMadeNew make book old new)
  pub shown : (book : Book) → RowsShowIn old book → FindsBook (λ found. found ≡ book) result

-- What is reported: exactly this if the tables of a book that are there, or those that are read in
-- a file of a format, are declared as those of a new file, and of any file that has none of a
-- book's tables.
pub record Reports {S : Type 0} (g : Ghosts S) (make : Bool) (old : Held S) (new : State) (fault : OpenFault)
    : Type 0 where
  pub declared : (l : Layout) (c : Contents) → (¬ HasNone l.schema) → IsExact l ⊎ IsOfEither l
      → ShowsContents l c (state g old) → TellsOf l c fault
  pub bare : HasNone (state g old).now.schema → TellsOfNone make g old new fault

-- What then stands in the file: a book, the one that stood there or a new one; or, if it is
-- refused, what was there.
pub record LeavesStanding (make : Bool) (old new : State) (result : Result Book OpenFault) : Type 0 where
  pub is_open : OnOk result (IsTrue new.is_open)
  pub opened : (l : Layout) (c : Contents) → IsOfEither l → ShowsContents l c old
      → IfOk result (λ book. IsOpened l c book old new)
  pub made : HasNone old.now.schema → IfOk result (λ book. IsMadeNew make book old new)
  pub refused : IfErr result (λ fault. IsRefusal fault → ShowsAsBefore old new)

-- What opening answers and reports, and what then stands in the file; at `Ok`, if a table of a book
-- was there, just what the statements that complete the file made of it.
pub record OpensBook {S : Type 0} (g : Ghosts S) (make : Bool) (old : Held S) (new : State)
    (result : Result Book OpenFault) : Type 0 where
  pub answers : AnswersBook make (state g old) new result
  pub reports : IfErr result (Reports g make old new)
  pub stands : LeavesStanding make (state g old) new result
  pub ran : (¬ HasNone (state g old).now.schema)
      → IfOk result (λ book. (last : Held S) × Completes g old book last × (new.now ≡ (state g last).now))

-- All that is known once a file was opened, with a book or without. A crash leaves nothing new but
-- what opening may bring, the book in a file with the tables of a new one; if a table of a book was
-- there, in any file, but what the statements that complete the file made of it; and after a
-- refusal nothing. If a table of a book was there and the file isn't refused, the report has a
-- cause.
pub record OpensFile {S : Type 0} (g : Ghosts S) (make : Bool) (old : Held S) (new : State)
    (result : Result Book OpenFault) : Type 0 where
  pub opens : HasCleanDisk new → OpensBook g make old new result
  pub crash : Survives (state g old) new (MayBring make (state g old))
  pub left : (¬ HasNone (state g old).now.schema) → Survives (state g old) new
      (λ db. (book : Book) × (last : Held S) × Completes g old book last × (db ≡ (state g last).now.trees))
  pub refused : HasCleanDisk new → IfErr result (λ fault. IsRefusal fault → Survives (state g old) new (λ _. ⊥))
  pub stopped : HasCleanDisk new → (¬ HasNone (state g old).now.schema)
      → IfErr result (λ fault. (¬ IsRefusal fault) → StopsOpening g old new fault)
