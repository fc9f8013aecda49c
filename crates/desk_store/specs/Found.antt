-- The rows of a book's file, as the statements that read it give them in any file, and the book
-- that they show.
use Rattle.std.specs.Prelude.{◌≡◌, Bool, true, false, List, [], ◌∷◌, map, Option, Some, None, ⊤}
use Rattle.std.specs.List.{AllByRecursion, list_any}
use Rattle.sqlite_schema.specs.declared.schema.Schema.{Schema}
use Rattle.sqlite_value.specs.Order.{Row}
use Rattle.sqlite.specs.State.{State, Shown}
use Rattle.sql_tables.specs.Kinds.{HasKinds}
use Rattle.sql_tables.specs.States.{HasAnswer}
use Rattle.desk_model.specs.Book.{Book}
use Rattle.desk_parts.specs.declared.file_table.FileTable.{FileTable}
use Rattle.desk_parts.specs.declared.file_table.FileTable.TheVariants as tables
use Rattle.desk_parts.specs.FileRows.{EntryRows, FileRows, Named, Unnamed}
use Rattle.desk_parts.specs.Rows.{ParaCells, StoredTab}
use Rattle.desk_model.specs.Shows.{Shows as RowsShow}
use Rattle.desk_rows.specs.TableQuery.{AreShownBy, query_of}
use Rattle.desk_store.specs.Formats.{Format, Presence, needed, optional, foreign, unread, unnamed, named, presence}
use Rattle.desk_store.specs.Opening.{has_tables}
use Rattle.desk_rows.specs.Rows.{ShownOf, shown_columns}
use Rattle.desk_rows.specs.Tables.{is_there}
use Rattle.desk_rows.specs.Whole.{DifferBy}

-- ---- which tables are there

-- none of the tables is there by which a book's file is known, of either format
abbrev pub HasNone : Schema → Type 0
HasNone s =
    list_any (is_there s)
    (tables.Book ∷ tables.Tab ∷ tables.Para ∷ tables.Corr ∷ tables.Mark ∷ tables.NamedCorr ∷ []) ≡ false

-- ---- the rows that statements give

-- the rows of `tab` have different rowids, and nothing is required of the others
abbrev pub AreToldApart : (t : FileTable) → List (ShownOf t) → Type 0
AreToldApart tables.Book rows = ⊤
AreToldApart tables.Tab rows = DifferBy (λ s. s.rowid) rows
AreToldApart tables.Para rows = ⊤
AreToldApart tables.Corr rows = ⊤
AreToldApart tables.Mark rows = ⊤
AreToldApart tables.Cache rows = ⊤
AreToldApart tables.NamedCorr rows = ⊤

-- in this state the statement that reads the table gives these rows
abbrev pub AreRowsIn : State → (t : FileTable) → List (ShownOf t) → Type 0
AreRowsIn s t rows = AreShownBy (query_of t) (shown_columns t) s s rows × AreToldApart t rows

-- the format that keeps entries so
abbrev pub format_kept : EntryRows → Format
format_kept (Unnamed rows) = unnamed
format_kept (Named rows) = named

-- in this state the statement that reads the entries gives these
abbrev pub AreEntriesIn : State → EntryRows → Type 0
AreEntriesIn s (Unnamed rows) = AreRowsIn s tables.Corr rows
AreEntriesIn s (Named rows) = AreRowsIn s tables.NamedCorr rows

-- the cells, if their table is there
abbrev pub AreCellsIn : State → Option (List ParaCells) → Type 0
AreCellsIn s None = is_there s.now.schema tables.Cache ≡ false
AreCellsIn s (Some rows) = (is_there s.now.schema tables.Cache ≡ true) × AreRowsIn s tables.Cache rows

-- These are the rows of the tables but `book`.
pub record AreOtherRows (s : State) (rows : FileRows) : Type 0 where
  pub stored : List StoredTab
  pub tabs_are : rows.tabs ≡ map (λ tab. tab.row) stored
  pub tabs : AreRowsIn s tables.Tab stored
  pub paras : AreRowsIn s tables.Para rows.paras
  pub entries : AreEntriesIn s rows.entries
  pub marks : AreRowsIn s tables.Mark rows.marks
  pub caches : AreCellsIn s rows.caches

-- The tables of the format that keeps the entries so are there, and these are the rows of the file.
pub record AreFileRows (s : State) (rows : FileRows) : Type 0 where
  pub book : is_there s.now.schema tables.Book ≡ true
  pub books : AreRowsIn s tables.Book rows.books
  pub tables : has_tables (format_kept rows.entries) s.now.schema ≡ true
  pub others : AreOtherRows s rows

-- ---- the book that they show

-- rows that the statements give show the book
abbrev pub ShowsIn : State → Book → Type 0
ShowsIn s book = (rows : FileRows) × AreFileRows s rows × RowsShow rows book

-- The statement that reads the table has an answer, and whatever it answers can be read.
pub record CanAnswer (s : State) (t : FileTable) : Type 0 where
  pub has : HasAnswer (query_of t).text s
  pub kinds : (rows : List Row) → Shown (query_of t).text [] s s rows
      → AllByRecursion (HasKinds (query_of t).kinds) rows
  pub apart : (rows : List (ShownOf t)) → AreShownBy (query_of t) (shown_columns t) s s rows → AreToldApart t rows

-- whether a table is read, of which something is there by its name
abbrev pub IsReadAs : Presence → (there : Bool) → Type 0
IsReadAs needed there = ⊤
IsReadAs optional there = there ≡ true
IsReadAs foreign there = ⊥
IsReadAs unread there = ⊥

-- the statement of each table that is read in the format can be answered
abbrev pub CanAllAnswer : Format → State → Type 0
CanAllAnswer format s = (t : FileTable) → IsReadAs (presence format t) (is_there s.now.schema t) → CanAnswer s t

-- The rows of the file show the book: the statements that read it give rows, and all that they may
-- give show it.
pub record RowsShowIn (s : State) (book : Book) : Type 0 where
  pub rows : FileRows
  pub are : AreFileRows s rows
  pub answer : CanAllAnswer (format_kept rows.entries) s
  pub each : (others : FileRows) → AreFileRows s others → RowsShow others book
