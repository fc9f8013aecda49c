-- How a file of an older format gets the tables that it lacks, and what they are filled with.
use Rattle.std.specs.Prelude.{not, ◌≡◌, List, [], ◌∷◌, ◌++◌, filter, map}
use Rattle.std.specs.Prelude.{Option, Some, None, MatchOption}
use Rattle.sqlite_catalog.specs.Change.{KeepsRows}
use Rattle.sqlite_trees.specs.Tree.{Trees}
use Rattle.sqlite_trees.specs.declared.store.Store.{Ghosts}
use Rattle.sqlite.specs.Held.{Held, state}
use Rattle.sql_tables.specs.Making.{KeepsAside}
use Rattle.desk_model.specs.Book.{Book}
use Rattle.desk_parts.specs.declared.file_table.FileTable.{FileTable}
use Rattle.desk_parts.specs.declared.file_table.FileTable.TheVariants as tables
use Rattle.desk_parts.specs.FileRows.{EntryRows, FileRows, Named, Unnamed}
use Rattle.desk_parts.specs.Puts.{RowPut}
use Rattle.desk_parts.specs.Rows.{ParaCells}
use Rattle.desk_model.specs.FilledRows.{Fills}
use Rattle.desk_model.specs.Shows.{Shows as RowsShow}
use Rattle.desk_model.specs.declared.new_tables.NewTables.{NewTables}
use Rattle.desk_model.specs.declared.new_tables.NewTables.TheVariants.{Braille, Entries, EntriesAndBraille}
use Rattle.desk_store.specs.Keeping.{WithBook}
use Rattle.desk_rows.specs.Contents.{Contents}
use Rattle.desk_store.specs.Found.{AreFileRows}
use Rattle.desk_rows.specs.Layout.{Layout}
use Rattle.desk_rows.specs.Making.{creation, with_tables}
use Rattle.desk_rows.specs.Puts.{statement}
use Rattle.desk_store.specs.Opening.{Stays}
use Rattle.desk_rows.specs.Statements.{RunInTurn, with_transaction}

-- which of two tables, one for entries with names and one for the cells of the paragraphs, a file
-- with these rows lacks, if any
abbrev pub lacking : EntryRows → Option (List ParaCells) → Option NewTables
lacking (Unnamed entries) None = Some EntriesAndBraille
lacking (Unnamed entries) (Some cells) = Some Entries
lacking (Named entries) None = Some Braille
lacking (Named entries) (Some cells) = None

-- these tables, in the order in which they are made
abbrev pub which_new : NewTables → List FileTable
which_new EntriesAndBraille = tables.Cache ∷ tables.NamedCorr ∷ []
which_new Entries = tables.NamedCorr ∷ []
which_new Braille = tables.Cache ∷ []

-- of these two, those that a layout lacks, in the same order
abbrev pub missing_tables : Layout → List FileTable
missing_tables l = filter (λ t. not (l.has t)) (tables.Cache ∷ tables.NamedCorr ∷ [])

-- the layout with those of the two that it lacks
abbrev pub with_missing_tables : Layout → Layout
with_missing_tables l = with_tables (missing_tables l) l

-- ---- what completes it

-- In any file, however its tables are declared: its statements give rows that show the book; and
-- the statements that make what the file lacks, and fill it with what the book has for it, ran in
-- turn on the connection as it was, none if it lacks nothing.
pub record Completes {S : Type 0} (g : Ghosts S) (old : Held S) (book : Book) (last : Held S) : Type 0 where
  pub rows : FileRows
  pub are : AreFileRows (state g old) rows
  pub shown : RowsShow rows book
  pub made : List FileTable
  pub puts : List RowPut
  pub lacks : MatchOption (lacking rows.entries rows.caches) ((made ≡ []) × (puts ≡ []))
      (λ tables. (made ≡ which_new tables) × Fills tables book puts)
  pub before : Held S
  pub stays : Stays (state g old) (state g before)
  pub ran : RunInTurn g (map creation made ++ map statement puts) (with_transaction before) last

-- The book in the file with these tables too, in which nothing else is lost: the rows of `corr`, of
-- all tables that aren't those of a book, and what the database keeps aside are as they were.
abbrev pub HasGained :
    List FileTable → Layout → Contents → Book → Trees → (Layout → Contents → Type 0) → Type 0
HasGained made l c book rows P =
    WithBook (with_tables made l) book (λ d. P (with_tables made l) d × (d.rows tables.Corr ≡ c.rows tables.Corr)
    × KeepsRows l.schema.tables rows d.others × KeepsAside l.schema rows d.others)
