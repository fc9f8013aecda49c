-- What making tables does to a file, and what making all of them does to one that has none.
use Rattle.std.specs.Prelude.{◌≡◌, ℕ, Bool, pos, true, false, if◌then◌else◌, List, [], ◌∷◌}
use Rattle.std.specs.Prelude.{◌++◌, map, bytes_eq, Result, IfErr, OnOk, ⊤}
use Rattle.std.specs.List.{AllByRecursion, list_any}
use Rattle.sqlite_trees.specs.declared.store.Store.{Ghosts}
use Rattle.sqlite_trees.specs.Tree.{Trees}
use Rattle.sqlite_schema.specs.declared.schema.Schema.{Schema}
use Rattle.sqlite_catalog.specs.Change.{KeepsRows, created, next_tree, is_used}
use Rattle.sqlite.specs.Does.{lacks_sequence}
use Rattle.sqlite.specs.Effect.{Database}
use Rattle.sqlite.specs.Held.{Held, state}
use Rattle.sqlite.specs.declared.error.Error.{Error}
use Rattle.sqlite.specs.State.{State, KeepsCommit}
use Rattle.desk_parts.specs.declared.file_table.FileTable.{FileTable}
use Rattle.desk_parts.specs.declared.file_table.FileTable.TheVariants as tables
use Rattle.desk_parts.specs.declared.rows.BookRow.{BookRow}
use Rattle.desk_parts.specs.Puts.{PutRow, RowPut}
use Rattle.sql_tables.specs.Making.{AreFree, FreesNone, IsMaking, KeepsAside, first_created}
use Rattle.desk_rows.specs.Contents.{Contents}
use Rattle.desk_rows.specs.Descriptions.{description_of, table_of}
use Rattle.desk_rows.specs.Layout.{Layout}
use Rattle.desk_rows.specs.Puts.{HasThem, put_into, puts_into, statement}
use Rattle.desk_rows.specs.States.{IsFile, ShowsContents}
use Rattle.desk_rows.specs.Statements.{FailsWith, Ran, RunInTurn, Statement}

-- the tables of a new file, in the order in which they are made
abbrev pub new_tables : List FileTable
new_tables = tables.Book ∷ tables.Tab ∷ tables.Para ∷ tables.Mark ∷ tables.Cache ∷ tables.NamedCorr ∷ []

-- No table, index or view has the name of one of these in either case of its letters, nor has what
-- the database keeps as it is.
abbrev pub AreFreeIn : Schema → List FileTable → Type 0
AreFreeIn s = AllByRecursion (λ t. is_used s (description_of t).name ≡ false)

-- The schema after these are made in turn, and with the first the database's counter of rowids, if
-- a table counts its rowids and the counter isn't there.
abbrev pub after : List FileTable → Schema → Schema
after [] s = s
after (t ∷ tables) s = after tables (first_created s (table_of t 0))

-- the tree that a table takes when these are made
abbrev pub tree_in : List FileTable → Schema → FileTable → ℕ
tree_in [] s t = 0
tree_in (v ∷ vs) s t =
    if bytes_eq (description_of v).name (description_of t).name
    then next_tree s
    else tree_in vs (first_created s (table_of v 0)) t

-- whether a table is one of these
abbrev pub is_among : List FileTable → FileTable → Bool
is_among tables t = list_any (λ v. bytes_eq (description_of v).name (description_of t).name) tables

-- the layout of the six tables of a new file, made in this schema
abbrev pub new_layout : Schema → Layout
new_layout s = record { schema = after new_tables s; has = is_among new_tables; tree = tree_in new_tables s }

-- the row of a new book, in format 2 and at version 0
abbrev pub first_row : BookRow
first_row = record { id = pos 1; format = pos 2; version = pos 0 }

-- The contents of a new file: the row of a new book alone, beside the tables that were there with
-- the rows that they had, an empty counter if it was missing, and what the database keeps aside.
abbrev pub IsNew : Schema → Trees → (Contents → Type 0) → Type 0
IsNew s rows P =
    (others : Trees) × KeepsRows s.tables rows others
    × (lacks_sequence s ≡ true → others (next_tree (created s (table_of tables.Book 0))) ≡ [])
    × KeepsAside s rows others
    × P (put_into (record { rows = λ t. []; others = others }) (PutRow tables.Book first_row))

-- each differs from those after it
abbrev pub Differ : List FileTable → Type 0
Differ [] = ⊤
Differ (t ∷ tables) =
    AllByRecursion (λ v. bytes_eq (description_of t).name (description_of v).name ≡ false) tables × Differ tables

-- Statements within a transaction made these tables, whose names were free.
pub record MakesTables (tables : List FileTable) (old new : State) : Type 0 where
  pub taken : AreFree (map (λ t. (description_of t).name) tables) old × FreesNone old new
  pub made : (committed : Database) (first : Schema) (rows : Trees) (before : Schema)
      → Differ tables → IsMaking committed first rows before old → AreFreeIn before tables
      → IsMaking committed first rows (after tables before) new

-- the statement that makes a table
abbrev pub creation : FileTable → Statement
creation t = record { text = (description_of t).create; params = [] }

-- A table is made by its statement, and the transaction goes on; or, if a transaction was open, the
-- database answered an error to the statement. Nothing is committed.
pub record IsCreated {V : Type 0} (result : Result V Error) (t : FileTable) (old new : State) : Type 0 where
  pub made : OnOk result (MakesTables (t ∷ []) old new)
  pub ran : OnOk result (Ran (creation t) old new)
  pub inside : OnOk result (new.in_transaction ≡ true)
  pub kept : KeepsCommit old new
  pub reported : old.in_transaction ≡ true → IfErr result (FailsWith (creation t) old new)

-- All of these were made so by their statements.
abbrev pub AreMade : {S : Type 0} → Ghosts S → List FileTable → Held S → Held S → Type 0
AreMade g tables old new = MakesTables tables (state g old) (state g new) × RunInTurn g (map creation tables) old new

-- the statements that make a new file
abbrev pub making : List Statement
making = map creation new_tables ++ statement (PutRow tables.Book first_row) ∷ []

-- What making adds to what a crash may leave: only if the names were free, and then the file with
-- the tables.
abbrev pub IsMade : State → Trees → Type 0
IsMade s db =
    AreFreeIn s.now.schema new_tables × IsNew s.now.schema s.now.trees (λ c. IsFile (new_layout s.now.schema) c db)

-- ---- tables that are made in a file

-- the layout with these tables too
abbrev pub with_tables : List FileTable → Layout → Layout
with_tables tables l = record {
  schema = after tables l.schema;
  has = λ v. if is_among tables v then true else l.has v;
  tree = λ v. if is_among tables v then tree_in tables l.schema v else l.tree v;
}

-- the contents with no rows in these tables
abbrev pub with_none : List FileTable → Trees → Contents → Contents
with_none tables others c = record { rows = λ v. if is_among tables v then [] else c.rows v; others = others }

-- ---- tables that are made, and rows that are put then

-- What a file is once these tables are made in it and these rows are put: the rows of all other
-- tables that were there, and what the database keeps aside, are as they were.
abbrev pub IsGrown : List FileTable → List RowPut → Layout → Contents → Trees → (Layout → Contents → Type 0)
    → Type 0
IsGrown tables puts l c rows P =
    (others : Trees) × KeepsRows l.schema.tables rows others × KeepsAside l.schema rows others
    × P (with_tables tables l) (puts_into puts (with_none tables others c))

-- The tables were made in whatever file the connection showed, and the rows put, which have their
-- tables then.
abbrev pub WritesWithTables : List FileTable → List RowPut → State → State → Type 0
WritesWithTables tables puts old new =
    (l : Layout) (c : Contents) → Differ tables → HasThem (with_tables tables l) puts → ShowsContents l c old
    → IsGrown tables puts l c old.now.trees (λ after d. ShowsContents after d new)

-- The trees are such a file.
abbrev pub IsFileWithTables : List FileTable → List RowPut → State → Trees → Type 0
IsFileWithTables tables puts s db =
    (l : Layout) (c : Contents) → Differ tables → HasThem (with_tables tables l) puts → ShowsContents l c s
    → IsGrown tables puts l c s.now.trees (λ after d. IsFile after d db)
