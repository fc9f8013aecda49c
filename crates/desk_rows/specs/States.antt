-- What a connection shows of a book's file.
use Rattle.std.specs.Prelude.{◌≡◌, ℕ, true}
use Rattle.std.specs.List.{AllByRecursion}
use Rattle.sqlite_trees.specs.Tree.{Trees}
use Rattle.sqlite_rules.specs.Edit.{IsNoIndex}
use Rattle.sqlite_catalog.specs.Listing.{IsSound}
use Rattle.sqlite.specs.Effect.{Database}
use Rattle.sqlite.specs.State.{State}
use Rattle.desk_parts.specs.declared.file_table.FileTable.{FileTable}
use Rattle.sql_tables.specs.Rows.{HaveRowids, Lists, columns_at}
use Rattle.sql_tables.specs.Tables.{IsDeclared}
use Rattle.desk_rows.specs.Contents.{Contents}
use Rattle.desk_rows.specs.Descriptions.{description_of, table_of}
use Rattle.desk_rows.specs.Layout.{Layout, IsOther}
use Rattle.desk_rows.specs.Rows.{columns_of}

-- the trees are a database of this layout, with this in its tables
pub record IsFile (l : Layout) (c : Contents) (db : Trees) : Type 0 where
  -- the schema declares our tables in their trees, as a new file has them
  pub declared : (t : FileTable) → l.has t ≡ true → IsDeclared l.schema (table_of t (l.tree t))
  pub sound : IsSound l.schema db
  -- our tables hold just these rows
  pub tables : (t : FileTable) → l.has t ≡ true
      → Lists (columns_of t) (columns_at (description_of t).own) (c.rows t) (db (l.tree t))
  -- the rows that may be changed are distinguished, those of `tab` by their hidden rowids too
  pub ids : (t : FileTable) → l.has t ≡ true → (description_of t).is_changed ≡ true → HaveRowids (db (l.tree t))
  -- the other tables hold just what the contents say
  pub others : AllByRecursion (λ t. IsOther l t.tree → db t.tree ≡ c.others t.tree) l.schema.tables
  -- and so does each tree that is no index, among them those that the database keeps as they are,
  -- the list of its schema and its user version
  pub aside : (tree : ℕ) → IsOther l tree → IsNoIndex l.schema tree → db tree ≡ c.others tree

-- the connection shows such a database
pub record ShowsContents (l : Layout) (c : Contents) (s : State) : Type 0 where
  pub schema : s.now.schema ≡ l.schema
  pub is : IsFile l c s.now.trees

-- the connection shows such a database within a transaction, over this last commit
pub record IsUnder (committed : Database) (l : Layout) (c : Contents) (s : State) : Type 0 where
  pub shows : ShowsContents l c s
  pub inside : s.in_transaction ≡ true
  pub over : s.committed ≡ committed
