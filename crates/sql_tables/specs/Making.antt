-- What making a table does to a file, and what it leaves as it was.
use Rattle.std.specs.Prelude.{◌≡◌, ◌≢◌, ℕ, ◌+◌, ◌%◌, ◌<◌, ◌≤◌, pos, true, false, if◌then◌else◌, nat_lt, List, []}
use Rattle.std.specs.List.{AllByRecursion}
use Rattle.sqlite_value.specs.Order.{column}
use Rattle.sqlite_trees.specs.Objects.{catalog_tree, version_tree, number_in}
use Rattle.sqlite_trees.specs.Tree.{Trees, has_rowid}
use Rattle.sqlite_schema.specs.declared.schema.Index.{Index}
use Rattle.sqlite_schema.specs.declared.schema.View.{View as Stored}
use Rattle.sqlite_schema.specs.declared.schema.Schema.{Schema}
use Rattle.sqlite_schema.specs.declared.schema.Table.{Table}
use Rattle.sqlite_rules.specs.Edit.{IsNoIndex}
use Rattle.sqlite_rules.specs.Lists.{Has}
use Rattle.sqlite_catalog.specs.Calls.{KeepsForeign}
use Rattle.sqlite_catalog.specs.Change.{created, next_tree, is_used}
use Rattle.sqlite_catalog.specs.Listing.{IsSound}
use Rattle.sqlite.specs.Does.{lacks_sequence}
use Rattle.sqlite.specs.Effect.{Database}
use Rattle.sqlite.specs.State.{State}
use Rattle.sql_tables.specs.Tables.{counter}

-- each index is on a table, so below the tree that the next table takes
abbrev pub IndexesLow : Schema → Type 0
IndexesLow s = (i : Index) → Has s.indexes i → i.table < next_tree s

-- The schema after a first table is made. If a table counts its rowids and the database's counter
-- of them isn't there, the database makes the counter right after it.
abbrev pub first_created : Schema → Table → Schema
first_created s table = if lacks_sequence s then created (created s table) (counter 0) else created s table

-- the rows of the tables that were there, and none of others
abbrev pub first_rows : Schema → Trees → Trees
first_rows s rows tree = if nat_lt tree (next_tree s) then rows tree else []

-- A tree that the database keeps as it is: that of a table that it doesn't understand or that
-- something binds, or of an index on one, whether it understands the index or not. Such a tree is
-- listed among the schema's views, and sqlite_schema lists it with the code of one that is frozen.
pub record IsForeignTree (s : Schema) (db : Trees) (tree : ℕ) : Type 0 where
  pub view : Stored
  pub listed : Has s.views view
  pub there : view.tree ≡ tree
  pub frozen : AllByRecursion (λ row.
      has_rowid (pos (tree + 1)) row ≡ true → 4 ≤ number_in (column row 5) % 8) (db catalog_tree)
  pub no_table : AllByRecursion (λ t. t.tree ≢ tree) s.tables
  pub no_index : IsNoIndex s tree

-- The rows of such trees stay, and so do the user version and each row of sqlite_schema that lists
-- such a tree or a trigger.
pub record KeepsAside (s : Schema) (old new : Trees) : Type 0 where
  pub rows : (tree : ℕ) → IsForeignTree s old tree → new tree ≡ old tree
  pub texts : KeepsForeign (old catalog_tree) (new catalog_tree)
  pub version : new version_tree ≡ old version_tree

-- within a transaction over this commit the schema is this one so far, and the tables have those
-- rows
pub record IsMaking (committed : Database) (first : Schema) (rows : Trees) (now : Schema) (s : State)
    : Type 0 where
  pub schema : s.now.schema ≡ now
  pub sound : IsSound now s.now.trees
  pub kept : AllByRecursion (λ t. s.now.trees t.tree ≡ first_rows first rows t.tree) now.tables
  pub foreign : (tree : ℕ) → IsForeignTree first rows tree → IsForeignTree now s.now.trees tree
  pub aside : KeepsAside first rows s.now.trees
  pub later : next_tree first ≤ next_tree now
  pub inside : s.in_transaction ≡ true
  pub over : s.committed ≡ committed

-- the names are free
abbrev pub AreFree : List (List ℕ) → State → Type 0
AreFree names s = AllByRecursion (λ name. is_used s.now.schema name ≡ false) names

-- a name that is free now was free
abbrev pub FreesNone : State → State → Type 0
FreesNone old new =
    (name : List ℕ) → is_used new.now.schema name ≡ false → is_used old.now.schema name ≡ false
