-- Schemas, the tables of a book's file that are there, and their trees.
use Rattle.std.specs.Prelude.{◌≡◌, ◌≢◌, ℕ, Bool, true}
use Rattle.sqlite_schema.specs.declared.schema.Schema.{Schema}
use Rattle.desk_parts.specs.declared.file_table.FileTable.{FileTable}

-- A schema, some tables that a file has, and a tree for each. What else there is, under whatever
-- name, is beside them: a table of ours too, unless the layout is exact.
pub record Layout : Type 0 where
  pub schema : Schema
  pub has : FileTable → Bool
  pub tree : FileTable → ℕ

-- the tree of none of them
abbrev pub IsOther : Layout → ℕ → Type 0
IsOther l tree = (t : FileTable) → l.has t ≡ true → tree ≢ l.tree t
