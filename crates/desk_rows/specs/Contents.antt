-- What a file holds: the rows of its tables, and those of the other trees.
use Rattle.std.specs.Prelude.{List}
use Rattle.sqlite_trees.specs.Tree.{Trees}
use Rattle.desk_parts.specs.declared.file_table.FileTable.{FileTable}
use Rattle.desk_parts.specs.Rows.{RowOf}

-- the rows of the tables, each list in any order, and those of the other trees
pub record Contents : Type 0 where
  pub rows : (t : FileTable) → List (RowOf t)
  pub others : Trees
