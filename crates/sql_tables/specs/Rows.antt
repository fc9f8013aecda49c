-- The rows of a tree, as a list of values.
use Rattle.std.specs.Prelude.{ℕ, suc, ℤ, ◌≤◌, List, [], ◌∷◌, map, filter, length, IsPermutation}
use Rattle.sqlite_value.specs.Order.{Row, column}
use Rattle.sqlite_trees.specs.Tree.{has_rowid}
use Rattle.sql_tables.specs.Kinds.{HaveIntegerRowids}

-- the rows of a tree are these, in any order
abbrev pub Lists : {X : Type 0} → (X → Row) → (Row → Row) → List X → List Row → Type 0
Lists written columns xs rows = IsPermutation (map written xs) (map columns rows)

-- each row has an integer as its rowid, and no two have the same
pub record HaveRowids (rows : List Row) : Type 0 where
  pub integers : HaveIntegerRowids rows
  pub once : (id : ℤ) → length (filter (has_rowid id) rows) ≤ 1

-- the columns at these places
abbrev pub columns_at : List ℕ → Row → Row
columns_at places r = map (column r) places

-- the numbers from this one on, as many as there are items
abbrev pub numbers_from : ℕ → List ℕ → List ℕ
numbers_from at [] = []
numbers_from at (x ∷ xs) = at ∷ numbers_from (suc at) xs
