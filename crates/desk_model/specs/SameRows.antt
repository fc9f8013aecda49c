-- When the rows of two files are the same, in whatever order they stand.
use Rattle.std.specs.Prelude.{◌≡◌, List, Option, Some, None, ⊤, IsPermutation}
use Rattle.desk_parts.specs.FileRows.{EntryRows, FileRows, Named, Unnamed}
use Rattle.desk_parts.specs.Rows.{ParaCells}

-- the same entries of the same table
abbrev pub AreSameEntries : EntryRows → EntryRows → Type 0
AreSameEntries (Unnamed a) (Unnamed b) = IsPermutation a b
AreSameEntries (Unnamed a) (Named b) = ⊥
AreSameEntries (Named a) (Unnamed b) = ⊥
AreSameEntries (Named a) (Named b) = IsPermutation a b

-- the same cells, or none
abbrev pub AreSameCaches : Option (List ParaCells) → Option (List ParaCells) → Type 0
AreSameCaches None None = ⊤
AreSameCaches None (Some b) = ⊥
AreSameCaches (Some a) None = ⊥
AreSameCaches (Some a) (Some b) = IsPermutation a b

-- The same rows of a file, those of each table in any order: the entries in the same one of `corr`
-- and `corr2`, and `cache` in both or in neither.
pub record AreSameRows (a b : FileRows) : Type 0 where
  pub books : a.books ≡ b.books
  pub tabs : IsPermutation a.tabs b.tabs
  pub paras : IsPermutation a.paras b.paras
  pub entries : AreSameEntries a.entries b.entries
  pub marks : IsPermutation a.marks b.marks
  pub caches : AreSameCaches a.caches b.caches
