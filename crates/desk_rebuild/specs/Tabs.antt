-- Rows of tables as they are read, in the order of their names.
use Rattle.std.specs.Prelude.{◌≡◌, ℕ, ℤ, pos, ◌+◌, ◌<◌, ◌≤◌, ⊤, List, map, length, nat_eq, slice_get, None, Some, All}
use Rattle.std.specs.List.Sorted.{IsPermutation, IsStrictlySortedBy}
use Rattle.std.specs.Cmp.Lexicographic.{pointwise, slice_cmp}
use Rattle.std.specs.Map.{lookup}
use Rattle.std.specs.Ordering.{nat_cmp, ordering_then}
use Rattle.std.specs.declared.cmp.Ordering.{Ordering}
use Rattle.louis_table.specs.Meaning.{Meaning}
use Rattle.louis_table.specs.Table.{Means}
use Rattle.desk_rebuild.specs.declared.damage.RowsFault.{RowsFault}
use Rattle.desk_rebuild.specs.declared.damage.RowsFault.TheVariants.{Damaged, NoMemory}
use Rattle.desk_model.specs.Damage.{IsSoundTabRow}
use Rattle.desk_parts.specs.declared.file_table.FileTable.TheVariants as file
use Rattle.desk_parts.specs.FileRows.{HasUtf8Texts, spelled}
use Rattle.desk_memory.specs.Held.{HeldTables}
use Rattle.desk_model.specs.Limits.{most_tables}
use Rattle.desk_model.specs.ValidNames.{IsTableName}
use Rattle.desk_parts.specs.Rows.{StoredTab, Tab}
use Rattle.desk_model.specs.Shows.{tab_of}

-- the rows, without the rowids under which the file keeps them
abbrev pub rows_of : List StoredTab → List Tab
rows_of rows = map (λ stored. stored.row) rows

-- by the bytes of the names, whose order in UTF-8 is that of their characters, and for one name by
-- the texts
abbrev pub tab_order : Tab → Tab → Ordering
tab_order one other = ordering_then (slice_cmp nat_cmp one.name other.name) (slice_cmp nat_cmp one.body other.body)

-- each of these rows, which are the first of a list in order, is sound, and the held tables are
-- theirs
pub record AreRead (sorted done : List Tab) (tables : HeldTables) : Type 0 where
  pub texts : All (HasUtf8Texts file.Tab) done
  pub rows : IsPermutation (map (spelled file.Tab) done) (map (λ entry. tab_of (entry.0, entry.1.text)) tables)
  pub means : All (λ entry. Means entry.1.text entry.1.rules) tables
  pub names : IsStrictlySortedBy (slice_cmp nat_cmp) (map (λ entry. entry.0) tables)
  pub few : length tables ≤ most_tables
  pub sound : (index : ℕ) (row : Tab) → index < length done → slice_get sorted index ≡ Some row
      → IsSoundTabRow sorted index row

-- the row after so many isn't sound, which is reported at its number, from 1; or an allocation
-- failed
abbrev pub TellsUnsoundTab : List Tab → ℕ → Tab → RowsFault → Type 0
TellsUnsoundTab sorted index row (Damaged id) = (id ≡ pos (index + 1)) × ¬ IsSoundTabRow sorted index row
TellsUnsoundTab sorted index row NoMemory = ⊤

-- there is room for one more table, and this is the name of one that isn't there
pub record MayCome (tables : HeldTables) (name : List ℕ) : Type 0 where
  pub room : length tables < most_tables
  pub named : IsTableName name
  pub new : lookup (pointwise nat_eq name) tables ≡ None

-- the text has no meaning, which is reported at this number; or an allocation failed
abbrev pub TellsNoMeaning : List ℕ → ℤ → RowsFault → Type 0
TellsNoMeaning text id (Damaged reported) = (reported ≡ id) × ((meaning : Meaning) → ¬ Means text meaning)
TellsNoMeaning text id NoMemory = ⊤

-- of rows in order the first that isn't sound is reported at its number, from 1; or an allocation
-- failed
abbrev pub TellsFirstUnsound : List Tab → RowsFault → Type 0
TellsFirstUnsound sorted (Damaged id) =
    (index : ℕ) × (row : Tab) × (slice_get sorted index ≡ Some row) × (id ≡ pos (index + 1))
    × ¬ IsSoundTabRow sorted index row
    × ((before : ℕ) (other : Tab) → before < index → slice_get sorted before ≡ Some other
    → IsSoundTabRow sorted before other)
TellsFirstUnsound sorted NoMemory = ⊤
