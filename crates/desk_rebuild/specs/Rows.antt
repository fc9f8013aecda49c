-- What is read of the rows of a book's file, table by table, and what is reported if a table is
-- damaged.
use Rattle.std.specs.Prelude.{◌≡◌, ℕ, ℤ, pos, ◌+◌, ◌-◌, ◌≤ℤ◌, nat_abs, List, [], map, filter, length, slice_get, Some}
use Rattle.std.specs.Prelude.{⊤, chars}
use Rattle.std.specs.List.{All, range_with_len}
use Rattle.std.specs.List.Sorted.{IsPermutation, IsStrictlySortedBy}
use Rattle.std.specs.Cmp.Lexicographic.{slice_cmp}
use Rattle.std.specs.Ordering.{int_eq, nat_cmp}
use Rattle.louis_table.specs.Meaning.{Meaning}
use Rattle.louis_table.specs.Table.{Means}
use Rattle.desk_memory.specs.declared.marks.HeldMark.{HeldMark}
use Rattle.desk_memory.specs.declared.paragraphs.Paragraph.{Paragraph as HeldParagraph}
use Rattle.desk_rebuild.specs.declared.damage.RowsFault.{RowsFault}
use Rattle.desk_rebuild.specs.declared.damage.RowsFault.TheVariants.{Damaged, NoMemory}
use Rattle.desk_memory.specs.Braille.{AreCellsOf}
use Rattle.desk_model.specs.Damage.{IsItsTable, IsPrintText, IsSoundEntryRow, history_of}
use Rattle.desk_parts.specs.declared.file_table.FileTable.TheVariants as file
use Rattle.desk_parts.specs.FileRows.{HasUtf8Texts, spelled}
use Rattle.desk_memory.specs.Histories.{HaveTaken, entries_held}
use Rattle.desk_memory.specs.Held.{HeldTables, marks_held}
use Rattle.desk_memory.specs.HeldMarks.{indexes_on}
use Rattle.desk_model.specs.Print.{corrected_print}
use Rattle.desk_parts.specs.Rows.{Mark as MarkRow, NamedCorr, Para, Tab}
use Rattle.desk_model.specs.Shows.{flag_number, mark_row_of, style_number, tab_of}

-- ---- what is reported

-- nothing of the table is damaged
abbrev pub IsWhole : (ℤ → Type 0) → Type 0
IsWhole damaged = (id : ℤ) → ¬ damaged id

-- the smallest id of the damage
abbrev pub IsFirstId : (ℤ → Type 0) → ℤ → Type 0
IsFirstId damaged id = damaged id × ((other : ℤ) → damaged other → id ≤ℤ other)

-- the smallest id of the damage is reported, or an allocation failed
abbrev pub TellsDamage : (ℤ → Type 0) → RowsFault → Type 0
TellsDamage damaged (Damaged id) = IsFirstId damaged id
TellsDamage damaged NoMemory = ⊤

-- ---- tables

-- the held tables, in the order of their names, are those of the rows
pub record AreTables (tabs : List Tab) (tables : HeldTables) : Type 0 where
  pub texts : All (HasUtf8Texts file.Tab) tabs
  pub rows : IsPermutation (map (spelled file.Tab) tabs) (map (λ entry. tab_of (entry.0, entry.1.text)) tables)
  pub means : All (λ entry. Means entry.1.text entry.1.rules) tables
  pub sorted : IsStrictlySortedBy (slice_cmp nat_cmp) (map (λ entry. entry.0) tables)

-- ---- paragraphs

-- the held paragraph has what its row says
pub record IsOf (row : Para) (held : HeldParagraph) : Type 0 where
  pub table : held.table ≡ chars row.tab
  pub original : held.original ≡ chars row.original
  pub print : held.print ≡ chars row.print
  pub style : style_number held.style ≡ row.style
  pub volume : flag_number held.begins_volume ≡ row.volume
  pub struck : flag_number held.struck ≡ row.struck

-- the held paragraph of a row, by its id
pub record HasHeld (items : List HeldParagraph) (row : Para) : Type 0 where
  pub held : HeldParagraph
  pub at : slice_get items (nat_abs row.id - 1) ≡ Some held
  pub of : IsOf row held
  pub original : IsPrintText (chars row.original)
  pub print : IsPrintText (chars row.print)

-- The held paragraphs, in the order of their ids, are those of the rows, whatever their histories,
-- braille and marks.
pub record AreOf (paras : List Para) (items : List HeldParagraph) : Type 0 where
  pub texts : All (HasUtf8Texts file.Para) paras
  pub ids : IsPermutation (map (λ row. row.id) paras) (map pos (range_with_len 1 (length items)))
  pub each : All (HasHeld items) paras

-- the ids as the places of the rows have them
pub record AreInPlaces (paras : List Para) (order : List ℕ) : Type 0 where
  pub placed : List Para
  pub same : IsPermutation paras placed
  pub places : map (λ row. row.place) placed ≡ map pos (range_with_len 1 (length placed))
  pub ids : map (λ row. row.id) placed ≡ map pos order

-- a held paragraph without its history
abbrev pub without_history : HeldParagraph → HeldParagraph
without_history held = record held { history = [] }

-- a held paragraph without its braille
abbrev pub without_cells : HeldParagraph → HeldParagraph
without_cells held = record held { cells = [] }

-- a held paragraph without its marks
abbrev pub without_marks : HeldParagraph → HeldParagraph
without_marks held = record held { marks = [] }

-- ---- histories

-- the held paragraph of the row has the history of its entries
pub record HasHistory (entries : List NamedCorr) (items : List HeldParagraph) (row : Para) : Type 0 where
  pub sorted : List NamedCorr
  pub its_own : IsPermutation (filter (λ entry. int_eq entry.entry.para row.id) entries) sorted
  pub each : (index : ℕ) (entry : NamedCorr) → slice_get sorted index ≡ Some entry
      → IsSoundEntryRow (chars row.original) sorted index entry
  pub held : HeldParagraph
  pub at : slice_get items (nat_abs row.id - 1) ≡ Some held
  pub history : entries_held held.history ≡ history_of sorted
  pub taken : HaveTaken held.original held.history
  pub print : corrected_print held.original (history_of sorted) ≡ held.print

-- ---- marks

-- the held marks, in the order of their ids, are those of the rows
abbrev pub AreMarksOf : List MarkRow → List HeldMark → Type 0
AreMarksOf rows marks = IsPermutation (map (spelled file.Mark) rows) (map mark_row_of (marks_held marks))

-- the held paragraph at each index, from 0, has the indexes of its marks
abbrev pub HaveMarks : List HeldMark → List HeldParagraph → Type 0
HaveMarks marks items =
    (index : ℕ) (held : HeldParagraph) → slice_get items index ≡ Some held → held.marks ≡ indexes_on (index + 1) marks

-- ---- braille

-- the held paragraph of the row has the braille of its print by the table that it names
pub record HasCells (tabs : List Tab) (items : List HeldParagraph) (row : Para) : Type 0 where
  pub held : HeldParagraph
  pub at : slice_get items (nat_abs row.id - 1) ≡ Some held
  pub meaning : Meaning
  pub table : IsItsTable tabs row meaning
  pub cells : AreCellsOf meaning held.print held.cells
