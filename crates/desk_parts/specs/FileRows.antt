-- The rows of a book's whole file.
use Rattle.std.specs.Prelude.{ℕ, List, [], map, Option, IsUtf8, ⊤, All, chars}
use Rattle.desk_parts.specs.declared.file_table.FileTable.{FileTable}
use Rattle.desk_parts.specs.declared.file_table.FileTable.TheVariants as tables
use Rattle.desk_parts.specs.declared.rows.BookRow.{BookRow}
use Rattle.desk_parts.specs.Rows.{Tab, Para, Corr, NamedCorr, Mark, ParaCells, RowOf}

-- The entries of all histories: of the table `corr`, as the first format keeps them, or of `corr2`,
-- as the second does.
pub data EntryRows : Type 0 where
  Unnamed : List Corr → EntryRows
  Named : List NamedCorr → EntryRows

-- The rows of the tables, those of each in any order; of `cache` if the file has it. The rowids of
-- `tab` are hidden, and say nothing.
pub record FileRows : Type 0 where
  pub books : List BookRow
  pub tabs : List Tab
  pub paras : List Para
  pub entries : EntryRows
  pub marks : List Mark
  pub caches : Option (List ParaCells)

-- the format of a file that keeps entries so
abbrev pub format_of : EntryRows → ℕ
format_of (Unnamed corrs) = 1
format_of (Named corrs) = 2

-- the table that has them as its rows
abbrev pub table_of : EntryRows → FileTable
table_of (Unnamed corrs) = tables.Corr
table_of (Named corrs) = tables.NamedCorr

-- The entries; one of the first format is that of a proofreader without a name.
abbrev pub entries_in : EntryRows → List NamedCorr
entries_in (Unnamed corrs) = map (λ corr. record { entry = corr; who = [] }) corrs
entries_in (Named corrs) = corrs

-- ---- texts

-- the texts of a row are UTF-8
abbrev pub HasUtf8Texts : (t : FileTable) → RowOf t → Type 0
HasUtf8Texts tables.Book b = ⊤
HasUtf8Texts tables.Tab t = IsUtf8 t.name
HasUtf8Texts tables.Para p = IsUtf8 p.tab × IsUtf8 p.original × IsUtf8 p.print
HasUtf8Texts tables.Corr e = IsUtf8 e.body
HasUtf8Texts tables.Mark m = IsUtf8 m.note
HasUtf8Texts tables.Cache c = ⊤
HasUtf8Texts tables.NamedCorr e = IsUtf8 e.entry.body × IsUtf8 e.who

-- each text is UTF-8
pub record AreTexts (rows : FileRows) : Type 0 where
  pub tabs : All (HasUtf8Texts tables.Tab) rows.tabs
  pub paras : All (HasUtf8Texts tables.Para) rows.paras
  pub entries : All (HasUtf8Texts tables.NamedCorr) (entries_in rows.entries)
  pub marks : All (HasUtf8Texts tables.Mark) rows.marks

-- a row with its texts as characters, in place of their bytes
abbrev pub spelled : (t : FileTable) → RowOf t → RowOf t
spelled tables.Book b = b
spelled tables.Tab t = record t { name = chars t.name }
spelled tables.Para p = record p { tab = chars p.tab; original = chars p.original; print = chars p.print }
spelled tables.Corr e = record e { body = chars e.body }
spelled tables.Mark m = record m { note = chars m.note }
spelled tables.Cache c = c
spelled tables.NamedCorr e = record { entry = record e.entry { body = chars e.entry.body }; who = chars e.who }
