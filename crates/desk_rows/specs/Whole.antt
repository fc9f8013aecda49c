-- The rows of a whole file.
use Rattle.std.specs.Prelude.{◌≡◌, ℕ, ℤ, List, map, IsPermutation, IsUtf8, ⊤, true}
use Rattle.std.specs.List.{AllByRecursion, IsDistinct}
use Rattle.std.specs.Ordering.{int_eq}
use Rattle.sqlite_trees.specs.Tree.{Trees}
use Rattle.sqlite_rules.specs.Edit.{IsNoIndex}
use Rattle.sql_tables.specs.Rows.{Lists, columns_at}
use Rattle.desk_parts.specs.declared.file_table.FileTable.{FileTable}
use Rattle.desk_parts.specs.declared.file_table.FileTable.TheVariants as tables
use Rattle.desk_parts.specs.FileRows.{HasUtf8Texts}
use Rattle.desk_parts.specs.Puts.{RowPut, PutRow, SetColumns, Flags, Place, Print, Resolved, Span, Table, Version}
use Rattle.desk_rows.specs.Contents.{Contents}
use Rattle.desk_rows.specs.Descriptions.{description_of}
use Rattle.desk_rows.specs.Layout.{Layout, IsOther}
use Rattle.desk_rows.specs.Rows.{ShownOf, own, shown_columns}

-- the same rows in each of the tables, in any order, and in each other tree
pub record HaveSameRows (l : Layout) (c d : Contents) : Type 0 where
  pub tables : (t : FileTable) → l.has t ≡ true → IsPermutation (c.rows t) (d.rows t)
  pub others : AllByRecursion (λ t. IsOther l t.tree → c.others t.tree ≡ d.others t.tree) l.schema.tables
  pub aside : (tree : ℕ) → IsOther l tree → IsNoIndex l.schema tree → c.others tree ≡ d.others tree

-- the rows of the tables as they are read, those of `tab` with their rowids
abbrev pub Rows : Type 0
Rows = (t : FileTable) → List (ShownOf t)

-- these are the rows of the tables, in any order
abbrev pub AreRows : Layout → Rows → Trees → Type 0
AreRows l rows db =
    (t : FileTable) → l.has t ≡ true
    → Lists (shown_columns t) (columns_at (description_of t).shown) (rows t) (db (l.tree t))

-- no two have the same number
abbrev pub DifferBy : {X : Type 0} → (X → ℤ) → List X → Type 0
DifferBy key xs = IsDistinct int_eq (map key xs)

-- The rows that may be changed differ by their keys, those of `tab` by their rowids.
abbrev pub DifferIn : (t : FileTable) → List (ShownOf t) → Type 0
DifferIn tables.Book = DifferBy (λ b. b.id)
DifferIn tables.Tab = DifferBy (λ s. s.rowid)
DifferIn tables.Para = DifferBy (λ p. p.id)
DifferIn tables.Corr = λ es. ⊤
DifferIn tables.Mark = DifferBy (λ m. m.id)
DifferIn tables.Cache = DifferBy (λ k. k.para)
DifferIn tables.NamedCorr = λ es. ⊤

-- the rows that may be changed differ by their keys, those of `tab` by their rowids
abbrev pub AreApart : Rows → Type 0
AreApart rows = (t : FileTable) → DifferIn t (rows t)

-- these rows, beside those of the other tables
abbrev pub contents_of : Rows → Trees → Contents
contents_of rows db = record { rows = λ t. map (own t) (rows t); others = db }

-- each text is UTF-8
abbrev pub AreUtf8 : Contents → Type 0
AreUtf8 c = (t : FileTable) → AllByRecursion (HasUtf8Texts t) (c.rows t)

-- the texts of what is put are UTF-8
abbrev pub IsUtf8Put : RowPut → Type 0
IsUtf8Put (PutRow t row) = HasUtf8Texts t row
IsUtf8Put (SetColumns tables.Book id (Version version)) = ⊤
IsUtf8Put (SetColumns tables.Para id (Place place)) = ⊤
IsUtf8Put (SetColumns tables.Para id (Flags style volume struck)) = ⊤
IsUtf8Put (SetColumns tables.Para id (Table tab)) = IsUtf8 tab
IsUtf8Put (SetColumns tables.Para id (Print print)) = IsUtf8 print
IsUtf8Put (SetColumns tables.Mark id (Span start stop touched)) = ⊤
IsUtf8Put (SetColumns tables.Mark id (Resolved resolved)) = ⊤
IsUtf8Put (SetColumns t key none) = absurd none
