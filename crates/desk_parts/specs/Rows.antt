-- The rows of a book's file, as numbers and lists. A text is its bytes.
use Rattle.std.specs.Prelude.{ℕ, ℤ, List}
use Rattle.desk_parts.specs.declared.file_table.FileTable.{FileTable}
use Rattle.desk_parts.specs.declared.file_table.FileTable.TheVariants as tables
use Rattle.desk_parts.specs.declared.rows.BookRow.{BookRow}

-- a table of braille: its name and its text
pub record Tab : Type 0 where
  pub name : List ℕ
  pub body : List ℕ

-- a row of tab as its file keeps it, under a rowid
pub record StoredTab : Type 0 where
  pub rowid : ℤ
  pub row : Tab

-- a paragraph
pub record Para : Type 0 where
  pub id : ℤ
  pub place : ℤ
  pub tab : List ℕ
  pub original : List ℕ
  pub print : List ℕ
  pub style : ℤ
  pub volume : ℤ
  pub struck : ℤ

-- an entry of a history without a name
pub record Corr : Type 0 where
  pub para : ℤ
  pub seq : ℤ
  pub kind : ℤ
  pub start : ℤ
  pub len : ℤ
  pub body : List ℕ

-- an entry of a history, and the name of the proofreader who corrected
pub record NamedCorr : Type 0 where
  pub entry : Corr
  pub who : List ℕ

-- a mark
pub record Mark : Type 0 where
  pub id : ℤ
  pub para : ℤ
  pub start : ℤ
  pub stop : ℤ
  pub note : List ℕ
  pub touched : ℤ
  pub resolved : ℤ

-- the braille of a paragraph, one mask a cell
pub record ParaCells : Type 0 where
  pub para : ℤ
  pub cells : List ℕ

-- a row of a table
abbrev pub RowOf : FileTable → Type 0
RowOf tables.Book = BookRow
RowOf tables.Tab = Tab
RowOf tables.Para = Para
RowOf tables.Corr = Corr
RowOf tables.Mark = Mark
RowOf tables.Cache = ParaCells
RowOf tables.NamedCorr = NamedCorr
