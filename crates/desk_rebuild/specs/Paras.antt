-- Rows of paragraphs, checked against the tables that are held.
use Rattle.std.specs.Prelude.{◌≡◌, ◌≢◌, ℕ, suc, ℤ, pos, ◌+◌, ◌<◌, List, [], length, nat_eq, slice_get, Some, chars}
use Rattle.std.specs.Cmp.Lexicographic.{pointwise}
use Rattle.std.specs.Map.{lookup}
use Rattle.louis_translate.specs.Position.{AreDefined}
use Rattle.desk_memory.specs.declared.paragraphs.Paragraph.{Paragraph as HeldParagraph}
use Rattle.desk_memory.specs.declared.tables.BookTable.{BookTable}
use Rattle.desk_model.specs.Damage.{IsFlag, IsPrintText, IsWithin}
use Rattle.desk_parts.specs.declared.file_table.FileTable.TheVariants as file
use Rattle.desk_parts.specs.FileRows.{HasUtf8Texts}
use Rattle.desk_rebuild.specs.Rows.{IsOf}
use Rattle.desk_memory.specs.Held.{HeldTables}
use Rattle.desk_rebuild.specs.OrderedRows.{AreHeldUpTo, RowRule}
use Rattle.desk_model.specs.Limits.{most_paragraphs}
use Rattle.desk_parts.specs.Rows.{Para}

-- ---- a row, but for its id and its place

-- the table with this name defines a print
pub record AreDefinedBy (tables : HeldTables) (name print : List ℕ) : Type 0 where
  pub table : BookTable
  pub found : lookup (pointwise nat_eq name) tables ≡ Some table
  pub defined : AreDefined table.rules print

-- the row is sound, whatever its id and its place
pub record IsParaOn (tables : HeldTables) (row : Para) : Type 0 where
  pub original : IsPrintText (chars row.original)
  pub print : IsPrintText (chars row.print)
  pub table : AreDefinedBy tables (chars row.tab) (chars row.print)
  pub style : IsFlag row.style
  pub volume : IsFlag row.volume
  pub struck : IsFlag row.struck

-- the held paragraph has what the row says, and no marks
pub record IsHeldOf (row : Para) (held : HeldParagraph) : Type 0 where
  pub of : IsOf row held
  pub marks : held.marks ≡ []

-- ---- places

-- the place, from 1, has this index, from 0, at which no id stands yet
pub record IsFree (order : List ℕ) (place : ℤ) (index : ℕ) : Type 0 where
  pub is : place ≡ pos (index + 1)
  pub free : slice_get order index ≡ Some 0

-- the index of the row's place has the row's number, from 1
pub record IsPlaced (order : List ℕ) (number : ℕ) (row : Para) : Type 0 where
  pub index : ℕ
  pub is : row.place ≡ pos (index + 1)
  pub at : slice_get order index ≡ Some number

-- so many rows stand at their places, and nothing else stands at any
pub record ArePlacedUpTo (count : ℕ) (rows : List Para) (order : List ℕ) : Type 0 where
  pub room : length order ≡ length rows
  pub placed : (index : ℕ) (row : Para) → index < count → slice_get rows index ≡ Some row
      → IsPlaced order (index + 1) row
  pub taken : (index id : ℕ) → slice_get order index ≡ Some (suc id)
      → (row : Para) × (id < count) × (slice_get rows id ≡ Some row) × (row.place ≡ pos (index + 1))

-- ---- rows in the order of their ids

-- the row at this index, from 0, is sound, whatever its id: no row before it has its place
pub record IsParaAt (tables : HeldTables) (rows : List Para) (index : ℕ) (row : Para) : Type 0 where
  pub place : IsWithin 1 (length rows) row.place
  pub own : (before : ℕ) (other : Para) → before < index → slice_get rows before ≡ Some other → other.place ≢ row.place
  pub para : IsParaOn tables row

-- what is asked of these rows beside these tables
abbrev pub para_rule : HeldTables → List Para → RowRule Para
para_rule tables rows =
    record {
      id = λ row. row.id;
      most = most_paragraphs;
      IsSound = IsParaAt tables rows;
      HasUtf8Texts = HasUtf8Texts file.Para;
    }

-- so many rows are sound, have their paragraphs, and stand at their places
pub record AreHeldOf (tables : HeldTables) (count : ℕ) (rows : List Para) (items : List HeldParagraph)
    (order : List ℕ) : Type 0 where
  pub held : AreHeldUpTo (para_rule tables rows) IsHeldOf count rows items
  pub places : ArePlacedUpTo count rows order
