-- Which rows of `cache` fit the paragraphs that are held.
use Rattle.std.specs.Prelude.{◌≡◌, ◌⊎◌, ℕ, ◌+◌, ◌<◌, ℤ, pos, ◌<ℤ◌, ◌≤ℤ◌, List}
use Rattle.std.specs.Prelude.{length, slice_get, Option, Some, None, nat_eq}
use Rattle.std.specs.Cmp.Lexicographic.{pointwise}
use Rattle.std.specs.Map.{lookup}
use Rattle.louis_translate.specs.Position.{AreDefined}
use Rattle.desk_memory.specs.declared.paragraphs.Paragraph.{Paragraph as HeldParagraph}
use Rattle.desk_memory.specs.declared.tables.BookTable.{BookTable}
use Rattle.desk_memory.specs.Braille.{AreCellsOf}
use Rattle.desk_memory.specs.Held.{HeldTables}
use Rattle.desk_parts.specs.Rows.{ParaCells}

-- the paragraph's table is there, and defines its print
pub record IsTranslatable (tables : HeldTables) (held : HeldParagraph) : Type 0 where
  pub table : BookTable
  pub found : lookup (pointwise nat_eq held.table) tables ≡ Some table
  pub defined : AreDefined table.rules held.print

-- the cells are the braille of the paragraph's print by its table
pub record IsItsBraille (tables : HeldTables) (held : HeldParagraph) (cells : List ℕ) : Type 0 where
  pub table : BookTable
  pub found : lookup (pointwise nat_eq held.table) tables ≡ Some table
  pub cells_are : AreCellsOf table.rules held.print cells

-- at the index of each paragraph stand its cells
abbrev pub AreTheirCells : HeldTables → List HeldParagraph → List (Option (List ℕ)) → Type 0
AreTheirCells tables items cells =
    (index : ℕ) (held : HeldParagraph) → slice_get items index ≡ Some held
    → (own : List ℕ) × (slice_get cells index ≡ Some (Some own)) × IsItsBraille tables held own

-- the row at this index, from 0, has the id and the braille of the paragraph there
pub record IsRightAt (tables : HeldTables) (items : List HeldParagraph) (rows : List ParaCells)
    (index : ℕ) : Type 0 where
  pub held : HeldParagraph
  pub at : slice_get items index ≡ Some held
  pub row : ParaCells
  pub row_at : slice_get rows index ≡ Some row
  pub para : row.para ≡ pos (index + 1)
  pub cells : IsItsBraille tables held row.cells

-- so many rows are right
abbrev pub AreRight : HeldTables → List HeldParagraph → List ParaCells → ℕ → Type 0
AreRight tables items rows count = (index : ℕ) → index < count → IsRightAt tables items rows index

-- there is one right row for each paragraph, and there are no others
pub record AreAllRight (tables : HeldTables) (items : List HeldParagraph) (rows : List ParaCells) : Type 0 where
  pub right : AreRight tables items rows (length items)
  pub none : slice_get rows (length items) ≡ None

-- the paragraph at the index has this id, and there is no row for it
pub record IsLacking (items : List HeldParagraph) (rows : List ParaCells) (index : ℕ) (id : ℤ) : Type 0 where
  pub within : index < length items
  pub id_is : id ≡ pos (index + 1)
  pub none : slice_get rows index ≡ None

-- the paragraph at the index has this id, and the row there is of a later one, or hasn't its
-- braille
pub record IsWrong (tables : HeldTables) (items : List HeldParagraph) (rows : List ParaCells) (index : ℕ)
    (id : ℤ) : Type 0 where
  pub held : HeldParagraph
  pub at : slice_get items index ≡ Some held
  pub id_is : id ≡ pos (index + 1)
  pub row : ParaCells
  pub row_at : slice_get rows index ≡ Some row
  pub no_earlier : pos (index + 1) ≤ℤ row.para
  pub wrong : ¬ ((row.para ≡ pos (index + 1)) × IsItsBraille tables held row.cells)

-- the row at the index has this id, and is of no paragraph, or the second of one
pub record IsSurplus (items : List HeldParagraph) (rows : List ParaCells) (index : ℕ) (id : ℤ) : Type 0 where
  pub row : ParaCells
  pub row_at : slice_get rows index ≡ Some row
  pub id_is : id ≡ row.para
  pub past : (row.para <ℤ pos (index + 1)) ⊎ (index ≡ length items)

-- after right rows comes none, a wrong one or one too many, and this is its id
pub record IsMisfit (tables : HeldTables) (items : List HeldParagraph) (rows : List ParaCells) (id : ℤ) : Type 0 where
  pub index : ℕ
  pub before : AreRight tables items rows index
  pub here : IsLacking items rows index id ⊎ (IsWrong tables items rows index id ⊎ IsSurplus items rows index id)
