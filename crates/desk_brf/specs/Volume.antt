-- A volume of a book in Braille Ready Format.
use Rattle.std.specs.Prelude.{◌≡◌, ◌≢◌, ◌⊎◌, ℕ, ◌+◌, ◌<◌, ◌%◌, ◌==◌, if◌then◌else◌, List}
use Rattle.std.specs.Prelude.{[], ◌∷◌, ◌++◌, length, take, slice_index, All}
use Rattle.cell_core.specs.Cell.{HasDot}
use Rattle.desk_model.specs.Book.{Book, Paragraph}
use Rattle.desk_model.specs.Translation.{IsBraille}
use Rattle.desk_model.specs.declared.style.Style.{Style}
use Rattle.desk_model.specs.declared.style.Style.TheVariants.{Body, Heading}
use Rattle.desk_brf.specs.PageLayout.{Layout, text_lines}
use Rattle.desk_brf.specs.Volumes.{volume_of}
use Rattle.desk_brf.specs.Words.{words}
use Rattle.desk_brf.specs.Placing.{ArePlaced, first_indent, other_indent}
use Rattle.desk_brf.specs.Pages.{ArePages}

-- an empty line stands before the lines of a heading, if there are any, unless they begin a page
abbrev pub gap_before : Layout → ℕ → Style → List (List ℕ) → List (List ℕ)
gap_before layout before Body lines = []
gap_before layout before Heading [] = []
gap_before layout before Heading (line ∷ lines) = if before % text_lines layout == 0 then [] else [] ∷ []

-- the lines of paragraphs, after so many lines of their volume
abbrev pub AreLines : Book → Layout → ℕ → List Paragraph → List (List ℕ) → Type 0
AreLines book layout before [] lines = lines ≡ []
AreLines book layout before (paragraph ∷ paragraphs) lines =
    (cells : List ℕ) × (own : List (List ℕ)) × (rest : List (List ℕ)) × IsBraille book paragraph cells
    × ArePlaced layout.width (first_indent paragraph.style) (other_indent paragraph.style) (words cells) own
    × (let all = gap_before layout before paragraph.style own ++ own in
    (lines ≡ all ++ rest) × AreLines book layout (before + length all) paragraphs rest)

-- the bytes of the volume with a number, which is there, and how many pages they are
pub record IsVolume (book : Book) (layout : Layout) (number : ℕ) (bytes : List ℕ) (pages : ℕ) : Type 0 where
  pub there : volume_of book number ≢ []
  pub lines : List (List ℕ)
  pub placed : AreLines book layout 0 (volume_of book number) lines
  pub paged : ArePages layout lines bytes pages

-- ---- what no byte stands for

-- the cell has neither dot 7 nor dot 8, whose values are 2^6 and 2^7
abbrev pub IsSixDot : ℕ → Type 0
IsSixDot cell = cell < 64

-- the paragraph's braille has only cells of the dots 1 to 6
abbrev pub HasSixDotCells : Book → Paragraph → Type 0
HasSixDotCells book paragraph = (cells : List ℕ) × IsBraille book paragraph cells × All IsSixDot cells

-- the first cell of the paragraphs that has dot 7 or 8: in the paragraph with this id, at this
-- place of its braille
pub record IsFirstEightDot (book : Book) (paragraphs : List Paragraph) (id place : ℕ) : Type 0 where
  pub before : List Paragraph
  pub paragraph : Paragraph
  pub after : List Paragraph
  pub parts : paragraphs ≡ before ++ paragraph ∷ after
  pub six_dot : All (HasSixDotCells book) before
  pub id_is : id ≡ paragraph.id
  pub cells : List ℕ
  pub braille : IsBraille book paragraph cells
  pub within : place < length cells
  pub first : All IsSixDot (take place cells)
  pub raised : HasDot (slice_index cells place) 7 ⊎ HasDot (slice_index cells place) 8
