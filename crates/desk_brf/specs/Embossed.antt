-- What lines of text and pages are like for an embosser, and which cells they have.
use Rattle.std.specs.Prelude.{◌≡◌, ◌≢◌, ◌⊎◌, ℕ, ◌≤◌, ◌==◌, List, [], ◌∷◌, ◌++◌, length, All, filter, not}
use Rattle.std.specs.List.{count_by, filter_map, flat_map}
use Rattle.cell_core.specs.Ascii.{ascii_cell}
use Rattle.desk_model.specs.Book.{Book, Paragraph}
use Rattle.desk_model.specs.Translation.{IsBraille}
use Rattle.desk_brf.specs.Words.{is_blank}

-- a byte that stands for a cell
abbrev pub IsCellByte : ℕ → Type 0
IsCellByte byte = (0x20 ≤ byte) × (byte ≤ 0x5F)

-- a line of cells, at most as many as the width, of which the last isn't a blank
pub record IsTextLine (width : ℕ) (line : List ℕ) : Type 0 where
  pub narrow : length line ≤ width
  pub no_blank_at_end : (front : List ℕ) → line ≢ front ++ 0x20 ∷ []
  pub cells : All IsCellByte line

-- a byte that stands for a cell, or one that ends a line or a page: CR, LF and the form feed
abbrev pub IsEmbossedByte : ℕ → Type 0
IsEmbossedByte byte = IsCellByte byte ⊎ (byte ≡ 0x0D) ⊎ (byte ≡ 0x0A) ⊎ (byte ≡ 0x0C)

-- what stands before the form feed of a page: so many lines, each ended by a line feed, and no
-- other form feed
pub record IsPageText (lines : ℕ) (text : List ℕ) : Type 0 where
  pub line_feeds : count_by (λ byte. byte == 0x0A) text ≡ lines
  pub no_form_feed : All (λ byte. byte ≢ 0x0C) text

-- the bytes are so many pages, each of so many lines and ended by a form feed
pub record ArePageTexts (lines pages : ℕ) (bytes : List ℕ) : Type 0 where
  pub texts : List (List ℕ)
  pub bytes_are : bytes ≡ flat_map (λ text. text ++ 0x0C ∷ []) texts
  pub count_is : pages ≡ length texts
  pub whole : All (IsPageText lines) texts

-- ---- cells

-- the cells with dots that the bytes of lines stand for, in order
abbrev pub dots_in : List (List ℕ) → List ℕ
dots_in lines = flat_map (λ line. filter (λ cell. not (is_blank cell)) (filter_map ascii_cell line)) lines

-- the braille of each of the paragraphs, in order
abbrev pub AreBrailles : Book → List Paragraph → List (List ℕ) → Type 0
AreBrailles book [] brailles = brailles ≡ []
AreBrailles book (paragraph ∷ paragraphs) brailles =
    (cells : List ℕ) × (rest : List (List ℕ)) × (brailles ≡ cells ∷ rest) × IsBraille book paragraph cells
    × AreBrailles book paragraphs rest
