-- The braille of a book's paragraphs.
use Rattle.std.specs.Prelude.{◌≡◌, ◌⊎◌, ℕ, ◌+◌, ◌-◌, ◌<◌, ◌≤◌, List, length, Some}
use Rattle.louis_table.specs.Meaning.{Meaning}
use Rattle.louis_table.specs.Table.{Means}
use Rattle.louis_translate.specs.declared.choices.Choice.{Choice}
use Rattle.louis_translate.specs.Tiling.{Tiles}
use Rattle.louis_translate.specs.Braille.{braille}
use Rattle.louis_translate.specs.Braille as places
use Rattle.desk_model.specs.Book.{Book, Paragraph, text_of, paragraph_of}
use Rattle.desk_model.specs.Print.{print_of}

-- by the meaning of the text of its table, these choices cover the paragraph's print
pub record IsTranslatedBy (book : Book) (paragraph : Paragraph) (meaning : Meaning)
    (choices : List Choice) : Type 0 where
  pub text : List ℕ
  pub found : text_of book paragraph.table ≡ Some text
  pub means : Means text meaning
  pub tiles : Tiles meaning (print_of paragraph) choices

-- the cells are the paragraph's braille
abbrev pub IsBraille : Book → Paragraph → List ℕ → Type 0
IsBraille book paragraph cells =
    (meaning : Meaning) × (choices : List Choice) × IsTranslatedBy book paragraph meaning choices
    × (cells ≡ braille meaning (print_of paragraph) choices)

-- the place of the print is there, and this is its output place
abbrev pub IsOutputPlace : Book → Paragraph → (place cell : ℕ) → Type 0
IsOutputPlace book paragraph place cell =
    (meaning : Meaning) × (choices : List Choice) × IsTranslatedBy book paragraph meaning choices
    × (place < length (print_of paragraph)) × places.IsOutputPlace meaning (print_of paragraph) choices place cell

-- the cell is there, and this is its print place
abbrev pub IsPrintPlace : Book → Paragraph → (cell place : ℕ) → Type 0
IsPrintPlace book paragraph cell place =
    (meaning : Meaning) × (choices : List Choice) × IsTranslatedBy book paragraph meaning choices
    × (cell < length (braille meaning (print_of paragraph) choices))
    × places.IsPrintPlace meaning (print_of paragraph) choices cell place

-- the book has the paragraph, but the print of it doesn't have the place
pub record LacksPlace (book : Book) (id place : ℕ) : Type 0 where
  pub paragraph : Paragraph
  pub found : paragraph_of book id ≡ Some paragraph
  pub past : length (print_of paragraph) ≤ place

-- the book has the paragraph, but the braille of it doesn't have the cell
pub record LacksCell (book : Book) (id cell : ℕ) : Type 0 where
  pub paragraph : Paragraph
  pub found : paragraph_of book id ≡ Some paragraph
  pub meaning : Meaning
  pub choices : List Choice
  pub translated : IsTranslatedBy book paragraph meaning choices
  pub past : length (braille meaning (print_of paragraph) choices) ≤ cell

-- ---- the print under cells

-- so many cells from a cell on stand for the places of the print from start up to but not including
-- end: from the print place of the first of them to the end of the choice that made the last
pub record AreMarked (book : Book) (id cell count start end : ℕ) : Type 0 where
  pub paragraph : Paragraph
  pub found : paragraph_of book id ≡ Some paragraph
  pub meaning : Meaning
  pub choices : List Choice
  pub translated : IsTranslatedBy book paragraph meaning choices
  pub starts : places.IsPrintPlace meaning (print_of paragraph) choices cell start
  pub ends : places.IsPrintEnd meaning (print_of paragraph) choices (cell + count - 1) end

-- the book has the paragraph, but no cell is asked for, or more than the braille of it has
pub record LacksCells (book : Book) (id cell count : ℕ) : Type 0 where
  pub paragraph : Paragraph
  pub found : paragraph_of book id ≡ Some paragraph
  pub meaning : Meaning
  pub choices : List Choice
  pub translated : IsTranslatedBy book paragraph meaning choices
  pub lacks : (count ≡ 0) ⊎ (length (braille meaning (print_of paragraph) choices) < cell + count)
