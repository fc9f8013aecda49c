-- What the functions that lay lines do to them. Only private functions and proofs need these words.
use Rattle.std.specs.Prelude.{◌≡◌, ℕ, ◌+◌, ◌-◌, ◌/◌, ◌%◌, ◌<◌, ◌≤◌, ◌==◌, if◌then◌else◌, Bool, true, List}
use Rattle.std.specs.Prelude.{[], ◌∷◌, ◌++◌, length, replicate, Option, Result, is_ok, IfOk}
use Rattle.std.specs.List.{flat_map}
use Rattle.desk_model.specs.Book.{Book, Paragraph}
use Rattle.desk_model.specs.declared.style.Style.{Style}
use Rattle.desk_ends.specs.Sending.{Transmits}
use Rattle.desk_brf.specs.PageLayout.{Layout, text_lines}
use Rattle.desk_brf.specs.Pages.{ArePages, number_line, with_ending}
use Rattle.desk_brf.specs.Placing.{IsAscii, IsText, IsLine, cells_of_pieces, first_indent, other_indent}
use Rattle.desk_brf.specs.Volume.{AreLines, gap_before}

-- what stands after the line with a number, counted from 1: the end of its page, if it is the last
-- one there
abbrev pub page_end : Layout → ℕ → List ℕ
page_end layout line =
    if line % text_lines layout == 0
    then with_ending (number_line layout.width (line / text_lines layout)) ++ 12 ∷ []
    else []

-- the bytes of lines after so many others
abbrev pub bytes_of_lines : Layout → ℕ → List (List ℕ) → List ℕ
bytes_of_lines layout before [] = []
bytes_of_lines layout before (line ∷ lines) =
    (with_ending line ++ page_end layout (before + 1)) ++ bytes_of_lines layout (before + 1) lines

-- the lines of words as they are laid, one after another
abbrev pub AreLaid : (width first other : ℕ) → List (List ℕ) → List (List ℕ) → Type 0
AreLaid width first other words [] = words ≡ []
AreLaid width first other words (line ∷ lines) =
    (pieces : List (List ℕ)) × (left : List (List ℕ)) × IsLine (width - first) words pieces left
    × IsText first pieces line × AreLaid width other other left lines

-- pieces with a blank before each
abbrev pub with_blanks : List (List ℕ) → List ℕ
with_blanks pieces = flat_map (λ piece. 0 ∷ piece) pieces

-- after so many cells of a line, these words are put, each after a blank; others are left
pub record AddsWords (used : ℕ) (words left : List (List ℕ)) (old new : List ℕ) (after : ℕ) : Type 0 where
  pub pieces : List (List ℕ)
  pub parts : words ≡ pieces ++ left
  pub after_is : after ≡ used + length (with_blanks pieces)
  pub bytes : List ℕ
  pub ascii : IsAscii (with_blanks pieces) bytes
  pub adds : new ≡ old ++ bytes

-- as many are put as there is room for
pub record FillsLine (room used : ℕ) (words left : List (List ℕ)) (old new : List ℕ) : Type 0 where
  pub after : ℕ
  pub added : AddsWords used words left old new after
  pub fits : after ≤ room
  pub full : (next : List ℕ) (others : List (List ℕ)) → left ≡ next ∷ others → room < after + 1 + length next

-- a line of the words is put after what is there
pub record LaysLine (room : ℕ) (words left : List (List ℕ)) (old new : List ℕ) : Type 0 where
  pub pieces : List (List ℕ)
  pub is_line : IsLine room words pieces left
  pub bytes : List ℕ
  pub ascii : IsAscii (cells_of_pieces pieces) bytes
  pub adds : new ≡ old ++ bytes

-- the lines of words, the first after so many blanks and the others after so many, are sent, or a
-- beginning of them
pub record PutsLines (F : Type 0) (old new : Option (List ℕ)) (layout : Layout) (first other : ℕ)
    (words : List (List ℕ)) (before after : ℕ) (whole : Bool) : Type 0 where
  pub lines : List (List ℕ)
  pub placed : AreLaid layout.width first other words lines
  pub sent : Transmits F old new (bytes_of_lines layout before lines) [] whole
  pub count : whole ≡ true → after ≡ before + length lines

-- the lines of a paragraph with these words, after the empty line of a heading, are sent, or a
-- beginning of them
pub record PutsParagraph (F : Type 0) (old new : Option (List ℕ)) (layout : Layout) (style : Style)
    (words : List (List ℕ)) (before after : ℕ) (whole : Bool) : Type 0 where
  pub lines : List (List ℕ)
  pub placed : AreLaid layout.width (first_indent style) (other_indent style) words lines
  pub sent : Transmits F old new (bytes_of_lines layout before (gap_before layout before style lines ++ lines)) [] whole
  pub count : whole ≡ true → after ≡ before + length (gap_before layout before style lines ++ lines)

-- empty lines are sent until the page is full, or a beginning of them
pub record FillsPage (F : Type 0) (old new : Option (List ℕ)) (layout : Layout) (before after : ℕ)
    (whole : Bool) : Type 0 where
  pub blank : ℕ
  pub fewest : blank < text_lines layout
  pub full : (before + blank) % text_lines layout ≡ 0
  pub sent : Transmits F old new (bytes_of_lines layout before (replicate blank [])) [] whole
  pub count : whole ≡ true → after ≡ before + blank

-- the lines of a volume's paragraphs are sent, or a beginning of them
pub record PutsParagraphs (F : Type 0) (old new : Option (List ℕ)) (book : Book) (layout : Layout)
    (paragraphs : List Paragraph) (after : ℕ) (whole : Bool) : Type 0 where
  pub lines : List (List ℕ)
  pub placed : AreLines book layout 0 paragraphs lines
  pub sent : Transmits F old new (bytes_of_lines layout 0 lines) [] whole
  pub count : whole ≡ true → after ≡ length lines

-- the pages of a volume's paragraphs are sent, and their number is given, or a beginning of them is
-- sent
pub record PutsPages (F : Type 0) (old new : Option (List ℕ)) (book : Book) (layout : Layout)
    (paragraphs : List Paragraph) {E : Type 0} (answer : Result ℕ E) : Type 0 where
  pub lines : List (List ℕ)
  pub placed : AreLines book layout 0 paragraphs lines
  pub bytes : List ℕ
  pub pages : ℕ
  pub paged : ArePages layout lines bytes pages
  pub sent : Transmits F old new bytes [] (is_ok answer)
  pub count : IfOk answer (λ number. number ≡ pages)
