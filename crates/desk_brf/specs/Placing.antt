-- How the words of a paragraph are placed on lines.
use Rattle.std.specs.Prelude.{◌≡◌, ℕ, ◌-◌, ◌<◌, ◌≤◌, List, [], ◌∷◌, ◌++◌, length, map, replicate, Some}
use Rattle.std.specs.List.{join_with_byte}
use Rattle.cell_core.specs.Ascii.{ascii_cell}
use Rattle.desk_model.specs.declared.style.Style.{Style}
use Rattle.desk_model.specs.declared.style.Style.TheVariants.{Body, Heading}

-- the cells of pieces on a line: one blank cell, 0, stands between two
abbrev pub cells_of_pieces : List (List ℕ) → List ℕ
cells_of_pieces pieces = join_with_byte 0 pieces

-- a line with room for so many cells takes these pieces from the front of the words, and leaves the
-- rest
pub data IsLine (room : ℕ) (words pieces left : List (List ℕ)) : Type 0 where
  -- the first word is longer than the room: it is cut there, and what remains of it is the next
  -- line's first word
  cut : (front back : List ℕ) (others : List (List ℕ)) → words ≡ (front ++ back) ∷ others
      → length front ≡ room → 0 < length back
      → pieces ≡ front ∷ [] → left ≡ back ∷ others → IsLine room words pieces left
  -- one whole word or more, as many as fit
  whole : words ≡ pieces ++ left → 0 < length pieces → length (cells_of_pieces pieces) ≤ room
      → ((next : List ℕ) (others : List (List ℕ)) → left ≡ next ∷ others
      → room < length (cells_of_pieces (pieces ++ next ∷ []))) → IsLine room words pieces left

-- a placing of words: the pieces of each line, where the first line has room for so many cells and
-- each other one for so many; no words give no line
abbrev pub IsPlacing : (first other : ℕ) → List (List ℕ) → List (List (List ℕ)) → Type 0
IsPlacing first other words [] = words ≡ []
IsPlacing first other words (pieces ∷ lines) =
    (left : List (List ℕ)) × IsLine first words pieces left × IsPlacing other other left lines

-- the bytes are these cells in North American Braille ASCII
abbrev pub IsAscii : List ℕ → List ℕ → Type 0
IsAscii cells bytes = map ascii_cell bytes ≡ map Some cells

-- the bytes are a line of these pieces, after so many blanks
abbrev pub IsText : ℕ → List (List ℕ) → List ℕ → Type 0
IsText indent pieces bytes = IsAscii (replicate indent 0 ++ cells_of_pieces pieces) bytes

-- the bytes of a placing's lines, of the first after so many blanks and of each other one after so
-- many
abbrev pub AreTexts : (first other : ℕ) → List (List (List ℕ)) → List (List ℕ) → Type 0
AreTexts first other [] lines = lines ≡ []
AreTexts first other (pieces ∷ placing) lines =
    (line : List ℕ) × (rest : List (List ℕ)) × (lines ≡ line ∷ rest) × IsText first pieces line
    × AreTexts other other placing rest

-- the lines of words on a width, by the blanks before the first line and before each other one
abbrev pub ArePlaced : (width first other : ℕ) → List (List ℕ) → List (List ℕ) → Type 0
ArePlaced width first other words lines =
    (placing : List (List (List ℕ))) × IsPlacing (width - first) (width - other) words placing
    × AreTexts first other placing lines

-- the blanks before the first line of a paragraph, which begins in cell 3 or 5
abbrev pub first_indent : Style → ℕ
first_indent Body = 2
first_indent Heading = 4

-- the blanks before each other line of it, which begins in cell 1 or 5
abbrev pub other_indent : Style → ℕ
other_indent Body = 0
other_indent Heading = 4
