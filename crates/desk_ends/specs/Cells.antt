-- Cells as text.
use Rattle.std.specs.Prelude.{ℕ, List, map, encode_utf8_all}
use Rattle.cell_core.specs.Cell.{braille_character}

-- cells as characters of the block Braille Patterns, in UTF-8
abbrev pub text_of : List ℕ → List ℕ
text_of cells = encode_utf8_all (map braille_character cells)
