-- The characters of cells in UTF-8.
use Rattle.std.proofs.Common.{◌≡◌, ℕ, ◌+◌, ◌/◌, ◌%◌, ◌<◌, List, [], ◌∷◌, ◌++◌, ap, ◌∙◌, rules, map, encode_utf8_all}
use Rattle.std.specs.Char.{encode_utf8}
use Rattle.std.proofs.lemmas.List.{map-append}
use Rattle.std.proofs.lemmas.Str.{encodes-append}
use Rattle.desk_ends.specs.Cells.{text_of}
use Rattle.cell_core.specs.Cell.{braille_character}

pub encode-braille_character : (mask : ℕ) → mask < 256 → encode_utf8 (braille_character mask) ≡ 226 ∷ (160 + mask / 64) ∷ (128 + mask % 64) ∷ []
unfolding encode_utf8
encode-braille_character mask small = search rules

pub text_of-append : (xs ys : List ℕ) → text_of (xs ++ ys) ≡ text_of xs ++ text_of ys
text_of-append xs ys = ap encode_utf8_all (map-append braille_character xs ys) ∙ encodes-append (map braille_character xs) (map braille_character ys)
