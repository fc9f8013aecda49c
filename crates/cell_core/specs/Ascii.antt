-- North American Braille ASCII: a byte for each cell of the dots 1 to 6.
use Rattle.std.specs.Prelude.{ℕ, ◌-◌, List, [], ◌∷◌, Option, None, nat_lt, slice_get, if◌then◌else◌}

-- the masks of the bytes from 0x20 on, in their order
abbrev pub ascii_masks : List ℕ
ascii_masks =
    0 ∷ 46 ∷ 16 ∷ 60 ∷ 43 ∷ 41 ∷ 47 ∷ 4 ∷
    55 ∷ 62 ∷ 33 ∷ 44 ∷ 32 ∷ 36 ∷ 40 ∷ 12 ∷
    52 ∷ 2 ∷ 6 ∷ 18 ∷ 50 ∷ 34 ∷ 22 ∷ 54 ∷
    38 ∷ 20 ∷ 49 ∷ 48 ∷ 35 ∷ 63 ∷ 28 ∷ 57 ∷
    8 ∷ 1 ∷ 3 ∷ 9 ∷ 25 ∷ 17 ∷ 11 ∷ 27 ∷
    19 ∷ 10 ∷ 26 ∷ 5 ∷ 7 ∷ 13 ∷ 29 ∷ 21 ∷
    15 ∷ 31 ∷ 23 ∷ 14 ∷ 30 ∷ 37 ∷ 39 ∷ 58 ∷
    45 ∷ 61 ∷ 53 ∷ 42 ∷ 51 ∷ 59 ∷ 24 ∷ 56 ∷ []

-- the cell of a byte, if it has one
abbrev pub ascii_cell : ℕ → Option ℕ
ascii_cell byte = if nat_lt byte 0x20 then None else slice_get ascii_masks (byte - 0x20)
