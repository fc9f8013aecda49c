-- A braille cell: a set of the dots 1 to 8, seen as its mask, the sum of 2^(k-1) over its dots k.
use Rattle.std.specs.Prelude.{◌≡◌, ℕ, ◌+◌, ◌-◌, ◌/◌, ◌%◌, ◌^◌}

-- what dot k adds to a mask
abbrev pub dot_value : ℕ → ℕ
dot_value k = 2 ^ (k - 1)

-- the cell with this mask has dot k
abbrev pub HasDot : ℕ → ℕ → Type 0
HasDot mask k = (mask / dot_value k) % 2 ≡ 1

-- the cell's character in the Unicode block Braille Patterns
abbrev pub braille_character : ℕ → ℕ
braille_character mask = 0x2800 + mask
