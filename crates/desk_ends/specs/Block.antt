-- The characters of cells in UTF-8, looked up by the cells' masks.
use Rattle.std.specs.Prelude.{◌≡◌, ℕ, ◌+◌, ◌*◌, ◌/◌, ◌%◌, ◌<◌, List, slice_index}

-- the three bytes of a cell's character as one number, the first in its lowest part
abbrev pub encoding : ℕ → ℕ
encoding mask = 226 + 256 * (160 + mask / 64) + 65536 * (128 + mask % 64)

-- each element of a list is that of the cell whose mask is its place
abbrev pub AreEncoded : List ℕ → Type 0
AreEncoded all = (mask : ℕ) → mask < 256 → slice_index all mask ≡ encoding mask
