-- What the reader of dots operands computes, for step-by-step proofs: `Dots` says what an operand
-- means.
use Rattle.std.specs.Prelude.{◌≡◌, ℕ, ◌+◌, ◌-◌, ◌/◌, ◌%◌, ◌==◌, ◌&&◌, Bool, not, nat_le, if◌then◌else◌, List, [], ◌∷◌}
use Rattle.std.specs.Prelude.{length, take, Option, Some, None, option_map, option_and_then}
use Rattle.std.specs.List.{slice_split}
use Rattle.cell_core.specs.Cell.{dot_value}
use Rattle.cell_core.specs.Dots.{most_cells}

-- the mask with the dot of a digit, unless the digit names no dot, or one that the mask has
abbrev pub with_digit : ℕ → ℕ → Option ℕ
with_digit mask digit =
    if nat_le 49 digit && nat_le digit 56 && not (mask / dot_value (digit - 48) % 2 == 1)
    then Some (dot_value (digit - 48) + mask)
    else None

-- the mask with the dots of the digits
abbrev pub with_digits : ℕ → List ℕ → Option ℕ
with_digits mask [] = Some mask
with_digits mask (digit ∷ digits) = option_and_then (λ more. with_digits more digits) (with_digit mask digit)

-- the mask of one cell
abbrev pub cell_in : List ℕ → Option ℕ
cell_in [] = None
cell_in (digit ∷ []) = if digit == 48 then Some 0 else with_digits 0 (digit ∷ [])
cell_in (digit ∷ next ∷ digits) = with_digits 0 (digit ∷ next ∷ digits)

-- the character is a hyphen
abbrev pub is_hyphen : ℕ → Bool
is_hyphen c = c == 45

-- the masks of the cells that pieces of a text spell, if each spells one
abbrev pub cells_of : List (List ℕ) → Option (List ℕ)
cells_of [] = Some []
cells_of (piece ∷ pieces) =
    option_and_then (λ cell. option_map (λ cells. cell ∷ cells) (cells_of pieces)) (cell_in piece)

-- the masks of the cells of a dots operand, or nothing if the text isn't one
abbrev pub cells_in : List ℕ → Option (List ℕ)
cells_in text = cells_of (slice_split is_hyphen text)

-- a text is a dots operand of this many cells, and the first of them are in the row
pub record HasRead (text row : List ℕ) (count : ℕ) : Type 0 where
  pub cells : List ℕ
  pub read : cells_in text ≡ Some cells
  pub counted : count ≡ length cells
  pub kept : take count row ≡ take most_cells cells
