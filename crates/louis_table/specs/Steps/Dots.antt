-- The cells of dots operands, and whether they are too many.
use Rattle.std.specs.Prelude.{◌≡◌, ℕ, ◌+◌, Bool, not, ◌||◌, ◌==◌, nat_lt, true, false, if◌then◌else◌, List, length}
use Rattle.std.specs.Prelude.{take, drop, Option, Some, None, option_map, Result, Ok, Err, codes, bytes_eq}
use Rattle.std.specs.List.{prefix_len}
use Rattle.cell_core.specs.Reading.{cells_in}
use Rattle.cell_core.specs.Dots.{most_cells}
use Rattle.louis_table.specs.declared.fault.Cause.TheVariants as causes
use Rattle.louis_table.specs.declared.fault.LineFault.{LineFault}
use Rattle.louis_table.specs.declared.fault.LineFault.TheVariants as line_faults

-- ---- their parts and cells

-- how many characters stand before the first comma, or in all if there is no comma
abbrev pub part_len : List ℕ → ℕ
part_len dots = prefix_len (λ c. not (c == 44)) dots

-- the parts before and after the first comma, or the whole twice if there is no comma
abbrev pub pair_parts : List ℕ → List ℕ × List ℕ
pair_parts dots =
    if part_len dots == length dots then (dots, dots) else (take (part_len dots) dots, drop (part_len dots + 1) dots)

-- both lists, if neither is missing
abbrev pub both_of : Option (List ℕ) → Option (List ℕ) → Option (List ℕ × List ℕ)
both_of (Some upper) (Some lower) = Some (upper, lower)
both_of (Some upper) None = None
both_of None lower = None

-- the cells of an upper and a lower character
unfoldable pub pair_in : List ℕ → Option (List ℕ × List ℕ)
pair_in dots = both_of (cells_in (pair_parts dots).0) (cells_in (pair_parts dots).1)

-- the cells of a rule; an equals sign stands for none of its own
unfoldable pub rule_in : List ℕ → Option (Option (List ℕ))
rule_in dots = if bytes_eq dots (codes "=") then Some None else option_map Some (cells_in dots)

-- ---- what contracts say

-- there are more cells than an operand may have
abbrev pub are_many : List ℕ → Bool
are_many cells = nat_lt most_cells (length cells)

-- cells are written, and they are more than an operand may have
abbrev pub are_many_written : Option (List ℕ) → Bool
are_many_written None = false
are_many_written (Some cells) = are_many cells

-- one of two operands has more cells than it may have
abbrev pub are_many_of_two : List ℕ × List ℕ → Bool
are_many_of_two cells = are_many cells.0 || are_many cells.1

module _ {A : Type 0} (is_large : A → Bool) where
  -- this value is given, or none since the value is too large
  abbrev pub Fits : Option A → A → Type 0
  Fits (Some reported) value = (value ≡ reported) × (is_large value ≡ false)
  Fits None value = is_large value ≡ true

  -- the operand spells a value, which is given unless it is too large; or it spells none
  abbrev pub ReadsDots : Result (Option A) LineFault → Option A → Type 0
  ReadsDots (Ok reported) spelled = (value : A) × (spelled ≡ Some value) × Fits reported value
  ReadsDots (Err (line_faults.Bad cause)) spelled = (spelled ≡ None) × (cause ≡ causes.BadDots)
  ReadsDots (Err line_faults.NoMemory) spelled = Unit {0}
