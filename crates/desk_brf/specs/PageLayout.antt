-- How large pages are.
use Rattle.std.specs.Prelude.{ℕ, ◌-◌, ◌≤◌}

-- ---- the limits of a layout

-- cells of a line

-- the fewest cells of a line
abbrev pub least_width : ℕ
least_width = 10

-- the most cells of a line
abbrev pub most_width : ℕ
most_width = 60

-- lines of a page

-- the fewest lines of a page
abbrev pub least_lines : ℕ
least_lines = 5

-- the most lines of a page
abbrev pub most_lines : ℕ
most_lines = 40

-- ---- layouts

-- the cells of a line, and the lines of a page
pub record Layout : Type 0 where
  pub width : ℕ
  pub lines : ℕ

-- the lines of a page that are for text: all but the last, which holds the page's number
abbrev pub text_lines : Layout → ℕ
text_lines layout = layout.lines - 1

-- such pages are within the limits
abbrev pub IsLayout : (width lines : ℕ) → Type 0
IsLayout width lines =
    (least_width ≤ width) × (width ≤ most_width) × (least_lines ≤ lines) × (lines ≤ most_lines)
