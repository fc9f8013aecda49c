-- A dots operand: cells joined by hyphens, each as the digits of its dots.
use Rattle.std.specs.Prelude.{◌≡◌, ◌≢◌, ℕ, ◌+◌, ◌≤◌, List, [], ◌∷◌, ◌++◌}
use Rattle.cell_core.specs.Cell.{HasDot, dot_value}

-- the most cells that a dots operand may have
abbrev pub most_cells : ℕ
most_cells = 20

-- the digits of the dots of a mask in any order, each dot once
abbrev pub ListsDots : List ℕ → ℕ → Type 0
ListsDots [] mask = mask ≡ 0
ListsDots (digit ∷ digits) mask =
    (dot : ℕ) × (others : ℕ) × (1 ≤ dot) × (dot ≤ 8) × (digit ≡ 48 + dot)
    × ListsDots digits others × (¬ HasDot others dot) × (mask ≡ dot_value dot + others)

-- one cell: the digit 0 alone for the cell without dots, or the digits of one dot or more
pub data SpellsCell (text : List ℕ) (mask : ℕ) : Type 0 where
  blank : text ≡ 48 ∷ [] → mask ≡ 0 → SpellsCell text mask
  dotted : text ≢ [] → ListsDots text mask → SpellsCell text mask

-- one cell or more, joined by hyphens; a list of no cells has no such text
abbrev pub Dots : List ℕ → List ℕ → Type 0
Dots text [] = ⊥
Dots text (cell ∷ []) = SpellsCell text cell
Dots text (cell ∷ next ∷ cells) =
    (first : List ℕ) × (rest : List ℕ) × (text ≡ first ++ 45 ∷ rest) × SpellsCell first cell × Dots rest (next ∷ cells)
