-- The words of cells.
use Rattle.std.specs.Prelude.{◌≡◌, ℕ, ◌==◌, ◌<◌, ◌≤◌, List, [], ◌∷◌, filter, length}
use Rattle.std.specs.Prelude.{drop, slice_index, Bool, true, false}
use Rattle.std.specs.List.{slice_split}

-- the cell has no dots
abbrev pub is_blank : ℕ → Bool
is_blank cell = cell == 0

-- there is at least one cell
abbrev pub has_cells : List ℕ → Bool
has_cells [] = false
has_cells (cell ∷ cells) = true

-- the longest runs of cells that are not blank
abbrev pub words : List ℕ → List (List ℕ)
words cells = filter has_cells (slice_split is_blank cells)

-- the cells begin with a word, or there are none
abbrev pub IsAtWord : List ℕ → Type 0
IsAtWord [] = Unit {0}
IsAtWord (cell ∷ cells) = is_blank cell ≡ false

-- a word ends here: no cell follows, or a blank
abbrev pub EndsWord : List ℕ → Type 0
EndsWord [] = Unit {0}
EndsWord (cell ∷ cells) = is_blank cell ≡ true

-- so many cells at the front are a word
pub record BeginsWithWord (count : ℕ) (cells : List ℕ) : Type 0 where
  pub some : 0 < count
  pub within : count ≤ length cells
  pub full : (k : ℕ) → k < count → is_blank (slice_index cells k) ≡ false
  pub ends : EndsWord (drop count cells)
