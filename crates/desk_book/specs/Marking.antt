-- What is said of marks while they are planned. Only private functions and proofs
-- need these words.
use Rattle.std.specs.Prelude.{◌≡◌, ◌⊎◌, ℕ, ◌+◌, ◌-◌, ◌<◌, ◌≤◌, List, length, Some}
use Rattle.louis_table.specs.Meaning.{Meaning}
use Rattle.louis_translate.specs.declared.choices.Choice.{Choice}
use Rattle.louis_translate.specs.Braille.{IsPrintEnd, IsPrintPlace, braille}
use Rattle.louis_translate.specs.Tiling.{Tiles}
use Rattle.desk_memory.specs.declared.marks.HeldMark.{HeldMark}
use Rattle.desk_model.specs.Book.{Book, mark_of}
use Rattle.desk_memory.specs.Held.{mark_held}

-- the cells are there, and stand for the places from start up to but not including end
abbrev pub AreMarkedIn : Meaning → List ℕ → (cell count start end : ℕ) → Type 0
AreMarkedIn meaning print cell count start end =
    (choices : List Choice) → Tiles meaning print choices
    → (0 < count) × (cell + count ≤ length (braille meaning print choices))
    × IsPrintPlace meaning print choices cell start × IsPrintEnd meaning print choices (cell + count - 1) end

-- no cell is asked for, or more than there are
abbrev pub AreNotMarkedIn : Meaning → List ℕ → (cell count : ℕ) → Type 0
AreNotMarkedIn meaning print cell count =
    (choices : List Choice) → Tiles meaning print choices
    → (count ≡ 0) ⊎ (length (braille meaning print choices) < cell + count)

-- the held mark is the book's with this id
abbrev pub IsHeldMarkFor : Book → ℕ → HeldMark → Type 0
IsHeldMarkFor book id held = mark_of book id ≡ Some (mark_held (id, held))

-- the braille of the print has this many cells
abbrev pub HasCells : Meaning → List ℕ → ℕ → Type 0
HasCells meaning print cells = (choices : List Choice) → Tiles meaning print choices
    → cells ≡ length (braille meaning print choices)
