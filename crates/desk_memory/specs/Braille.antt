-- The braille of a print.
use Rattle.std.specs.Prelude.{◌≡◌, ℕ, List}
use Rattle.louis_table.specs.Meaning.{Meaning}
use Rattle.louis_translate.specs.declared.choices.Choice.{Choice}
use Rattle.louis_translate.specs.Tiling.{Tiles}
use Rattle.louis_translate.specs.Braille.{braille}

-- the cells are the braille of the print by this meaning
abbrev pub AreCellsOf : Meaning → (print cells : List ℕ) → Type 0
AreCellsOf meaning print cells =
    (choices : List Choice) × Tiles meaning print choices × (cells ≡ braille meaning print choices)
