-- The cells of a tiling, and which places of the print and which cells belong together.
use Rattle.std.specs.Prelude.{◌≡◌, ℕ, ◌+◌, ◌<◌, ◌≤◌, List, [], ◌∷◌, ◌++◌, length, slice_get, slice_index, Option, Some}
use Rattle.std.specs.Prelude.{None, flat_map}
use Rattle.std.specs.Option.{option_and_then, option_map_or}
use Rattle.louis_table.specs.Meaning.{Meaning, definition_of}
use Rattle.louis_table.specs.declared.definition.Definition.{Definition}
use Rattle.louis_translate.specs.declared.choices.Choice.{Choice}
use Rattle.louis_translate.specs.Position.{AreDefined}
use Rattle.louis_translate.specs.Sign.{sign_at}
use Rattle.louis_translate.specs.Tiling.{Covers, Tiles}

-- the cells of a definition, or of a rule
abbrev pub own_cells : Meaning → Option Definition → Option ℕ → List ℕ
own_cells meaning definition None = option_map_or (λ defined. defined.cells) definition []
own_cells meaning definition (Some k) = option_map_or (λ rule. rule.cells) (slice_get meaning.rules k) []

-- the cells that the table gives for the definition of the character at a place, or for a rule
abbrev pub chosen_cells : Meaning → List ℕ → ℕ → Option ℕ → List ℕ
chosen_cells meaning print i choice =
    own_cells meaning (option_and_then (definition_of meaning) (slice_get print i)) choice

-- one of the choices, with those before it and those after it
pub record IsAmong (choices before : List Choice) (choice : Choice) : Type 0 where
  pub after : List Choice
  pub parts : choices ≡ before ++ choice ∷ after

-- the choice covers the place of the print
abbrev pub Holds : Choice → ℕ → Type 0
Holds choice i = (choice.start ≤ i) × (i < choice.end)

-- ---- cells and places, by any signs before the places of the print

module _ (sign : ℕ → List ℕ) (meaning : Meaning) (print : List ℕ) where
  -- the cells of a choice: the sign at its start, then its own
  abbrev pub cells_of_by : Choice → List ℕ
  cells_of_by choice = sign choice.start ++ chosen_cells meaning print choice.start choice.rule

  -- the cells of the choices, joined
  abbrev pub braille_by : List Choice → List ℕ
  braille_by choices = flat_map cells_of_by choices

  -- the output place of a place of the print: as many cells come before those of the choice that
  -- covers it
  pub record IsOutputPlaceBy (choices : List Choice) (i place : ℕ) : Type 0 where
    pub before : List Choice
    pub choice : Choice
    pub among : IsAmong choices before choice
    pub holds : Holds choice i
    pub place_is : place ≡ length (braille_by before)

  -- the choice made the cell: the choices before it make no more cells than the cell's number, and
  -- more with its own
  pub record MakesCellBy (choices : List Choice) (choice : Choice) (cell : ℕ) : Type 0 where
    pub before : List Choice
    pub among : IsAmong choices before choice
    pub from : length (braille_by before) ≤ cell
    pub to : cell < length (braille_by before) + length (cells_of_by choice)

  -- the print place of a cell: the start of the choice that made it
  abbrev pub IsPrintPlaceBy : List Choice → ℕ → ℕ → Type 0
  IsPrintPlaceBy choices cell place = (choice : Choice) × MakesCellBy choices choice cell × (place ≡ choice.start)

-- ---- cells and places, by the signs of the table

module _ (meaning : Meaning) (print : List ℕ) where
  -- the cells of a choice: the sign at its start, then its own
  abbrev pub cells_of : Choice → List ℕ
  cells_of = cells_of_by (sign_at meaning print) meaning print

  -- the cells of the choices, joined
  abbrev pub braille : List Choice → List ℕ
  braille = braille_by (sign_at meaning print) meaning print

  -- the output place of a place of the print
  abbrev pub IsOutputPlace : List Choice → ℕ → ℕ → Type 0
  IsOutputPlace = IsOutputPlaceBy (sign_at meaning print) meaning print

  -- the choice made the cell
  abbrev pub MakesCell : List Choice → Choice → ℕ → Type 0
  MakesCell = MakesCellBy (sign_at meaning print) meaning print

  -- the print place of a cell
  abbrev pub IsPrintPlace : List Choice → ℕ → ℕ → Type 0
  IsPrintPlace = IsPrintPlaceBy (sign_at meaning print) meaning print

  -- the place after the print that a cell stands for: the end of the choice that made it
  abbrev pub IsPrintEnd : List Choice → ℕ → ℕ → Type 0
  IsPrintEnd choices cell end = (choice : Choice) × MakesCell choices choice cell × (end ≡ choice.end)

  -- the print is defined; its cells, the output place of each of its places, and the print place of
  -- each cell
  pub record IsTranslation (cells outputs inputs : List ℕ) : Type 0 where
    pub defined : AreDefined meaning print
    pub choices : List Choice
    pub tiles : Tiles meaning print choices
    pub cells_are : cells ≡ braille choices
    pub output_count : length outputs ≡ length print
    pub outputs_are : (i : ℕ) → i < length print → IsOutputPlace choices i (slice_index outputs i)
    pub input_count : length inputs ≡ length cells
    pub inputs_are : (cell : ℕ) → cell < length cells → IsPrintPlace choices cell (slice_index inputs cell)

-- ---- the cells that fit in a room of so many

module _ (meaning : Meaning) (print : List ℕ) (room : ℕ) where
  -- the longest front of the choices whose cells fit
  pub record IsFront (choices front : List Choice) : Type 0 where
    pub others : List Choice
    pub parts : choices ≡ front ++ others
    pub fits : length (braille meaning print front) ≤ room
    pub longest : (prefix rest : List Choice) → choices ≡ prefix ++ rest
        → length (braille meaning print prefix) ≤ room → length prefix ≤ length front

  -- the print is defined; the cells of the longest front that fits, and how many places of the
  -- print it covers
  pub record IsPart (cells : List ℕ) (used : ℕ) : Type 0 where
    pub defined : AreDefined meaning print
    pub choices : List Choice
    pub front : List Choice
    pub tiles : Tiles meaning print choices
    pub is_front : IsFront choices front
    pub covers : Covers meaning print 0 front used
    pub cells_are : cells ≡ braille meaning print front
