-- Pieces of one cell: characters that stand as one cell wherever their definition is chosen and no
-- number reaches them, and the places where they do.
use Rattle.std.specs.Prelude.{◌≡◌, ◌⊎◌, ◌<◌, ◌+◌, ℕ, List, [], ◌∷◌, Option, Some, None, false, length, slice_get}
use Rattle.louis_table.specs.declared.definition.Definition.{Definition}
use Rattle.louis_table.specs.declared.sign.Sign.TheVariants.{NoContraction}
use Rattle.louis_table.specs.Meaning.{Meaning, definition_of, sign_cells}
use Rattle.louis_translate.specs.declared.choices.Choice.{Choice}
use Rattle.louis_translate.specs.Braille.{chosen_cells}
use Rattle.louis_translate.specs.Choice.{IsChosen}
use Rattle.louis_translate.specs.Items.{PieceItem}
use Rattle.louis_translate.specs.Position.{is_digit}
use Rattle.louis_translate.specs.Sign.{follows_number, is_capital, sign_at}

-- ---- characters

-- the definition of the character has this cell alone, and the character is neither a digit nor a
-- capital: so the only sign that may stand before it is the one after a number
pub record IsLoneCell (meaning : Meaning) (character cell : ℕ) : Type 0 where
  pub defined : Definition
  pub definition : definition_of meaning character ≡ Some defined
  pub alone : defined.cells ≡ cell ∷ []
  pub no_digit : is_digit (Some defined.class) ≡ false
  pub no_capital : is_capital meaning character ≡ false

-- each cell of a list is the lone cell of the character whose code is its place
abbrev pub AreLoneCells : Meaning → List (Option ℕ) → Type 0
AreLoneCells meaning cells =
    (character cell : ℕ) → slice_get cells character ≡ Some (Some cell) → IsLoneCell meaning character cell

-- ---- places

-- no sign after a number can stand at a place: the table has none, or no number reaches the place;
-- after a lone cell at such a place, the next place is free too
abbrev pub IsFree : Meaning → List ℕ → ℕ → Type 0
IsFree meaning print i = (sign_cells meaning NoContraction ≡ []) ⊎ (follows_number meaning print i ≡ false)

-- at the place of the print the definition of its character is chosen, which makes this cell and
-- has no sign; and the next place is free of a sign after a number
pub record IsLoneAt (meaning : Meaning) (print : List ℕ) (i cell : ℕ) : Type 0 where
  pub within : i < length print
  pub chosen : IsChosen meaning print i None
  pub no_sign : sign_at meaning print i ≡ []
  pub own : chosen_cells meaning print i None ≡ cell ∷ []
  pub next : IsFree meaning print (i + 1)

-- the choice of one character's definition
abbrev pub one_character : ℕ → Choice
one_character i = record { rule = None; start = i; end = i + 1 }

-- what is left begins with a lone cell without a sign, and goes on with the others
abbrev pub BeginsWithLone : List PieceItem → List PieceItem → ℕ → Type 0
BeginsWithLone left others cell =
    (choice : Choice) × (left ≡ record { choice = choice; sign = []; own = cell ∷ [] } ∷ others)
