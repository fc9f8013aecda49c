-- How choices cover a print.
use Rattle.std.specs.Prelude.{◌≡◌, ℕ, ◌+◌, ◌<◌, List, [], ◌∷◌, length}
use Rattle.louis_table.specs.Meaning.{Meaning}
use Rattle.louis_translate.specs.declared.choices.Choice.{Choice}
use Rattle.louis_translate.specs.Choice.{IsChosenBy, span}
use Rattle.louis_translate.specs.Sign.{sign_at}

-- ---- by any signs before the places of the print

module _ (sign : ℕ → List ℕ) (meaning : Meaning) (print : List ℕ) where
  -- the choice is the chosen one at place i
  pub record IsChoiceAtBy (i : ℕ) (choice : Choice) : Type 0 where
    pub start : choice.start ≡ i
    pub end : choice.end ≡ i + span meaning choice.rule
    pub chosen : IsChosenBy sign meaning print i choice.rule

  -- the choices cover the places of the print from i up to but not including j, without gap or
  -- overlap, each chosen at its start
  abbrev pub CoversBy : ℕ → List Choice → ℕ → Type 0
  CoversBy i [] j = i ≡ j
  CoversBy i (choice ∷ choices) j = (i < length print) × IsChoiceAtBy i choice × CoversBy choice.end choices j

  -- the choices cover the whole print
  abbrev pub TilesBy : List Choice → Type 0
  TilesBy choices = CoversBy 0 choices (length print)

-- ---- by the signs of the table

module _ (meaning : Meaning) (print : List ℕ) where
  -- the choice is the chosen one at place i
  abbrev pub IsChoiceAt : ℕ → Choice → Type 0
  IsChoiceAt = IsChoiceAtBy (sign_at meaning print) meaning print

  -- the choices cover the places of the print from i up to but not including j
  abbrev pub Covers : ℕ → List Choice → ℕ → Type 0
  Covers = CoversBy (sign_at meaning print) meaning print

  -- the choices cover the whole print
  abbrev pub Tiles : List Choice → Type 0
  Tiles = TilesBy (sign_at meaning print) meaning print
