-- What a table that says nothing of numeric mode gives, by the signs with that mode and without.
use Rattle.std.specs.Prelude.{◌≡◌, ◌↔◌, ℕ, List, []}
use Rattle.louis_table.specs.declared.character_set.CharacterSet.{CharacterSet}
use Rattle.louis_table.specs.declared.sign.Sign.TheVariants.{NoContraction}
use Rattle.louis_table.specs.Meaning.{Meaning, sign_cells, set_characters}
use Rattle.louis_translate.specs.declared.choices.Choice.{Choice}
use Rattle.louis_translate.specs.Sign.{plain_sign_at, sign_at}
use Rattle.louis_translate.specs.Tiling.{TilesBy, Tiles}
use Rattle.louis_translate.specs.Braille.{braille_by, braille, IsOutputPlaceBy}
use Rattle.louis_translate.specs.Braille.{IsOutputPlace, IsPrintPlaceBy, IsPrintPlace}

-- the table says nothing of numeric mode
pub record HasNoNumericMode (meaning : Meaning) : Type 0 where
  pub no_sign : sign_cells meaning NoContraction ≡ []
  pub no_sets : (set : CharacterSet) → set_characters meaning set ≡ []

-- a print has the same signs, tilings, cells, output places and print places by both
pub record AreAlike (meaning : Meaning) (print : List ℕ) : Type 0 where
  pub signs : (i : ℕ) → plain_sign_at meaning print i ≡ sign_at meaning print i
  pub tilings : (choices : List Choice)
      → TilesBy (plain_sign_at meaning print) meaning print choices ↔ Tiles meaning print choices
  pub cells : (choices : List Choice)
      → braille_by (plain_sign_at meaning print) meaning print choices ≡ braille meaning print choices
  pub outputs : (choices : List Choice) (i place : ℕ)
      → IsOutputPlaceBy (plain_sign_at meaning print) meaning print choices i place
      ↔ IsOutputPlace meaning print choices i place
  pub inputs : (choices : List Choice) (cell place : ℕ)
      → IsPrintPlaceBy (plain_sign_at meaning print) meaning print choices cell place
      ↔ IsPrintPlace meaning print choices cell place
