-- What a table says.
use Rattle.std.specs.Prelude.{◌≡◌, ◌≢◌, ℕ, List, [], ◌∷◌, Option, Some, nat_eq, slice_get, slice_index_or, unwrap_or}
use Rattle.std.specs.Map.{lookup}
use Rattle.louis_table.specs.declared.character_set.CharacterSet.{CharacterSet}
use Rattle.louis_table.specs.declared.character_set.CharacterSet.TheVariants as sets
use Rattle.louis_table.specs.declared.definition.Definition.{Definition}
use Rattle.louis_table.specs.declared.rule.Rule.{Rule}
use Rattle.louis_table.specs.declared.sign.Sign.{Sign}
use Rattle.louis_table.specs.declared.sign.Sign.TheVariants as signs

-- the definitions of characters and the lower characters of capitals, both in the order of their
-- lines; the rules in that order, with their characters folded; the cells of each sign; the
-- characters of each set as they are written. A sign or a set that the table lacks is empty.
pub record Meaning : Type 0 where
  pub definitions : List (ℕ × Definition)
  pub partners : List (ℕ × ℕ)
  pub rules : List Rule
  pub signs : List (List ℕ)
  pub sets : List (List ℕ)

-- the signs, in the order in which a meaning has their cells
abbrev pub every_sign : List Sign
every_sign = signs.Number ∷ signs.Capital ∷ signs.CapitalWord ∷ signs.NoContraction ∷ []

-- where a sign stands among them
abbrev pub sign_place : Sign → ℕ
sign_place signs.Number = 0
sign_place signs.Capital = 1
sign_place signs.CapitalWord = 2
sign_place signs.NoContraction = 3

-- the sets, in the order in which a meaning has their characters
abbrev pub every_set : List CharacterSet
every_set = sets.NumericMode ∷ sets.NoContraction ∷ []

-- where a set stands among them
abbrev pub set_place : CharacterSet → ℕ
set_place sets.NumericMode = 0
set_place sets.NoContraction = 1

-- the definition of a character, if there is one
abbrev pub definition_of : Meaning → ℕ → Option Definition
definition_of meaning character = lookup (nat_eq character) meaning.definitions

-- the lower character that belongs to a character, if that is a capital
abbrev pub partner_of : Meaning → ℕ → Option ℕ
partner_of meaning character = lookup (nat_eq character) meaning.partners

-- the lower character of a capital, and every other character itself
abbrev pub fold_of : Meaning → ℕ → ℕ
fold_of meaning character = unwrap_or (partner_of meaning character) character

-- the cells of a sign
abbrev pub sign_cells : Meaning → Sign → List ℕ
sign_cells meaning sign = slice_index_or meaning.signs (sign_place sign) []

-- the characters of a set
abbrev pub set_characters : Meaning → CharacterSet → List ℕ
set_characters meaning set = slice_index_or meaning.sets (set_place set) []

-- each definition and each rule has a cell
pub record HasCells (meaning : Meaning) : Type 0 where
  pub definitions : (character : ℕ) (defined : Definition) → definition_of meaning character ≡ Some defined
      → defined.cells ≢ []
  pub rules : (k : ℕ) (rule : Rule) → slice_get meaning.rules k ≡ Some rule → rule.cells ≢ []
