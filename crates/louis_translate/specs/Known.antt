-- Characters that are known to be defined.
use Rattle.std.specs.Prelude.{◌≡◌, ℕ, Bool, true, false, List, IsSome, slice_get}
use Rattle.std.specs.Option.{option_map_or}
use Rattle.louis_table.specs.Meaning.{Meaning, definition_of}

-- what a list says of a character, at the index of its code; past its end it says no
abbrev pub is_known : List Bool → ℕ → Bool
is_known known character = option_map_or (λ said. said) (slice_get known character) false

-- the table defines each character of which a list says yes
abbrev pub AreKnown : Meaning → List Bool → Type 0
AreKnown meaning known = (character : ℕ) → is_known known character ≡ true → IsSome (definition_of meaning character)
