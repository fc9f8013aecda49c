-- Where words begin and end in a print, and where the kinds of rules may stand, by the print alone.
use Rattle.std.specs.Prelude.{◌≡◌, ℕ, ◌-◌, ◌<◌, Bool, true, false, ◌&&◌, ◌==◌, if◌then◌else◌, List, length, slice_get}
use Rattle.std.specs.Prelude.{slice_index, Option, Some, None, IsSome, EachIndex, option_map, option_and_then}
use Rattle.louis_table.specs.Meaning.{Meaning, definition_of}
use Rattle.louis_table.specs.declared.definition.Class.{Class}
use Rattle.louis_table.specs.declared.definition.Class.TheVariants.{Space, Punctuation, Digit, Letter}
use Rattle.louis_table.specs.declared.rule.RuleKind.{RuleKind}
use Rattle.louis_table.specs.declared.rule.RuleKind.TheVariants.{Always, Word, BegWord, MidWord, EndWord}

-- the table defines each character of the print
abbrev pub AreDefined : Meaning → List ℕ → Type 0
AreDefined meaning print = EachIndex print (λ i. IsSome (definition_of meaning (slice_index print i)))

-- the smallest place whose character the table doesn't define
pub record IsFirstUndefined (meaning : Meaning) (print : List ℕ) (place : ℕ) : Type 0 where
  pub within : place < length print
  pub undefined : definition_of meaning (slice_index print place) ≡ None
  pub before : (i : ℕ) → i < place → IsSome (definition_of meaning (slice_index print i))

-- the class of a character, if the table defines it
abbrev pub class_of : Meaning → ℕ → Option Class
class_of meaning character = option_map (λ defined. defined.class) (definition_of meaning character)

-- the class of the character at a place, and none past the print's end or if the table doesn't
-- define it
abbrev pub class_at : Meaning → List ℕ → ℕ → Option Class
class_at meaning print i = option_and_then (class_of meaning) (slice_get print i)

-- the class of the character before a place, and none before the first or if the table doesn't
-- define it
abbrev pub class_before : Meaning → List ℕ → ℕ → Option Class
class_before meaning print i = if i == 0 then None else class_at meaning print (i - 1)

-- a word ends at the print's ends, at spaces and at punctuation; a digit is neither an edge nor a
-- letter
abbrev pub is_edge : Option Class → Bool
is_edge None = true
is_edge (Some Space) = true
is_edge (Some Punctuation) = true
is_edge (Some Digit) = false
is_edge (Some Letter) = false

-- the class, if there is one, is that of letters
abbrev pub is_letter : Option Class → Bool
is_letter None = false
is_letter (Some Space) = false
is_letter (Some Punctuation) = false
is_letter (Some Digit) = false
is_letter (Some Letter) = true

-- the class, if there is one, is that of digits
abbrev pub is_digit : Option Class → Bool
is_digit None = false
is_digit (Some Space) = false
is_digit (Some Punctuation) = false
is_digit (Some Digit) = true
is_digit (Some Letter) = false

-- The position test of a rule that would cover the places from i up to but not including j: `word`
-- needs an edge on both sides, `begword` an edge before and a letter after, `midword` letters on
-- both sides, `endword` a letter before and an edge after, and `always` nothing.
abbrev pub fits : Meaning → List ℕ → RuleKind → ℕ → ℕ → Bool
fits meaning print Always i j = true
fits meaning print Word i j = is_edge (class_before meaning print i) && is_edge (class_at meaning print j)
fits meaning print BegWord i j = is_edge (class_before meaning print i) && is_letter (class_at meaning print j)
fits meaning print MidWord i j = is_letter (class_before meaning print i) && is_letter (class_at meaning print j)
fits meaning print EndWord i j = is_letter (class_before meaning print i) && is_edge (class_at meaning print j)
