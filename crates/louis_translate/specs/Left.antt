-- What is left of the tiling of a print, as a function: `Tiling` says what a tiling is.
use Rattle.std.specs.Prelude.{ℕ, zero, suc, ◌+◌, ◌-◌, Bool, false, ◌&&◌, ◌==◌, nat_lt, if◌then◌else◌, List, [], ◌∷◌}
use Rattle.std.specs.Prelude.{length, take, drop, map, slice_get, Option, Some, None, bytes_eq}
use Rattle.std.specs.List.{list_all, range_with_len}
use Rattle.std.specs.Option.{option_map_or}
use Rattle.louis_table.specs.Meaning.{Meaning, fold_of}
use Rattle.louis_table.specs.declared.rule.Rule.{Rule}
use Rattle.louis_translate.specs.declared.choices.Choice.{Choice}
use Rattle.louis_translate.specs.Position.{fits}
use Rattle.louis_translate.specs.Sign.{sign_at}
use Rattle.louis_translate.specs.Choice.{span}

-- no sign stands before this place
abbrev pub has_no_sign : Meaning → List ℕ → ℕ → Bool
has_no_sign meaning print k = length (sign_at meaning print k) == 0

-- whether a rule may be used at place i
abbrev pub matches : Meaning → List ℕ → ℕ → Rule → Bool
matches meaning print i rule =
    bytes_eq (map (fold_of meaning) (take (length rule.chars) (drop i print))) rule.chars
    && (fits meaning print rule.kind i (i + length rule.chars)
    && list_all (has_no_sign meaning print) (range_with_len (i + 1) (length rule.chars - 1)))

-- a rule that goes before what was found has more characters than this
abbrev pub to_beat : Meaning → Option ℕ → ℕ
to_beat meaning None = 0
to_beat meaning (Some k) = span meaning (Some k)

-- whether rule k may be used at place i, and goes before what was found among the rules before it
abbrev pub goes_before : Meaning → List ℕ → ℕ → ℕ → Option ℕ → Bool
goes_before meaning print i k found =
    option_map_or (λ rule. matches meaning print i rule && nat_lt (to_beat meaning found) (length rule.chars))
    (slice_get meaning.rules k) false

-- the chosen one among the definition and the first k rules
abbrev pub chosen_of : Meaning → List ℕ → ℕ → ℕ → Option ℕ
chosen_of meaning print i zero = None
chosen_of meaning print i (suc k) =
    if goes_before meaning print i k (chosen_of meaning print i k) then Some k else chosen_of meaning print i k

-- the chosen one at place i, with the characters that it covers
abbrev pub choice_at : Meaning → List ℕ → ℕ → Choice
choice_at meaning print i =
    let rule = chosen_of meaning print i (length meaning.rules) in
    record { rule = rule; start = i; end = i + span meaning rule }

-- at most n choices from place i on
abbrev pub some_from : Meaning → List ℕ → ℕ → ℕ → List Choice
some_from meaning print zero i = []
some_from meaning print (suc n) i =
    if nat_lt i (length print)
    then choice_at meaning print i ∷ some_from meaning print n (choice_at meaning print i).end
    else []

-- the choices from place i on: there are no more than the print has characters
abbrev pub choices_from : Meaning → List ℕ → ℕ → List Choice
choices_from meaning print i = some_from meaning print (length print) i
