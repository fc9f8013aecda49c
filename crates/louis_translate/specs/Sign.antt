-- The signs before numbers, capitals and what follows a number, by the signs of the table and the
-- print.
use Rattle.std.specs.Prelude.{◌≡◌, ℕ, ◌+◌, ◌-◌, ◌<◌, ◌≤◌, Bool, true, false, ◌&&◌, ◌||◌, not, ◌==◌, nat_eq, nat_le}
use Rattle.std.specs.Prelude.{nat_lt, if◌then◌else◌, List, [], length, take, drop, slice_get, is_some}
use Rattle.std.specs.List.{list_all, list_any, prefix_len, range_with_len, suffix_len}
use Rattle.std.specs.Option.{option_map_or}
use Rattle.louis_table.specs.declared.character_set.CharacterSet.TheVariants as sets
use Rattle.louis_table.specs.declared.sign.Sign.TheVariants as signs
use Rattle.louis_table.specs.Meaning.{Meaning, partner_of, sign_cells, set_characters}
use Rattle.louis_translate.specs.Position.{class_at, class_before, is_digit, is_letter}

-- ---- capitals

-- a capital is the upper character of a pair
abbrev pub is_capital : Meaning → ℕ → Bool
is_capital meaning character = is_some (partner_of meaning character)

-- the place has a capital
abbrev pub is_capital_at : Meaning → List ℕ → ℕ → Bool
is_capital_at meaning print i = option_map_or (is_capital meaning) (slice_get print i) false

-- the first place of the run of capitals around a place, which is the longest interval of
-- neighbouring capitals
abbrev pub run_start : Meaning → List ℕ → ℕ → ℕ
run_start meaning print i = i - suffix_len (is_capital meaning) (take i print)

-- the place after the last one of that run
abbrev pub run_end : Meaning → List ℕ → ℕ → ℕ
run_end meaning print i = i + prefix_len (is_capital meaning) (drop i print)

-- the places from a up to but not including b have capitals
abbrev pub AreCapitals : Meaning → List ℕ → ℕ → ℕ → Type 0
AreCapitals meaning print a b = (k : ℕ) → a ≤ k → k < b → is_capital_at meaning print k ≡ true

-- the places from a up to but not including b are the longest interval of capitals around place i
pub record IsRun (meaning : Meaning) (print : List ℕ) (i a b : ℕ) : Type 0 where
  pub from : a ≤ i
  pub to : i < b
  pub capitals : AreCapitals meaning print a b
  pub longest : (c d : ℕ) → c ≤ i → i < d → AreCapitals meaning print c d → (a ≤ c) × (d ≤ b)

-- one sign may stand before the whole run around a place: it has two capitals or more, and no
-- letter follows it
abbrev pub takes_one_sign : Meaning → List ℕ → ℕ → Bool
takes_one_sign meaning print i =
    nat_le (run_start meaning print i + 2) (run_end meaning print i)
    && not (is_letter (class_at meaning print (run_end meaning print i)))

-- before a capital: if the table has `begcapsword` and the run takes one sign, that one before the
-- run's first and none before its others; else `capsletter`
abbrev pub capital_sign : Meaning → List ℕ → ℕ → List ℕ
capital_sign meaning print i =
    if nat_lt 0 (length (sign_cells meaning signs.CapitalWord)) && takes_one_sign meaning print i
    then (if run_start meaning print i == i then sign_cells meaning signs.CapitalWord else [])
    else sign_cells meaning signs.Capital

-- ---- numbers

-- the place has a digit
abbrev pub is_digit_at : Meaning → List ℕ → ℕ → Bool
is_digit_at meaning print i = is_digit (class_at meaning print i)

-- the table says that the character continues a number
abbrev pub is_mode_char : Meaning → ℕ → Bool
is_mode_char meaning character = list_any (λ c. nat_eq c character) (set_characters meaning sets.NumericMode)

-- the place has a character that continues a number
abbrev pub is_mode_char_at : Meaning → List ℕ → ℕ → Bool
is_mode_char_at meaning print i = option_map_or (is_mode_char meaning) (slice_get print i) false

-- the character may continue a number: a digit, or one of which the table says so
abbrev pub goes_on_at : Meaning → List ℕ → ℕ → Bool
goes_on_at meaning print i = is_digit_at meaning print i || is_mode_char_at meaning print i

-- a number that begins at place j reaches place i: a digit stands at j, and what stands from there
-- to i continues a number
abbrev pub is_number_from : Meaning → List ℕ → ℕ → ℕ → Bool
is_number_from meaning print i j =
    is_digit_at meaning print j && list_all (goes_on_at meaning print) (range_with_len j (i + 1 - j))

-- a place is in numeric mode if a number that begins at some place no later reaches it
abbrev pub is_in_numeric_mode : Meaning → List ℕ → ℕ → Bool
is_in_numeric_mode meaning print i = list_any (is_number_from meaning print i) (range_with_len 0 (i + 1))

-- The same as a relation. So a number goes on over the points and commas in it, and a point alone
-- begins none.
pub record IsInNumericMode (meaning : Meaning) (print : List ℕ) (i : ℕ) : Type 0 where
  pub from : ℕ
  pub order : from ≤ i
  pub digit : is_digit_at meaning print from ≡ true
  pub goes_on : (k : ℕ) → from ≤ k → k ≤ i → goes_on_at meaning print k ≡ true

-- the place before this one is in numeric mode; there is none before the first
abbrev pub follows_number : Meaning → List ℕ → ℕ → Bool
follows_number meaning print i = if i == 0 then false else is_in_numeric_mode meaning print (i - 1)

-- the table says that the character takes a sign right after a number
abbrev pub is_nocontract_char : Meaning → ℕ → Bool
is_nocontract_char meaning character = list_any (λ c. nat_eq c character) (set_characters meaning sets.NoContraction)

-- the place has a character that takes a sign right after a number
abbrev pub is_nocontract_char_at : Meaning → List ℕ → ℕ → Bool
is_nocontract_char_at meaning print i = option_map_or (is_nocontract_char meaning) (slice_get print i) false

-- the number has ended before this place, and the character here takes a sign right after a number
abbrev pub ends_number : Meaning → List ℕ → ℕ → Bool
ends_number meaning print i =
    follows_number meaning print i && not (is_in_numeric_mode meaning print i) && is_nocontract_char_at meaning print i

-- ---- the sign before a place, empty if there is none

-- the signs without numeric mode: one for each run of digits, and those before capitals
abbrev pub plain_sign_at : Meaning → List ℕ → ℕ → List ℕ
plain_sign_at meaning print i =
    if is_digit_at meaning print i
    then (if is_digit (class_before meaning print i) then [] else sign_cells meaning signs.Number)
    else (if is_capital_at meaning print i then capital_sign meaning print i else [])

-- the signs with numeric mode: one before a digit that no number reaches, those before capitals,
-- and one before a character that could be read as more of a number; a sign that the table lacks is
-- empty
abbrev pub sign_at : Meaning → List ℕ → ℕ → List ℕ
sign_at meaning print i =
    if is_digit_at meaning print i
    then (if follows_number meaning print i then [] else sign_cells meaning signs.Number)
    else (if is_capital_at meaning print i
    then capital_sign meaning print i
    else (if ends_number meaning print i then sign_cells meaning signs.NoContraction else []))
