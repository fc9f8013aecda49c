-- The characters of an operand, read one by one.
use Rattle.std.specs.Prelude.{ℕ, zero, suc, ◌+◌, ◌*◌, ◌==◌, nat_lt, if◌then◌else◌, List, [], ◌∷◌, length, take, drop}
use Rattle.std.specs.Prelude.{Option, Some, None, option_map, option_and_then}
use Rattle.std.specs.Char.{digit_value}
use lib.Utf8.{scalar}
use Rattle.louis_table.specs.Characters.{escape_digits, escape_character}

-- ---- escapes

-- the character, if there is one, and what follows it
abbrev pub with_rest : Option ℕ → List ℕ → Option (ℕ × List ℕ)
with_rest None rest = None
with_rest (Some character) rest = Some (character, rest)

-- the number that hexadecimal digits spell after others that spelled n, unless one isn't a digit
abbrev pub hex_value : ℕ → List ℕ → Option ℕ
hex_value n [] = Some n
hex_value n (digit ∷ digits) =
    if nat_lt (digit_value digit) 16 then hex_value (16 * n + digit_value digit) digits else None

-- the number, if it is that of a Unicode scalar value
abbrev pub scalar_from : Option ℕ → Option ℕ
scalar_from None = None
scalar_from (Some number) = if scalar number then Some number else None

-- the character whose number this many digits at the front spell, and what follows them
abbrev pub number_at : ℕ → List ℕ → Option (ℕ × List ℕ)
number_at count text =
    if nat_lt (length text) count then None
    else with_rest (scalar_from (hex_value 0 (take count text))) (drop count text)

-- the character of an escape, by its letter or by its digits, and what follows it
abbrev pub escape_by : Option ℕ → Option ℕ → List ℕ → Option (ℕ × List ℕ)
escape_by (Some character) digits rest = Some (character, rest)
escape_by None (Some count) rest = number_at count rest
escape_by None None rest = None

-- the character of the escape at the front, without its backslash, and what follows it
abbrev pub escape_at : List ℕ → Option (ℕ × List ℕ)
escape_at [] = None
escape_at (letter ∷ rest) = escape_by (escape_character letter) (escape_digits letter) rest

-- ---- operands

-- the character at the front and what follows it
abbrev pub character_at : List ℕ → Option (ℕ × List ℕ)
character_at [] = None
character_at (c ∷ rest) = if c == 92 then escape_at rest else Some (c, rest)

-- the characters of an operand, if it has no bad escape and at most this many of them
abbrev pub characters_within : ℕ → List ℕ → Option (List ℕ)
characters_within n [] = Some []
characters_within zero (c ∷ text) = None
characters_within (suc n) (c ∷ text) =
    option_and_then (λ found. option_map (λ more. found.0 ∷ more) (characters_within n found.1))
    (character_at (c ∷ text))

-- the characters of an operand, unless it has a bad escape
unfoldable pub characters_in : List ℕ → Option (List ℕ)
characters_in text = characters_within (length text) text
