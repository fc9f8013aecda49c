-- A characters operand: the characters as they are written, with escapes.
use Rattle.std.specs.Prelude.{◌≡◌, ◌≢◌, ℕ, ◌+◌, ◌*◌, ◌<◌, ◌==◌, if◌then◌else◌, List}
use Rattle.std.specs.Prelude.{[], ◌∷◌, ◌++◌, length, Option, Some, None}
use Rattle.std.specs.List.{AllByRecursion}
use Rattle.std.specs.Char.{IsScalar, digit_value}

-- the character that an escape stands for, by the character after its backslash: \f \n \r \s \t \v
-- \e \\
abbrev pub escape_character : ℕ → Option ℕ
escape_character letter =
    if letter == 102 then Some 12
    else if letter == 110 then Some 10
    else if letter == 114 then Some 13
    else if letter == 115 then Some 32
    else if letter == 116 then Some 9
    else if letter == 118 then Some 11
    else if letter == 101 then Some 27
    else if letter == 92 then Some 92
    else None

-- how many hexadecimal digits follow the letter of an escape by number: \x four, \y five, \z eight
abbrev pub escape_digits : ℕ → Option ℕ
escape_digits letter =
    if letter == 120 then Some 4
    else if letter == 121 then Some 5
    else if letter == 122 then Some 8
    else None

-- the number that hexadecimal digits of either case spell, after those that spelled n
abbrev pub spelled_after : ℕ → List ℕ → ℕ
spelled_after n [] = n
spelled_after n (digit ∷ digits) = spelled_after (16 * n + digit_value digit) digits

-- one character as it is written: itself, an escape, or an escape by its number
pub data Writes (text : List ℕ) (character : ℕ) : Type 0 where
  itself : character ≢ 92 → text ≡ character ∷ [] → Writes text character
  escape : (letter : ℕ) → escape_character letter ≡ Some character → text ≡ 92 ∷ letter ∷ [] → Writes text character
  number : (letter : ℕ) (digits : List ℕ) → escape_digits letter ≡ Some (length digits)
      → AllByRecursion (λ d. digit_value d < 16) digits → spelled_after 0 digits ≡ character → IsScalar character
      → text ≡ 92 ∷ letter ∷ digits → Writes text character

-- the text is these characters as they are written, one after another
abbrev pub Spells : List ℕ → List ℕ → Type 0
Spells text [] = text ≡ []
Spells text (character ∷ characters) =
    (front : List ℕ) × (rest : List ℕ) × (text ≡ front ++ rest) × Writes front character × Spells rest characters
