-- The texts of a book, as lists of the codes of their characters, and as they are stored.
use Rattle.std.specs.Prelude.{◌≡◌, ℕ, ◌<◌, Bool, true, false, ◌||◌, not, ◌==◌, List, length, slice_index, filter, All}
use Rattle.unicode_normalization.specs.Forms.{nfc}
use Rattle.std.specs.Char.{IsScalar}

-- each code is that of a character, a Unicode scalar value
abbrev pub AreCharacters : List ℕ → Type 0
AreCharacters = All IsScalar

-- a line feed, a carriage return or U+0000, which no text of a book may have
abbrev pub is_barred : ℕ → Bool
is_barred character = character == 10 || character == 13 || character == 0

-- the text has no barred character
abbrev pub IsUnbarred : List ℕ → Type 0
IsUnbarred text = All (λ character. is_barred character ≡ false) text

-- the text is of characters, and none of them is barred
pub record IsClean (text : List ℕ) : Type 0 where
  pub characters : AreCharacters text
  pub unbarred : IsUnbarred text

-- the smallest place of a barred character
pub record IsFirstBarred (text : List ℕ) (place : ℕ) : Type 0 where
  pub within : place < length text
  pub barred : is_barred (slice_index text place) ≡ true
  pub before : (i : ℕ) → i < place → is_barred (slice_index text i) ≡ false

-- the text in Unicode's normal form C, without barred characters
abbrev pub normal_form : List ℕ → List ℕ
normal_form text = filter (λ character. not (is_barred character)) (nfc text)
