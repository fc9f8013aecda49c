-- The names of tables, and of proofreaders.
use Rattle.std.specs.Prelude.{◌≡◌, ℕ, ◌<◌, ◌≤◌, Bool, true, not, ◌||◌, ◌&&◌, ◌==◌, nat_le, List, length, All}
use Rattle.desk_model.specs.Limits.{most_name, most_proofreader}
use Rattle.desk_model.specs.BookTexts.{is_barred}

-- a to z, 0 to 9, the low line or the hyphen
abbrev pub is_name_character : ℕ → Bool
is_name_character character =
    (nat_le 97 character && nat_le character 122) || (nat_le 48 character && nat_le character 57)
    || character == 95 || character == 45

-- at least one such character, and no more than a table's name may have
pub record IsTableName (name : List ℕ) : Type 0 where
  pub nonempty : 0 < length name
  pub short : length name ≤ most_name
  pub characters : All (λ character. is_name_character character ≡ true) name

-- neither a blank nor a character that no text of a book may have
abbrev pub is_proofreader_character : ℕ → Bool
is_proofreader_character character = not (character == 32) && not (is_barred character)

-- such characters, no more than a proofreader's name may have; the empty name is that of nobody
pub record IsProofreaderName (name : List ℕ) : Type 0 where
  pub short : length name ≤ most_proofreader
  pub characters : All (λ character. is_proofreader_character character ≡ true) name
