-- The fields of a table line, with blanks and tabs around them.
use Rattle.std.specs.Prelude.{◌≡◌, ℕ, Bool, true, false, ◌||◌, ◌==◌, List, [], ◌∷◌, ◌++◌}
use Rattle.std.specs.List.{AllByRecursion}

-- a blank or a tab
abbrev pub is_gap : ℕ → Bool
is_gap c = (c == 32) || (c == 9)

-- blanks and tabs alone, or nothing
abbrev pub IsGap : List ℕ → Type 0
IsGap = AllByRecursion (λ c. is_gap c ≡ true)

-- a field has a character, and no blank or tab
abbrev pub IsField : List ℕ → Type 0
IsField [] = ⊥
IsField (c ∷ cs) = AllByRecursion (λ c. is_gap c ≡ false) (c ∷ cs)

-- what follows a field is nothing, or begins with a blank or a tab
abbrev pub IsApart : List ℕ → Type 0
IsApart [] = Unit {0}
IsApart (c ∷ cs) = is_gap c ≡ true

-- the text is a gap, which may be empty, then the field, then the rest
pub record Begins (text field rest : List ℕ) : Type 0 where
  pub gap : List ℕ
  pub is_gap : IsGap gap
  pub is_field : IsField field
  pub is_apart : IsApart rest
  pub parts : text ≡ gap ++ (field ++ rest)

-- the text begins with these fields, whatever follows them
abbrev pub HasFields : List ℕ → List (List ℕ) → Type 0
HasFields text [] = Unit {0}
HasFields text (field ∷ fields) = (rest : List ℕ) × Begins text field rest × HasFields rest fields
