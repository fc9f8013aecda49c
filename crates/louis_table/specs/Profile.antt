-- The profiles of the table language.

-- the language without numeric mode, and the language with it
pub data Profile : Type 0 where
  WithoutNumericMode : Profile
  WithNumericMode : Profile

-- the first profile has what the second one has
abbrev pub Includes : Profile → Profile → Type 0
Includes WithoutNumericMode WithoutNumericMode = Unit {0}
Includes WithoutNumericMode WithNumericMode = ⊥
Includes WithNumericMode WithoutNumericMode = Unit {0}
Includes WithNumericMode WithNumericMode = Unit {0}
