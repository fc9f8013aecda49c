-- What the supplied table says, as a list that wasn't made from its text. Characters are given by
-- their numbers, cells by their masks.
use Rattle.std.specs.Prelude.{ℕ, ◌+◌, List, [], ◌∷◌, ◌++◌, map}
use Rattle.louis_table.specs.declared.definition.Class.{Class}
use Rattle.louis_table.specs.declared.definition.Class.TheVariants.{Space, Punctuation, Digit, Letter}
use Rattle.louis_table.specs.declared.definition.Definition.{Definition}
use Rattle.louis_table.specs.declared.character_set.CharacterSet.{CharacterSet}
use Rattle.louis_table.specs.declared.character_set.CharacterSet.TheVariants as sets
use Rattle.louis_table.specs.declared.sign.Sign.{Sign}
use Rattle.louis_table.specs.declared.sign.Sign.TheVariants.{Number, Capital, CapitalWord, NoContraction}
use Rattle.louis_table.specs.Meaning.{Meaning, every_sign, every_set}

-- a character with its definition: this class and these cells
abbrev pub defined : Class → ℕ × List ℕ → ℕ × Definition
defined class entry = (entry.0, record { class = class; cells = entry.1 })

-- the masks of the letters from A on
abbrev pub letter_masks : List ℕ
letter_masks =
    1 ∷ 3 ∷ 9 ∷ 25 ∷ 17 ∷ 11 ∷ 27 ∷ 19 ∷ 10 ∷ 26 ∷ 5 ∷ 7 ∷ 13 ∷
    29 ∷ 21 ∷ 15 ∷ 31 ∷ 23 ∷ 14 ∷ 30 ∷ 37 ∷ 39 ∷ 58 ∷ 45 ∷ 61 ∷ 53 ∷ []

-- the definitions of capitals, each followed by its small letter, with one cell for both
abbrev pub both_letters : ℕ → List ℕ → List (ℕ × Definition)
both_letters capital [] = []
both_letters capital (mask ∷ masks) =
    defined Letter (capital, mask ∷ []) ∷ defined Letter (capital + 32, mask ∷ []) ∷ both_letters (capital + 1) masks

-- capitals one after another, each with its small letter
abbrev pub small_letters : ℕ → List ℕ → List (ℕ × ℕ)
small_letters capital [] = []
small_letters capital (mask ∷ masks) = (capital, capital + 32) ∷ small_letters (capital + 1) masks

-- the digits, 1 to 9 and then 0
abbrev pub digits : List (ℕ × List ℕ)
digits =
    (49, 1 ∷ []) ∷ (50, 3 ∷ []) ∷ (51, 9 ∷ []) ∷ (52, 25 ∷ []) ∷ (53, 17 ∷ []) ∷
    (54, 11 ∷ []) ∷ (55, 27 ∷ []) ∷ (56, 19 ∷ []) ∷ (57, 10 ∷ []) ∷ (48, 26 ∷ []) ∷ []

-- the punctuation marks
abbrev pub marks : List (ℕ × List ℕ)
marks =
    (46, 50 ∷ []) ∷ (44, 2 ∷ []) ∷ (59, 6 ∷ []) ∷ (58, 18 ∷ []) ∷
    (63, 38 ∷ []) ∷ (33, 22 ∷ []) ∷ (39, 4 ∷ []) ∷ (8217, 4 ∷ []) ∷
    (45, 36 ∷ []) ∷ (40, 16 ∷ 35 ∷ []) ∷ (41, 16 ∷ 28 ∷ []) ∷ (47, 56 ∷ 12 ∷ []) ∷
    (8220, 38 ∷ []) ∷ (8221, 52 ∷ []) ∷ (34, 32 ∷ 54 ∷ []) ∷ (8211, 32 ∷ 36 ∷ []) ∷
    (8212, 32 ∷ 36 ∷ []) ∷ []

-- the cells of each sign
abbrev pub english_sign : Sign → List ℕ
english_sign Number = 60 ∷ []
english_sign Capital = 32 ∷ []
english_sign CapitalWord = 32 ∷ 32 ∷ []
english_sign NoContraction = 48 ∷ []

-- the characters of each set
abbrev pub english_set : CharacterSet → List ℕ
english_set sets.NumericMode = 46 ∷ 44 ∷ []
english_set sets.NoContraction = 97 ∷ 98 ∷ 99 ∷ 100 ∷ 101 ∷ 102 ∷ 103 ∷ 104 ∷ 105 ∷ 106 ∷ []

-- uncontracted English: its definitions, its capitals, its signs and its sets
abbrev pub english : Meaning
english = record {
  definitions =
      defined Space (32, 0 ∷ [])
      ∷ (both_letters 65 letter_masks ++ (map (defined Digit) digits ++ map (defined Punctuation) marks));
  partners = small_letters 65 letter_masks;
  rules = [];
  signs = map english_sign every_sign;
  sets = map english_set every_set;
}
