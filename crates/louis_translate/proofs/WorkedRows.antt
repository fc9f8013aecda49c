-- A small table and prints of it, worked by the definitions alone: they say what these rows say, and not only what the code does.
use Rattle.std.proofs.Common.{◌≡◌, ℕ, true, false, List, [], ◌∷◌, ◌++◌, refl, Some, None, map}
use Rattle.louis_table.specs.declared.character_set.CharacterSet.TheVariants as sets
use Rattle.louis_table.specs.declared.sign.Sign.TheVariants as signs
use Rattle.louis_table.specs.Meaning.{Meaning, every_sign, every_set}
use Rattle.louis_table.specs.Table.{Announces, Collects, cells_for, characters_for}
use Rattle.louis_table.specs.declared.definition.Class.TheVariants.{Space, Punctuation, Digit, Letter}
use Rattle.louis_table.specs.declared.rule.RuleKind.TheVariants.{Word}
use Rattle.louis_translate.specs.Position.{fits}
use Rattle.louis_translate.specs.Sign.{is_in_numeric_mode, plain_sign_at, sign_at}
use Rattle.louis_translate.specs.Braille.{braille}

-- `space \s 0`, `letter a 1`, `digit 5 15`, `word a 123456` and `numsign 3456`
abbrev small : Meaning
small = record {
  definitions = (32, record { class = Space; cells = 0 ∷ [] }) ∷ (97, record { class = Letter; cells = 1 ∷ [] }) ∷ (53, record { class = Digit; cells = 17 ∷ [] }) ∷ [];
  partners = [];
  rules = record { line = 4; kind = Word; chars = 97 ∷ []; cells = 63 ∷ [] } ∷ [];
  signs = map (λ sign. cells_for sign (Announces signs.Number (60 ∷ []))) every_sign;
  sets = map (λ set. []) every_set;
}

-- the print `a 55a`
abbrev print : List ℕ
print = 97 ∷ 32 ∷ 53 ∷ 53 ∷ 97 ∷ []

-- the number has one sign, before its first digit
number-sign : sign_at small print 2 ≡ 60 ∷ []
number-sign = refl

no-second-number-sign : sign_at small print 3 ≡ []
no-second-number-sign = refl

-- `a` is a word where it stands alone, and none after a digit
is-word : fits small print Word 0 1 ≡ true
is-word = refl

no-word-behind-a-digit : fits small print Word 4 5 ≡ false
no-word-behind-a-digit = refl

-- the braille of the print is `=`, a blank, the sign of the number, two digits and the letter
braille-of-print : braille small print
    (record { rule = Some 0; start = 0; end = 1 } ∷ record { rule = None; start = 1; end = 2 }
    ∷ record { rule = None; start = 2; end = 3 } ∷ record { rule = None; start = 3; end = 4 }
    ∷ record { rule = None; start = 4; end = 5 } ∷ [])
    ≡ 63 ∷ 0 ∷ 60 ∷ 17 ∷ 17 ∷ 1 ∷ []
braille-of-print = refl

-- ---- numeric mode

-- the same table with `punctuation . 256`, `nocontractsign 56`, `numericmodechars .` and `numericnocontchars a`
abbrev with_mode : Meaning
with_mode = record small {
  definitions = small.definitions ++ (46, record { class = Punctuation; cells = 50 ∷ [] }) ∷ [];
  signs = map (λ sign. cells_for sign (Announces signs.Number (60 ∷ [])) ++ cells_for sign (Announces signs.NoContraction (48 ∷ []))) every_sign;
  sets = map (λ set. characters_for set (Collects sets.NumericMode (46 ∷ [])) ++ characters_for set (Collects sets.NoContraction (97 ∷ []))) every_set;
}

-- the print `5.5.a .5`
abbrev numbers : List ℕ
numbers = 53 ∷ 46 ∷ 53 ∷ 46 ∷ 97 ∷ 32 ∷ 46 ∷ 53 ∷ []

-- the number goes on over the point, and has one sign
one-sign-over-a-point : sign_at with_mode numbers 0 ≡ 60 ∷ []
one-sign-over-a-point = refl

no-sign-after-a-point : sign_at with_mode numbers 2 ≡ []
no-sign-after-a-point = refl

mode-holds-the-last-point : is_in_numeric_mode with_mode numbers 3 ≡ true
mode-holds-the-last-point = refl

-- the letter after it is out of the mode, and has the sign that says so
sign-after-the-number : sign_at with_mode numbers 4 ≡ 48 ∷ []
sign-after-the-number = refl

-- a point alone doesn't begin a number, and the digit after it has the sign
no-mode-by-a-point : is_in_numeric_mode with_mode numbers 6 ≡ false
no-mode-by-a-point = refl

sign-after-a-point : sign_at with_mode numbers 7 ≡ 60 ∷ []
sign-after-a-point = refl

-- without the mode each run of digits has a sign, and the letter none
plain-sign-after-a-point : plain_sign_at with_mode numbers 2 ≡ 60 ∷ []
plain-sign-after-a-point = refl

no-plain-sign-after-the-number : plain_sign_at with_mode numbers 4 ≡ []
no-plain-sign-after-the-number = refl
