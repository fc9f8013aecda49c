-- The fields of a head line: what stands between its blanks.
use Rattle.std.specs.Prelude.{◌≡◌, ◌≢◌, ℕ, ◌≤◌, ◌==◌, Bool, true, false, List, [], length, codes, Option, Some, None}
use Rattle.std.specs.Borrow.{Bor}
use Rattle.std.specs.List.{slice_split, join_with_byte}
use Rattle.std.specs.Str.Parse.{IsNumeral, digits_value}
use Rattle.desk_model.specs.declared.command.Anchor.{Anchor}
use Rattle.desk_model.specs.declared.command.Anchor.TheVariants.{Front, End, Para}
use Rattle.desk_model.specs.declared.style.Style.{Style}
use Rattle.desk_model.specs.declared.style.Style.TheVariants.{Body, Heading}
use Rattle.desk_line.specs.Limits.{most_digits, most_number}

-- ---- a line and its fields

-- what stands between the blanks of a line; a field is empty if a blank stands at an end of the
-- line, or two side by side
abbrev pub fields_of : List ℕ → List (List ℕ)
fields_of line = slice_split (λ b. b == 32) line

-- the fields with one blank between them: the line that they came from
abbrev pub line_of_fields : List (List ℕ) → List ℕ
line_of_fields = join_with_byte 32

-- the fields of a rest of a line, if there is one
abbrev pub fields_in_rest : Option (Bor (List ℕ)) → List (List ℕ)
fields_in_rest None = []
fields_in_rest (Some rest) = fields_of rest.now

-- ---- what a field may be

-- one character or more
abbrev pub IsName : List ℕ → Type 0
IsName field = field ≢ []

-- one to 16 decimal digits, leading zeros too, of a value up to 2^53
pub record IsNumber (field : List ℕ) (number : ℕ) : Type 0 where
  pub numeral : IsNumeral 10 field
  pub short : length field ≤ most_digits
  pub value : number ≡ digits_value 10 field
  pub small : number ≤ most_number

-- where a paragraph is put: at the front, at the end, or after the one with this id
pub data IsAnchor (field : List ℕ) (anchor : Anchor) : Type 0 where
  front : field ≡ codes "front" → anchor ≡ Front → IsAnchor field anchor
  end : field ≡ codes "end" → anchor ≡ End → IsAnchor field anchor
  after : (id : ℕ) → IsNumber field id → anchor ≡ Para id → IsAnchor field anchor

-- a style by its word
pub data IsStyle (field : List ℕ) (style : Style) : Type 0 where
  body : field ≡ codes "body" → style ≡ Body → IsStyle field style
  heading : field ≡ codes "heading" → style ≡ Heading → IsStyle field style

-- whether a flag is set, by its word
pub data IsFlag (field : List ℕ) (set : Bool) : Type 0 where
  on : field ≡ codes "on" → set ≡ true → IsFlag field set
  off : field ≡ codes "off" → set ≡ false → IsFlag field set
