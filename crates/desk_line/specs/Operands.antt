-- What stands after the word of a head line: fields one after another, and then a text, which is
-- the rest of the line, or nothing.
use Rattle.std.specs.Prelude.{◌≡◌, ◌≢◌, ℕ, ◌≤◌, Bool, List, [], ◌∷◌, codes, decimal}
use Rattle.std.specs.List.{All}
use Rattle.std.specs.Str.{chars}
use Rattle.louis_table.specs.Table.{most_lines}
use Rattle.desk_model.specs.declared.command.Anchor.{Anchor}
use Rattle.desk_model.specs.declared.command.Anchor.TheVariants.{Front, End, Para}
use Rattle.desk_model.specs.declared.style.Style.{Style}
use Rattle.desk_model.specs.BookTexts.{AreCharacters}
use Rattle.desk_line.specs.Fields.{line_of_fields, IsName, IsNumber, IsAnchor, IsStyle, IsFlag}
use Rattle.desk_line.specs.Limits.{most_number}
use Rattle.desk_line.specs.ReplyLines.{shown_text, style_word, word_if}

-- ---- one field

-- a number, a number of lines, a name, where a paragraph is put, a style, or whether a flag is set
pub data Kind : Type 0 where
  Number : Kind
  Lines : Kind
  Name : Kind
  Place : Kind
  Look : Kind
  Flag : Kind

-- what a field of each kind stands for
abbrev pub Value : Kind → Type 0
Value Number = ℕ
Value Lines = ℕ
Value Name = List ℕ
Value Place = Anchor
Value Look = Style
Value Flag = Bool

-- the field stands for this value
abbrev pub StandsFor : (kind : Kind) → List ℕ → Value kind → Type 0
StandsFor Number field number = IsNumber field number
StandsFor Lines field count = IsNumber field count × (count ≤ most_lines)
StandsFor Name field name = IsName field × (name ≡ chars field)
StandsFor Place field anchor = IsAnchor field anchor
StandsFor Look field style = IsStyle field style
StandsFor Flag field set = IsFlag field set

-- ---- fields, and what they say

-- no fields say anything; or there is no field left, and this is said; or the rest of the line is a
-- text, with its blanks, and before an empty one the blank may be missing; or there is a field, and
-- others after it
pub data Grammar (A : Type 0) : Type 0 where
  Nothing : Grammar A
  Last : A → Grammar A
  Rest : (List ℕ → A) → Grammar A
  Then : (kind : Kind) → (Value kind → Grammar A) → Grammar A

-- the fields say this
abbrev pub Say : {A : Type 0} → Grammar A → List (List ℕ) → A → Type 0
Say Nothing fields said = ⊥
Say (Last value) fields said = (fields ≡ []) × (said ≡ value)
Say (Rest make) fields said = said ≡ make (chars (line_of_fields fields))
Say (Then kind more) fields said =
    (first : List ℕ) × (others : List (List ℕ)) × (value : Value kind)
    × (fields ≡ first ∷ others) × StandsFor kind first value × Say (more value) others said

-- ---- how they are written

-- a value for each field, and the text
abbrev pub Values : {A : Type 0} → Grammar A → Type 0
Values Nothing = ⊥
Values (Last value) = Unit {0}
Values (Rest make) = List ℕ
Values (Then kind more) = (value : Value kind) × Values (more value)

-- what they give
abbrev pub given : {A : Type 0} → (grammar : Grammar A) → Values grammar → A
given Nothing values = absurd values
given (Last value) values = value
given (Rest make) text = make text
given (Then kind more) values = given (more values.0) values.1

-- the field of an anchor
abbrev pub anchor_field : Anchor → List ℕ
anchor_field Front = codes "front"
anchor_field End = codes "end"
anchor_field (Para id) = decimal id

-- how a value of each kind is written
abbrev pub field_of : (kind : Kind) → Value kind → List ℕ
field_of Number number = decimal number
field_of Lines count = decimal count
field_of Name name = shown_text name
field_of Place anchor = anchor_field anchor
field_of Look style = style_word style
field_of Flag set = word_if set (codes "on") (codes "off")

-- the fields, and the text
abbrev pub written : {A : Type 0} → (grammar : Grammar A) → Values grammar → List (List ℕ)
written Nothing values = []
written (Last value) values = []
written (Rest make) text = shown_text text ∷ []
written (Then kind more) values = field_of kind values.0 ∷ written (more values.0) values.1

-- ---- what can be written

-- a number of the language: up to 2^53
abbrev pub IsSmall : ℕ → Type 0
IsSmall number = number ≤ most_number

-- characters, none of them a line feed
pub record IsOneLineText (text : List ℕ) : Type 0 where
  pub characters : AreCharacters text
  pub no_feed : All (λ c. c ≢ 10) text

-- one such character or more, none of them a blank
pub record IsWord (name : List ℕ) : Type 0 where
  pub text : IsOneLineText name
  pub some : name ≢ []
  pub no_blank : All (λ c. c ≢ 32) name

-- the id that an anchor names, if it names one, is small enough
abbrev pub IsSmallAnchor : Anchor → Type 0
IsSmallAnchor Front = Unit {0}
IsSmallAnchor End = Unit {0}
IsSmallAnchor (Para id) = IsSmall id

-- a number is small, lines are few, and a name is a word
abbrev pub FitsField : (kind : Kind) → Value kind → Type 0
FitsField Number number = IsSmall number
FitsField Lines count = count ≤ most_lines
FitsField Name name = IsWord name
FitsField Place anchor = IsSmallAnchor anchor
FitsField Look style = Unit {0}
FitsField Flag set = Unit {0}

-- each value fits its field, and the text stands on one line
abbrev pub Fit : {A : Type 0} → (grammar : Grammar A) → Values grammar → Type 0
Fit Nothing values = ⊥
Fit (Last value) values = Unit {0}
Fit (Rest make) text = IsOneLineText text
Fit (Then kind more) values = FitsField kind values.0 × Fit (more values.0) values.1
