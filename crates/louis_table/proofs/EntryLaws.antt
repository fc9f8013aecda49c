-- What is read of a line is what it says.
use Rattle.std.proofs.Common.{◌≡◌, ◌≢◌, ℕ, ◌<◌, ◌≤◌, Bool, true, false, ◌||◌, eqb, ltb, List, [], ◌∷◌, length, Option, Some, None, option_map, Result, Ok, Err, refl, sym, ap, subst, ◌∙◌, ◌⊎◌, inl, inr, arith, lit≤, rules}
use Rattle.std.proofs.lemmas.Bool.{cases_Bool, eqb-true, eqb-false, eq-eqb, ne_eqb, lt-ltb, ltb-true}
use Rattle.cell_core.specs.Dots.{most_cells}
use Rattle.cell_core.specs.Reading.{cells_in}
use Rattle.cell_core.proofs.DotsLaws.{Dots-from_cells_in, cells_in-from_Dots}
use Rattle.louis_table.specs.declared.definition.Class.TheVariants as classes
use Rattle.louis_table.specs.declared.rule.RuleKind.{RuleKind}
use Rattle.louis_table.specs.declared.rule.RuleKind.TheVariants as kinds
use Rattle.louis_table.specs.declared.sign.Sign.{Sign}
use Rattle.louis_table.specs.declared.sign.Sign.TheVariants as signs
use Rattle.louis_table.specs.declared.character_set.CharacterSet.{CharacterSet}
use Rattle.louis_table.specs.declared.character_set.CharacterSet.TheVariants as sets
use Rattle.louis_table.specs.declared.opcode.Opcode.{Opcode}
use Rattle.louis_table.specs.declared.opcode.Opcode.TheVariants.{Define, UpLow, Replace, Announce, Collect}
use Rattle.louis_table.specs.Fields.{IsGap, IsField, Begins, HasFields}
use Rattle.louis_table.specs.Characters.{Spells}
use Rattle.louis_table.specs.Profile.{Profile, WithoutNumericMode, WithNumericMode, Includes}
use Rattle.louis_table.specs.Opcode.{name_of, profile_of, HasOpcode}
use Rattle.louis_table.specs.Steps.Fields.{field_at}
use Rattle.louis_table.specs.Steps.Characters.{characters_in}
use Rattle.louis_table.specs.Steps.Opcode.{opcode_named}
use Rattle.louis_table.specs.Steps.Dots.{pair_in, rule_in, are_many, are_many_written}
use Rattle.louis_table.specs.Steps.Line.{or_cause, entry_from, with_dots, both_from, both_at, entry_of_both, entry_of_one, entry_of_set, entry_at, as_some, opcode_gives, fields_give, line_gives, is_large}
use Rattle.louis_table.specs.Table.{Entry, Defines, Pairs, Replaces, Announces, Collects, AreCharactersFor, HasCharacters, HasDots, HasOperands, AreTooManyFor, RuleDots, IsDotsFor, WritesCells, most_rule_characters, IsComment, SaysNothing, blank, comment, GivesEntry, definition_line, pair_line, rule_line, sign_line, set_line, IsFault, unknown_opcode, missing_operand, bad_characters, bad_dots, many_characters, many_cells}
use Rattle.louis_table.proofs.FieldLaws.{field_at-Begins, Begins-field_at, IsGap-field_at, field_at-gap, gap_without_field}
use Rattle.louis_table.proofs.CharacterLaws.{map_some, characters_in-Spells, Spells-characters_in}
use Rattle.louis_table.proofs.OperandLaws.{pair_in-PairDots, PairDots-pair_in, rule_in-RuleDots, RuleDots-rule_in}

-- ---- opcodes

includes : (earlier : Profile) → Includes WithNumericMode earlier
includes WithoutNumericMode = tt
includes WithNumericMode = tt

-- the last profile has every opcode
pub has_opcode : (opcode : Opcode) → HasOpcode WithNumericMode opcode
has_opcode opcode = includes (profile_of opcode)

pub opcode_named-name_of : (opcode : Opcode) → opcode_named (name_of opcode) ≡ Some opcode
unfolding opcode_named
opcode_named-name_of (Define classes.Space) = refl
opcode_named-name_of (Replace kinds.Always) = refl
opcode_named-name_of (Announce signs.Number) = refl
opcode_named-name_of (Collect sets.NumericMode) = refl
opcode_named-name_of opcode = refl

pub opcode_named-Some : (field : List ℕ) (opcode : Opcode) → opcode_named field ≡ Some opcode → field ≡ name_of opcode
unfolding opcode_named
opcode_named-Some field opcode e = search rules

opcode_named-None : (field : List ℕ) → opcode_named field ≡ None → (opcode : Opcode) → HasOpcode WithNumericMode opcode → field ≢ name_of opcode
opcode_named-None field e opcode has h = let s : opcode_named field ≡ Some opcode = ap opcode_named h ∙ opcode_named-name_of opcode in absurd cc

-- the opcode takes characters and dots
abbrev pub TakesBoth : Opcode → Type 0
TakesBoth (Define class) = Unit {0}
TakesBoth UpLow = Unit {0}
TakesBoth (Replace kind) = Unit {0}
TakesBoth (Announce sign) = ⊥
TakesBoth (Collect set) = ⊥

HasDots-both : (line characters dots : List ℕ) (opcode : Opcode) → TakesBoth opcode → HasFields line (name_of opcode ∷ characters ∷ dots ∷ []) → HasDots line opcode dots
HasDots-both line characters dots (Announce sign) b h = absurd b
HasDots-both line characters dots (Collect set) b h = absurd b
HasDots-both line characters dots opcode b h = (characters, h)

both-HasDots : (line dots : List ℕ) (opcode : Opcode) → TakesBoth opcode → HasDots line opcode dots → (characters : List ℕ) × HasFields line (name_of opcode ∷ characters ∷ dots ∷ [])
both-HasDots line dots (Announce sign) b h = absurd b
both-HasDots line dots (Collect set) b h = absurd b
both-HasDots line dots opcode b h = h

HasCharacters-both : (line characters : List ℕ) (opcode : Opcode) → TakesBoth opcode → HasFields line (name_of opcode ∷ characters ∷ []) → HasCharacters line opcode characters
HasCharacters-both line characters (Announce sign) b h = absurd b
HasCharacters-both line characters (Collect set) b h = absurd b
HasCharacters-both line characters opcode b h = h

front_field : (line name characters dots : List ℕ) → HasFields line (name ∷ characters ∷ dots ∷ []) → HasFields line (name ∷ characters ∷ [])
front_field line name characters dots h = (h.0, h.1, (h.2.0, h.2.1, tt))

-- ---- what is read is said

-- what a verdict on the fields of a line says of it
abbrev pub Says : List ℕ → Result (Option Entry) ℕ → Type 0
Says line (Ok None) = SaysNothing line
Says line (Ok (Some entry)) = GivesEntry WithNumericMode line entry
Says line (Err cause) = (before : List (List ℕ)) → IsFault WithNumericMode before line cause

map_none : {A B : Type 0} (f : A → B) (o : Option A) → option_map f o ≡ None → o ≡ None
map_none f None e = refl
map_none f (Some x) e = absurd cc

or_cause_says : (line : List ℕ) (cause : ℕ) (o : Option Entry) → ((entry : Entry) → o ≡ Some entry → GivesEntry WithNumericMode line entry) → (o ≡ None → (before : List (List ℕ)) → IsFault WithNumericMode before line cause)
    → Says line (as_some (or_cause cause o))
or_cause_says line cause None g f = f refl
or_cause_says line cause (Some entry) g f = g entry refl

unread : {A : Type 0} (o : Option A) (x : A) → o ≡ None → o ≡ Some x → ⊥
unread o x e s = absurd cc

-- a text of the wrong length for the opcode
wrong_length : (opcode : Opcode) (characters text : List ℕ) → characters_in characters ≡ Some text → ¬ AreCharactersFor opcode text
    → (other : List ℕ) → AreCharactersFor opcode other → ¬ Spells characters other
wrong_length opcode characters text e n other a s = search (rules, Spells-characters_in)

module _ (line characters dots : List ℕ) where
  wrong_says : (opcode : Opcode) (text : List ℕ) → TakesBoth opcode → HasFields line (name_of opcode ∷ characters ∷ dots ∷ []) → characters_in characters ≡ Some text
      → ¬ AreCharactersFor opcode text → (before : List (List ℕ)) → IsFault WithNumericMode before line 3
  wrong_says opcode text b h e n before =
      bad_characters opcode characters (has_opcode opcode) (HasCharacters-both line characters opcode b (front_field line (name_of opcode) characters dots h)) (wrong_length opcode characters text e n) refl

  text_says : (opcode : Opcode) (text : List ℕ) → TakesBoth opcode → HasFields line (name_of opcode ∷ characters ∷ dots ∷ []) → characters_in characters ≡ Some text
      → Says line (as_some (entry_from opcode text dots))
  text_says (Define class) (c ∷ []) b h e =
      or_cause_says line 4 _
      (λ entry s. let m = map_some (λ (cells : List ℕ). Defines c (record { class = class; cells = cells })) (cells_in dots) entry s in
      definition_line class characters dots c m.0 (has_opcode (Define class)) h (characters_in-Spells characters (c ∷ []) e) (Dots-from_cells_in dots m.0 m.1) (sym m.2))
      (λ n before. bad_dots (Define class) dots (has_opcode (Define class)) (characters, h) (λ d. unread (cells_in dots) d.0 (map_none _ _ n) (cells_in-from_Dots dots d.0 d.1)) refl)
  text_says UpLow (u ∷ l ∷ []) b h e =
      or_cause_says line 4 _
      (λ entry s. let m = map_some (λ (cells : List ℕ × List ℕ). Pairs u cells.0 l cells.1) (pair_in dots) entry s in
      pair_line characters dots u l m.0.0 m.0.1 (has_opcode UpLow) h (characters_in-Spells characters (u ∷ l ∷ []) e) (pair_in-PairDots dots m.0.0 m.0.1 m.1) (sym m.2))
      (λ n before. bad_dots UpLow dots (has_opcode UpLow) (characters, h) (λ d. unread (pair_in dots) (d.0, d.1) (map_none _ _ n) (PairDots-pair_in dots d.0 d.1 d.2)) refl)
  text_says (Replace kind) text b h e =
      or_cause_says line 4 _
      (λ entry s. let m = map_some (λ (cells : Option (List ℕ)). Replaces kind text cells) (rule_in dots) entry s in
      rule_line kind characters dots text m.0 (has_opcode (Replace kind)) h (characters_in-Spells characters text e) (rule_in-RuleDots dots m.0 m.1) (sym m.2))
      (λ n before. bad_dots (Replace kind) dots (has_opcode (Replace kind)) (characters, h) (λ d. unread (rule_in dots) d.0 (map_none _ _ n) (RuleDots-rule_in dots d.0 d.1)) refl)
  text_says (Announce sign) text b h e = absurd b
  text_says (Collect set) text b h e = absurd b
  text_says opcode text b h e = wrong_says opcode text tt h e (λ n. omega arith)

  both_says : (opcode : Opcode) (o : Option (List ℕ)) → characters_in characters ≡ o → TakesBoth opcode → HasFields line (name_of opcode ∷ characters ∷ dots ∷ [])
      → Says line (as_some (entry_of_both opcode (with_dots o dots)))
  both_says opcode None e b h =
      λ before. bad_characters opcode characters (has_opcode opcode) (HasCharacters-both line characters opcode b (front_field line (name_of opcode) characters dots h))
      (λ text a s. unread (characters_in characters) text e (Spells-characters_in characters text s)) refl
  both_says opcode (Some text) e b h = text_says opcode text b h e

  sign_says : (sign : Sign) → HasFields line (name_of (Announce sign) ∷ dots ∷ []) → Says line (as_some (entry_from (Announce sign) [] dots))
  sign_says sign h =
      or_cause_says line 4 _
      (λ entry s. let m = map_some (λ (cells : List ℕ). Announces sign cells) (cells_in dots) entry s in
      sign_line sign dots m.0 (has_opcode (Announce sign)) h (Dots-from_cells_in dots m.0 m.1) (sym m.2))
      (λ n before. bad_dots (Announce sign) dots (has_opcode (Announce sign)) h (λ d. unread (cells_in dots) d.0 (map_none _ _ n) (cells_in-from_Dots dots d.0 d.1)) refl)

-- what a set's operand gives is said
set_says : (line characters : List ℕ) (set : CharacterSet) → HasFields line (name_of (Collect set) ∷ characters ∷ [])
    → Says line (as_some (or_cause 3 (option_map (λ text. Collects set text) (characters_in characters))))
set_says line characters set h =
    or_cause_says line 3 _
    (λ entry s. let m = map_some (λ (text : List ℕ). Collects set text) (characters_in characters) entry s in
    set_line set characters m.0 (has_opcode (Collect set)) h (characters_in-Spells characters m.0 m.1) (sym m.2))
    (λ n before. bad_characters (Collect set) characters (has_opcode (Collect set)) h (λ text a s. unread (characters_in characters) text (map_none _ _ n) (Spells-characters_in characters text s)) refl)

same_rest : (text field rest other : List ℕ) → Begins text field rest → Begins text field other → other ≡ rest
same_rest text field rest other b d = sym (Begins-field_at text field other d).1 ∙ (Begins-field_at text field rest b).1

same_rest_of : (text field rest others other : List ℕ) → Begins text field rest → Begins text others other → other ≡ rest
same_rest_of text field rest others other b d = sym (Begins-field_at text others other d).1 ∙ (Begins-field_at text field rest b).1

operands-both : (line : List ℕ) (opcode : Opcode) → TakesBoth opcode → HasOperands line opcode → (dots : List ℕ) × HasDots line opcode dots
operands-both line (Collect set) two h = absurd two
operands-both line opcode two h = h

both-operands : (line dots : List ℕ) (opcode : Opcode) → HasDots line opcode dots → HasOperands line opcode
both-operands line dots (Collect set) h = absurd h
both-operands line dots opcode h = (dots, h)

missing_both : (line rest : List ℕ) (opcode : Opcode) → TakesBoth opcode → Begins line (name_of opcode) rest
    → ((characters dots : List ℕ) → ¬ HasFields rest (characters ∷ dots ∷ [])) → ¬ HasOperands line opcode
missing_both line rest opcode two b n has =
    let some = operands-both line opcode two has in
    let dots : List ℕ = some.0 in
    let f = both-HasDots line dots opcode two some.1 in
    n f.0 dots (subst (λ (r : List ℕ). HasFields r (f.0 ∷ dots ∷ [])) (same_rest line (name_of opcode) rest f.1.0 b f.1.1) f.1.2)

two_say : (line rest characters more dots end : List ℕ) (opcode : Opcode) → TakesBoth opcode → Begins line (name_of opcode) rest
    → (characters ≢ [] → Begins rest characters more) → (characters ≡ [] → IsGap rest)
    → (dots ≢ [] → Begins more dots end) → (dots ≡ [] → IsGap more)
    → Says line (as_some (entry_of_both opcode (both_from characters dots)))
two_say line rest [] more dots end opcode two b f n g m =
    λ before. missing_operand opcode rest (has_opcode opcode) b (missing_both line rest opcode two b (λ characters dots h. gap_without_field rest characters h.0 (n refl) h.1)) refl
two_say line rest (x ∷ characters) more [] end opcode two b f n g m =
    λ before. missing_operand opcode rest (has_opcode opcode) b
    (missing_both line rest opcode two b (λ others dots h. gap_without_field h.0 dots h.2.0 (subst IsGap (sym (same_rest_of rest (x ∷ characters) more others h.0 (f (λ e. cc)) h.1)) (m refl)) h.2.1)) refl
two_say line rest (x ∷ characters) more (y ∷ dots) end opcode two b f n g m =
    both_says line (x ∷ characters) (y ∷ dots) opcode _ refl two (rest, b, (more, f (λ e. cc), (end, g (λ e. cc), tt)))

one_say : (line rest dots more : List ℕ) (sign : Sign) → Begins line (name_of (Announce sign)) rest → (dots ≢ [] → Begins rest dots more) → (dots ≡ [] → IsGap rest)
    → Says line (as_some (entry_of_one (Announce sign) dots))
one_say line rest [] more sign b f n =
    λ before. missing_operand (Announce sign) rest (has_opcode (Announce sign)) b
    (λ (dots, h). gap_without_field h.0 dots h.2.0 (subst IsGap (sym (same_rest line (name_of (Announce sign)) rest h.0 b h.1)) (n refl)) h.2.1) refl
one_say line rest (y ∷ dots) more sign b f n = sign_says line [] (y ∷ dots) sign (rest, b, (more, f (λ e. cc), tt))

set_say : (line rest characters more : List ℕ) (set : CharacterSet) → Begins line (name_of (Collect set)) rest → (characters ≢ [] → Begins rest characters more) → (characters ≡ [] → IsGap rest)
    → Says line (as_some (entry_of_set set characters))
set_say line rest [] more set b f n =
    λ before. missing_operand (Collect set) rest (has_opcode (Collect set)) b
    (λ (characters, h). gap_without_field h.0 characters h.2.0 (subst IsGap (sym (same_rest line (name_of (Collect set)) rest h.0 b h.1)) (n refl)) h.2.1) refl
set_say line rest (y ∷ characters) more set b f n = set_says line (y ∷ characters) set (rest, b, (more, f (λ e. cc), tt))

entry_says : (line rest : List ℕ) (opcode : Opcode) → Begins line (name_of opcode) rest → Says line (as_some (entry_at opcode rest))
unfolding entry_at
entry_says line rest opcode b = by opcode b
  where
    two : (opcode : Opcode) → TakesBoth opcode → Begins line (name_of opcode) rest → Says line (as_some (entry_of_both opcode (both_at rest)))
    two opcode both b =
        two_say line rest (field_at rest).0 (field_at rest).1 (field_at (field_at rest).1).0 (field_at (field_at rest).1).1 opcode both b
        (field_at-Begins rest) (IsGap-field_at rest) (field_at-Begins (field_at rest).1) (IsGap-field_at (field_at rest).1)

    by : (opcode : Opcode) → Begins line (name_of opcode) rest → Says line (as_some (entry_at opcode rest))
    by (Announce sign) b = one_say line rest (field_at rest).0 (field_at rest).1 sign b (field_at-Begins rest) (IsGap-field_at rest)
    by (Collect set) b = set_say line rest (field_at rest).0 (field_at rest).1 set b (field_at-Begins rest) (IsGap-field_at rest)
    by opcode b = two opcode tt b

opcode_says : (line field rest : List ℕ) (opcode : Option Opcode) → opcode_named field ≡ opcode → Begins line field rest → ¬ IsComment field → Says line (opcode_gives opcode rest)
opcode_says line field rest None e b n = λ before. unknown_opcode field rest b n (opcode_named-None field e) refl
opcode_says line field rest (Some opcode) e b n =
    entry_says line rest opcode (subst (λ (f : List ℕ). Begins line f rest) (opcode_named-Some field opcode e) b)

fields_say : (line field rest : List ℕ) → (field ≢ [] → Begins line field rest) → (field ≡ [] → IsGap line) → Says line (fields_give field rest)
fields_say line [] rest f n = blank (n refl)
fields_say line (x ∷ field) rest f n =
    let b : Begins line (x ∷ field) rest = f (λ e. cc) in
    elim (cases_Bool (eqb x 35)) [
      | inl t ↦ rw t (comment (x ∷ field) rest b (eqb-true x 35 t))
      | inr u ↦ rw u (opcode_says line (x ∷ field) rest (opcode_named (x ∷ field)) refl b (eqb-false x 35 u))
    ]

pub line_gives-Says : (line : List ℕ) → Says line (line_gives line)
unfolding line_gives
line_gives-Says line = fields_say line (field_at line).0 (field_at line).1 (field_at-Begins line) (IsGap-field_at line)

-- ---- what is said is read

first_gives : (line field rest : List ℕ) → Begins line field rest → line_gives line ≡ fields_give field rest
unfolding line_gives
first_gives line field rest b =
    let h = Begins-field_at line field rest b in
    ap (λ (f : List ℕ). fields_give f (field_at line).1) h.0 ∙ ap (fields_give field) h.1

opcode_field : (opcode : Opcode) (rest : List ℕ) → fields_give (name_of opcode) rest ≡ as_some (entry_at opcode rest)
unfolding opcode_named
opcode_field (Define classes.Space) rest = refl
opcode_field (Replace kinds.Always) rest = refl
opcode_field (Announce signs.Number) rest = refl
opcode_field (Collect sets.NumericMode) rest = refl
opcode_field opcode rest = refl

pub entry_at-both : (opcode : Opcode) (rest : List ℕ) → TakesBoth opcode → entry_at opcode rest ≡ entry_of_both opcode (both_at rest)
unfolding entry_at
entry_at-both (Announce sign) rest b = absurd b
entry_at-both (Collect set) rest b = absurd b
entry_at-both opcode rest b = refl

pub entry_at-sign : (sign : Sign) (rest : List ℕ) → entry_at (Announce sign) rest ≡ entry_of_one (Announce sign) (field_at rest).0
unfolding entry_at
entry_at-sign sign rest = refl

pub entry_at-set : (set : CharacterSet) (rest : List ℕ) → entry_at (Collect set) rest ≡ entry_of_set set (field_at rest).0
unfolding entry_at
entry_at-set set rest = refl

operands_at : (opcode : Opcode) (rest characters more dots : List ℕ) → Begins rest characters more → (field_at more).0 ≡ dots
    → entry_of_both opcode (both_at rest) ≡ entry_of_both opcode (both_from characters dots)
operands_at opcode rest characters more dots b e =
    let h = Begins-field_at rest characters more b in
    ap (λ (f : List ℕ). entry_of_both opcode (both_from f (field_at (field_at rest).1).0)) h.0
    ∙ (ap (λ (m : List ℕ). entry_of_both opcode (both_from characters (field_at m).0)) h.1 ∙ ap (λ (d : List ℕ). entry_of_both opcode (both_from characters d)) e)

operands_both : (opcode : Opcode) (characters dots : List ℕ) → IsField characters → IsField dots
    → entry_of_both opcode (both_from characters dots) ≡ entry_of_both opcode (with_dots (characters_in characters) dots)
operands_both opcode [] dots f g = absurd f
operands_both opcode (x ∷ characters) [] f g = absurd g
operands_both opcode (x ∷ characters) (y ∷ dots) f g = refl

operand_one : (opcode : Opcode) (dots : List ℕ) → IsField dots → entry_of_one opcode dots ≡ entry_from opcode [] dots
operand_one opcode [] f = absurd f
operand_one opcode (y ∷ dots) f = refl

pub operand_set : (set : CharacterSet) (characters : List ℕ) → IsField characters
    → entry_of_set set characters ≡ or_cause 3 (option_map (λ text. Collects set text) (characters_in characters))
operand_set set [] f = absurd f
operand_set set (y ∷ characters) f = refl

field_of : (text field rest : List ℕ) → Begins text field rest → IsField field
field_of text field rest b = b.is_field

-- a line that begins with an opcode
pub opcode_line : (line rest : List ℕ) (opcode : Opcode) → Begins line (name_of opcode) rest → line_gives line ≡ as_some (entry_at opcode rest)
opcode_line line rest opcode b = first_gives line (name_of opcode) rest b ∙ opcode_field opcode rest

-- a line with both operands
two_give : (line characters dots : List ℕ) (opcode : Opcode) → TakesBoth opcode → HasFields line (name_of opcode ∷ characters ∷ dots ∷ [])
    → line_gives line ≡ as_some (entry_of_both opcode (with_dots (characters_in characters) dots))
two_give line characters dots opcode two h =
    opcode_line line h.0 opcode h.1
    ∙ ap as_some (entry_at-both opcode h.0 two
    ∙ (operands_at opcode h.0 characters h.2.0 dots h.2.1 (Begins-field_at h.2.0 dots h.2.2.0 h.2.2.1).0
    ∙ operands_both opcode characters dots (field_of h.0 characters h.2.0 h.2.1) (field_of h.2.0 dots h.2.2.0 h.2.2.1)))

-- the same where the characters were read
text_gives : (line characters dots text : List ℕ) (opcode : Opcode) → TakesBoth opcode → HasFields line (name_of opcode ∷ characters ∷ dots ∷ []) → Spells characters text
    → line_gives line ≡ as_some (entry_from opcode text dots)
text_gives line characters dots text opcode two h s =
    two_give line characters dots opcode two h ∙ ap (λ (o : Option (List ℕ)). as_some (entry_of_both opcode (with_dots o dots))) (Spells-characters_in characters text s)

-- a line of a sign
one_gives : (line dots : List ℕ) (sign : Sign) → HasFields line (name_of (Announce sign) ∷ dots ∷ []) → line_gives line ≡ as_some (entry_from (Announce sign) [] dots)
one_gives line dots sign h =
    opcode_line line h.0 (Announce sign) h.1
    ∙ ap as_some (entry_at-sign sign h.0
    ∙ (ap (entry_of_one (Announce sign)) (Begins-field_at h.0 dots h.2.0 h.2.1).0
    ∙ operand_one (Announce sign) dots (field_of h.0 dots h.2.0 h.2.1)))

-- a line of a set
set_gives : (line characters : List ℕ) (set : CharacterSet) → HasFields line (name_of (Collect set) ∷ characters ∷ [])
    → line_gives line ≡ as_some (or_cause 3 (option_map (λ text. Collects set text) (characters_in characters)))
set_gives line characters set h =
    opcode_line line h.0 (Collect set) h.1
    ∙ ap as_some (entry_at-set set h.0
    ∙ (ap (entry_of_set set) (Begins-field_at h.0 characters h.2.0 h.2.1).0
    ∙ operand_set set characters (field_of h.0 characters h.2.0 h.2.1)))

pub line_gives-nothing : (line : List ℕ) → SaysNothing line → line_gives line ≡ Ok None
unfolding line_gives
line_gives-nothing line (blank gap) = ap (λ (f : List ℕ). fields_give f (field_at line).1) (field_at-gap line gap)
line_gives-nothing line (comment field rest b h) = first_gives line field rest b ∙ nothing field b.is_field h
  where
    nothing : (field : List ℕ) → IsField field → IsComment field → fields_give field rest ≡ Ok None
    nothing [] f h = absurd f
    nothing (x ∷ field) f h = rw (eq-eqb x 35 h) refl

some_entry : {A : Type 0} (f : A → Entry) (cause : ℕ) (o : Option A) (x : A) (entry : Entry) → o ≡ Some x → entry ≡ f x → as_some (or_cause cause (option_map f o)) ≡ Ok (Some entry)
some_entry f cause o x entry e s = ap (λ p. as_some (or_cause cause (option_map f p))) e ∙ ap (λ (y : Entry). Ok (Some y)) (sym s)

pub line_gives-entry : (line : List ℕ) (entry : Entry) → GivesEntry WithNumericMode line entry → line_gives line ≡ Ok (Some entry)
line_gives-entry line entry (definition_line class characters dots c cells has h s d e) =
    text_gives line characters dots (c ∷ []) (Define class) tt h s
    ∙ some_entry (λ (cells : List ℕ). Defines c (record { class = class; cells = cells })) 4 (cells_in dots) cells entry (cells_in-from_Dots dots cells d) e
line_gives-entry line entry (pair_line characters dots upper lower upper_cells lower_cells has h s d e) =
    text_gives line characters dots (upper ∷ lower ∷ []) UpLow tt h s
    ∙ some_entry (λ (cells : List ℕ × List ℕ). Pairs upper cells.0 lower cells.1) 4 (pair_in dots) (upper_cells, lower_cells) entry (PairDots-pair_in dots upper_cells lower_cells d) e
line_gives-entry line entry (rule_line kind characters dots text cells has h s d e) =
    text_gives line characters dots text (Replace kind) tt h s
    ∙ some_entry (λ (cells : Option (List ℕ)). Replaces kind text cells) 4 (rule_in dots) cells entry (RuleDots-rule_in dots cells d) e
line_gives-entry line entry (sign_line sign dots cells has h d e) =
    one_gives line dots sign h ∙ some_entry (λ (cells : List ℕ). Announces sign cells) 4 (cells_in dots) cells entry (cells_in-from_Dots dots cells d) e
line_gives-entry line entry (set_line set characters text has h s e) =
    set_gives line characters set h ∙ some_entry (λ (text : List ℕ). Collects set text) 3 (characters_in characters) text entry (Spells-characters_in characters text s) e

-- ---- causes

-- the line has a cause that is at most this one
abbrev pub FailsBy : List ℕ → ℕ → Type 0
FailsBy line cause = (least : ℕ) × (line_gives line ≡ Err least) × (least ≤ cause)

pub unknown_fails : (line field rest : List ℕ) → Begins line field rest → ¬ IsComment field → ((opcode : Opcode) → HasOpcode WithNumericMode opcode → field ≢ name_of opcode) → FailsBy line 1
unknown_fails line field rest b n u = (1, first_gives line field rest b ∙ unknown field b.is_field n u, lit≤ tt)
  where
    no_opcode : (field : List ℕ) → ((opcode : Opcode) → HasOpcode WithNumericMode opcode → field ≢ name_of opcode) → (o : Option Opcode) → opcode_named field ≡ o → opcode_gives o rest ≡ Err 1
    no_opcode field u None e = refl
    no_opcode field u (Some opcode) e = absurd (u opcode (has_opcode opcode) (opcode_named-Some field opcode e))

    unknown : (field : List ℕ) → IsField field → ¬ IsComment field → ((opcode : Opcode) → HasOpcode WithNumericMode opcode → field ≢ name_of opcode) → fields_give field rest ≡ Err 1
    unknown [] f n u = absurd f
    unknown (x ∷ field) f n u = rw (ne_eqb x 35 n) (no_opcode (x ∷ field) u (opcode_named (x ∷ field)) refl)

module _ (line rest : List ℕ) where
  two_missing : (opcode : Opcode) (characters dots : List ℕ) → TakesBoth opcode → Begins line (name_of opcode) rest → ¬ HasOperands line opcode
      → (characters ≢ [] → Begins rest characters (field_at rest).1)
      → (dots ≢ [] → Begins (field_at rest).1 dots (field_at (field_at rest).1).1) → entry_of_both opcode (both_from characters dots) ≡ Err 2
  two_missing opcode [] dots two b n f g = refl
  two_missing opcode (x ∷ characters) [] two b n f g = refl
  two_missing opcode (x ∷ characters) (y ∷ dots) two b n f g =
      absurd (n (both-operands line (y ∷ dots) opcode (HasDots-both line (x ∷ characters) (y ∷ dots) opcode two (rest, b, ((field_at rest).1, f (λ e. cc), ((field_at (field_at rest).1).1, g (λ e. cc), tt))))))

  one_missing : (sign : Sign) (dots : List ℕ) → Begins line (name_of (Announce sign)) rest → ¬ HasOperands line (Announce sign)
      → (dots ≢ [] → Begins rest dots (field_at rest).1) → entry_of_one (Announce sign) dots ≡ Err 2
  one_missing sign [] b n f = refl
  one_missing sign (y ∷ dots) b n f = absurd (n (y ∷ dots, (rest, b, ((field_at rest).1, f (λ e. cc), tt))))

  set_missing : (set : CharacterSet) (characters : List ℕ) → Begins line (name_of (Collect set)) rest → ¬ HasOperands line (Collect set)
      → (characters ≢ [] → Begins rest characters (field_at rest).1) → entry_of_set set characters ≡ Err 2
  set_missing set [] b n f = refl
  set_missing set (y ∷ characters) b n f = absurd (n (y ∷ characters, (rest, b, ((field_at rest).1, f (λ e. cc), tt))))

  both_missing : (opcode : Opcode) → TakesBoth opcode → Begins line (name_of opcode) rest → ¬ HasOperands line opcode → entry_at opcode rest ≡ Err 2
  both_missing opcode two b n =
      entry_at-both opcode rest two ∙ two_missing opcode (field_at rest).0 (field_at (field_at rest).1).0 two b n (field_at-Begins rest) (field_at-Begins (field_at rest).1)

  missing_at : (opcode : Opcode) → Begins line (name_of opcode) rest → ¬ HasOperands line opcode → entry_at opcode rest ≡ Err 2
  missing_at (Announce sign) b n = entry_at-sign sign rest ∙ one_missing sign (field_at rest).0 b n (field_at-Begins rest)
  missing_at (Collect set) b n = entry_at-set set rest ∙ set_missing set (field_at rest).0 b n (field_at-Begins rest)
  missing_at opcode b n = both_missing opcode tt b n

pub missing_fails : (line rest : List ℕ) (opcode : Opcode) → Begins line (name_of opcode) rest → ¬ HasOperands line opcode → FailsBy line 2
missing_fails line rest opcode b n = (2, opcode_line line rest opcode b ∙ ap as_some (missing_at line rest opcode b n), lit≤ tt)

-- an entry fails by a cause that is at most this one
abbrev Fails : Result Entry ℕ → ℕ → Type 0
Fails read cause = (least : ℕ) × (read ≡ Err least) × (least ≤ cause)

pub wrong_entry : (opcode : Opcode) (text dots : List ℕ) → TakesBoth opcode → ¬ AreCharactersFor opcode text → entry_from opcode text dots ≡ Err 3
wrong_entry (Define class) (c ∷ []) dots b n = absurd (n refl)
wrong_entry UpLow (u ∷ l ∷ []) dots b n = absurd (n refl)
wrong_entry (Replace kind) text dots b n = absurd (n tt)
wrong_entry (Announce sign) text dots b n = absurd b
wrong_entry (Collect set) text dots b n = absurd b
wrong_entry opcode text dots b n = refl

-- a line with the characters operand alone, or with both
with_characters : (line characters : List ℕ) (opcode : Opcode) → TakesBoth opcode → HasFields line (name_of opcode ∷ characters ∷ [])
    → (line_gives line ≡ Err 2) ⊎ ((dots : List ℕ) × (line_gives line ≡ as_some (entry_of_both opcode (with_dots (characters_in characters) dots))))
with_characters line characters opcode two h = by characters (field_at h.2.0).0 (field_of h.0 characters h.2.0 h.2.1) refl
  where
    to : (dots : List ℕ) → (field_at h.2.0).0 ≡ dots → line_gives line ≡ as_some (entry_of_both opcode (both_from characters dots))
    to dots e = opcode_line line h.0 opcode h.1 ∙ ap as_some (entry_at-both opcode h.0 two ∙ operands_at opcode h.0 characters h.2.0 dots h.2.1 e)

    read : (cs dots : List ℕ) → IsField cs → characters ≡ cs → (field_at h.2.0).0 ≡ dots
        → (line_gives line ≡ Err 2) ⊎ ((dots : List ℕ) × (line_gives line ≡ as_some (entry_of_both opcode (with_dots (characters_in characters) dots))))
    read [] dots f c e = absurd f
    read (x ∷ cs) [] f c e = inl (to [] e ∙ ap (λ (t : List ℕ). as_some (entry_of_both opcode (both_from t []))) c)
    read (x ∷ cs) (y ∷ dots) f c e =
        inr (y ∷ dots, to (y ∷ dots) e ∙ (ap (λ (t : List ℕ). as_some (entry_of_both opcode (both_from t (y ∷ dots)))) c ∙ ap (λ (t : List ℕ). as_some (entry_of_both opcode (with_dots (characters_in t) (y ∷ dots)))) (sym c)))

    by : (cs dots : List ℕ) → IsField cs → (field_at h.2.0).0 ≡ dots → (line_gives line ≡ Err 2) ⊎ ((dots : List ℕ) × (line_gives line ≡ as_some (entry_of_both opcode (with_dots (characters_in characters) dots))))
    by cs dots f e = read characters dots (field_of h.0 characters h.2.0 h.2.1) refl e

two_characters_fail : (line characters : List ℕ) (opcode : Opcode) → TakesBoth opcode → HasFields line (name_of opcode ∷ characters ∷ [])
    → ((text : List ℕ) → AreCharactersFor opcode text → ¬ Spells characters text) → FailsBy line 3
two_characters_fail line characters opcode two h n =
    elim (with_characters line characters opcode two h) [
      | inl e ↦ (2, e, lit≤ tt)
      | inr (dots, e) ↦ (3, e ∙ ap as_some (by dots (characters_in characters) refl), lit≤ tt)
    ]
  where
    by : (dots : List ℕ) (o : Option (List ℕ)) → characters_in characters ≡ o → entry_of_both opcode (with_dots o dots) ≡ Err 3
    by dots None e = refl
    by dots (Some text) e = wrong_entry opcode text dots two (λ a. n text a (characters_in-Spells characters text e))

unwritten : {A : Type 0} (f : A → Entry) (cause : ℕ) (o : Option A) → ((x : A) → o ≡ Some x → ⊥) → Fails (or_cause cause (option_map f o)) cause
unwritten f cause None n = (cause, refl, omega arith)
unwritten f cause (Some x) n = absurd (n x refl)

pub characters_fail : (line characters : List ℕ) (opcode : Opcode) → HasCharacters line opcode characters
    → ((text : List ℕ) → AreCharactersFor opcode text → ¬ Spells characters text) → FailsBy line 3
characters_fail line characters (Announce sign) h n = absurd h
characters_fail line characters (Collect set) h n =
    let u = unwritten (λ (text : List ℕ). Collects set text) 3 (characters_in characters) (λ text e. n text tt (characters_in-Spells characters text e)) in
    (u.0, set_gives line characters set h ∙ ap as_some u.1, u.2)
characters_fail line characters opcode h n = two_characters_fail line characters opcode tt h n

dots_entry : (opcode : Opcode) (text dots : List ℕ) → ¬ IsDotsFor opcode dots → Fails (entry_from opcode text dots) 4
dots_entry (Define class) (c ∷ []) dots n = unwritten _ 4 (cells_in dots) (λ cells e. n (cells, Dots-from_cells_in dots cells e))
dots_entry UpLow (u ∷ l ∷ []) dots n = unwritten _ 4 (pair_in dots) (λ cells e. n (cells.0, cells.1, pair_in-PairDots dots cells.0 cells.1 e))
dots_entry (Replace kind) text dots n = unwritten _ 4 (rule_in dots) (λ cells e. n (cells, rule_in-RuleDots dots cells e))
dots_entry (Announce sign) text dots n = unwritten _ 4 (cells_in dots) (λ cells e. n (cells, Dots-from_cells_in dots cells e))
dots_entry (Collect set) text dots n = (4, refl, lit≤ tt)
dots_entry opcode text dots n = (3, refl, lit≤ tt)

two_dots_fail : (line dots : List ℕ) (opcode : Opcode) → TakesBoth opcode → HasDots line opcode dots → ¬ IsDotsFor opcode dots → FailsBy line 4
two_dots_fail line dots opcode two h n =
    let f = both-HasDots line dots opcode two h in
    let o = by (characters_in f.0) in
    (o.0, two_give line f.0 dots opcode two f.1 ∙ ap as_some o.1, o.2)
  where
    by : (o : Option (List ℕ)) → Fails (entry_of_both opcode (with_dots o dots)) 4
    by None = (3, refl, lit≤ tt)
    by (Some text) = dots_entry opcode text dots n

pub dots_fail : (line dots : List ℕ) (opcode : Opcode) → HasDots line opcode dots → ¬ IsDotsFor opcode dots → FailsBy line 4
dots_fail line dots (Announce sign) h n =
    let o = dots_entry (Announce sign) [] dots n in
    (o.0, one_gives line dots sign h ∙ ap as_some o.1, o.2)
dots_fail line dots (Collect set) h n = absurd h
dots_fail line dots opcode h n = two_dots_fail line dots opcode tt h n

-- ---- limits of operands

-- an operand of the line is beyond its limit, or the line has a smaller cause
abbrev pub IsLargeBy : List ℕ → Type 0
IsLargeBy line = FailsBy line 8 ⊎ ((entry : Entry) × (line_gives line ≡ Ok (Some entry)) × (is_large entry ≡ true))

abbrev IsLargeEntry : Result Entry ℕ → Type 0
IsLargeEntry read = Fails read 8 ⊎ ((entry : Entry) × (read ≡ Ok entry) × (is_large entry ≡ true))

large_line : (line : List ℕ) (read : Result Entry ℕ) → line_gives line ≡ as_some read → IsLargeEntry read → IsLargeBy line
large_line line read e (inl (least, f, le)) = inl (least, e ∙ ap as_some f, le)
large_line line read e (inr (entry, f, h)) = inr (entry, e ∙ ap as_some f, h)

pub or_right : (b c : Bool) → c ≡ true → b || c ≡ true
or_right true c e = refl
or_right false c e = e

pub or_left : (b c : Bool) → b ≡ true → b || c ≡ true
or_left b c e = ap (λ (x : Bool). x || c) e

pub or_cases : (b c : Bool) → b || c ≡ true → (b ≡ true) ⊎ (c ≡ true)
or_cases true c e = inl refl
or_cases false c e = inr e

rule_large : (kind : RuleKind) (text : List ℕ) (o : Option (Option (List ℕ))) → most_rule_characters < length text
    → IsLargeEntry (or_cause 4 (option_map (λ cells. Replaces kind text cells) o))
rule_large kind text None lt = inl (4, refl, lit≤ tt)
rule_large kind text (Some cells) lt = inr (Replaces kind text cells, refl, or_left _ _ (lt-ltb _ _ lt))

long_rule_large : (line characters text : List ℕ) (kind : RuleKind) → HasCharacters line (Replace kind) characters → Spells characters text → most_rule_characters < length text → IsLargeBy line
long_rule_large line characters text kind h s lt =
    elim (with_characters line characters (Replace kind) tt h) [
      | inl e ↦ inl (2, e, lit≤ tt)
      | inr (dots, e) ↦
          large_line line (entry_from (Replace kind) text dots)
          (e ∙ ap (λ (o : Option (List ℕ)). as_some (entry_of_both (Replace kind) (with_dots o dots))) (Spells-characters_in characters text s))
          (rule_large kind text (rule_in dots) lt)
    ]

some_large : {A : Type 0} (f : A → Entry) (o : Option A) (x : A) → o ≡ Some x → is_large (f x) ≡ true → IsLargeEntry (or_cause 4 (option_map f o))
some_large f o x e h = inr (f x, ap (λ p. or_cause 4 (option_map f p)) e, h)

pub many_characters_large : (line characters text : List ℕ) (opcode : Opcode) → HasCharacters line opcode characters → Spells characters text → AreTooManyFor opcode text → IsLargeBy line
many_characters_large line characters text (Replace kind) h s many = long_rule_large line characters text kind h s many
many_characters_large line characters text (Collect set) h s many =
    large_line line _ (set_gives line characters set h)
    (inr (Collects set text, ap (λ p. or_cause 3 (option_map (λ text. Collects set text) p)) (Spells-characters_in characters text s), lt-ltb _ _ many))
many_characters_large line characters text opcode h s many = absurd many

cells_large : (opcode : Opcode) (text dots cells : List ℕ) → WritesCells opcode dots cells → most_cells < length cells → IsLargeEntry (entry_from opcode text dots)
cells_large (Define class) (c ∷ []) dots cells w lt = some_large _ (cells_in dots) cells (cells_in-from_Dots dots cells w) (lt-ltb _ _ lt)
cells_large UpLow (u ∷ l ∷ []) dots cells (upper, lower, d, which) lt =
    some_large (λ (p : List ℕ × List ℕ). Pairs u p.0 l p.1) (pair_in dots) (upper, lower) (PairDots-pair_in dots upper lower d)
    (elim which [
      | inl e ↦ or_left _ _ (lt-ltb _ _ (subst (λ (x : List ℕ). most_cells < length x) e lt))
      | inr e ↦ or_right (are_many upper) _ (lt-ltb _ _ (subst (λ (x : List ℕ). most_cells < length x) e lt))
    ])
cells_large (Replace kind) text dots cells w lt =
    some_large (λ (x : Option (List ℕ)). Replaces kind text x) (rule_in dots) (Some cells) (RuleDots-rule_in dots (Some cells) w)
    (or_right (ltb most_rule_characters (length text)) _ (lt-ltb _ _ lt))
cells_large (Announce sign) text dots cells w lt = some_large _ (cells_in dots) cells (cells_in-from_Dots dots cells w) (lt-ltb _ _ lt)
cells_large (Collect set) text dots cells w lt = absurd w
cells_large opcode text dots cells w lt = inl (3, refl, lit≤ tt)

two_cells_large : (line dots cells : List ℕ) (opcode : Opcode) → TakesBoth opcode → HasDots line opcode dots → WritesCells opcode dots cells → most_cells < length cells → IsLargeBy line
two_cells_large line dots cells opcode two h w lt =
    let f = both-HasDots line dots opcode two h in
    large_line line (entry_of_both opcode (with_dots (characters_in f.0) dots)) (two_give line f.0 dots opcode two f.1) (by (characters_in f.0))
  where
    by : (o : Option (List ℕ)) → IsLargeEntry (entry_of_both opcode (with_dots o dots))
    by None = inl (3, refl, lit≤ tt)
    by (Some text) = cells_large opcode text dots cells w lt

pub many_cells_large : (line dots cells : List ℕ) (opcode : Opcode) → HasDots line opcode dots → WritesCells opcode dots cells → most_cells < length cells → IsLargeBy line
many_cells_large line dots cells (Announce sign) h w lt = search (rules, large_line, one_gives, cells_large)
many_cells_large line dots cells (Collect set) h w lt = absurd h
many_cells_large line dots cells opcode h w lt = two_cells_large line dots cells opcode tt h w lt

-- an entry with an operand beyond its limit is a fault
pub large_fault : (before : List (List ℕ)) (line : List ℕ) (entry : Entry) → GivesEntry WithNumericMode line entry → is_large entry ≡ true → IsFault WithNumericMode before line 8
large_fault before line entry (definition_line class characters dots c cells has h s d e) t =
    many_cells (Define class) dots cells (has_opcode (Define class)) (characters, h) d (ltb-true _ _ (sym (ap is_large e) ∙ t)) refl
large_fault before line entry (pair_line characters dots upper lower upper_cells lower_cells has h s d e) t =
    elim (or_cases (are_many upper_cells) (are_many lower_cells) (sym (ap is_large e) ∙ t)) [
      | inl m ↦ many_cells UpLow dots upper_cells (has_opcode UpLow) (characters, h) (upper_cells, lower_cells, d, inl refl) (ltb-true _ _ m) refl
      | inr m ↦ many_cells UpLow dots lower_cells (has_opcode UpLow) (characters, h) (upper_cells, lower_cells, d, inr refl) (ltb-true _ _ m) refl
    ]
large_fault before line entry (rule_line kind characters dots text cells has h s d e) t =
    elim (or_cases (ltb most_rule_characters (length text)) (are_many_written cells) (sym (ap is_large e) ∙ t)) [
      | inl m ↦ many_characters (Replace kind) characters text (has_opcode (Replace kind)) (front_field line (name_of (Replace kind)) characters dots h) s (ltb-true _ _ m) refl
      | inr m ↦ written cells d m
    ]
  where
    written : (cells : Option (List ℕ)) → RuleDots dots cells → are_many_written cells ≡ true → IsFault WithNumericMode before line 8
    written None d m = absurd cc
    written (Some cells) d m = many_cells (Replace kind) dots cells (has_opcode (Replace kind)) (characters, h) d (ltb-true _ _ m) refl
large_fault before line entry (sign_line sign dots cells has h d e) t =
    many_cells (Announce sign) dots cells (has_opcode (Announce sign)) h d (ltb-true _ _ (sym (ap is_large e) ∙ t)) refl
large_fault before line entry (set_line set characters text has h s e) t =
    many_characters (Collect set) characters text (has_opcode (Collect set)) h s (ltb-true _ _ (sym (ap is_large e) ∙ t)) refl
