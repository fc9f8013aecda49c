-- What a table text means, and what is bad in it.
use Rattle.std.specs.Prelude.{◌≡◌, ◌≢◌, ℕ, ◌+◌, ◌<◌, ◌≤◌, ◌⊎◌, ◌==◌, if◌then◌else◌, List, [], ◌∷◌, ◌++◌, length, map}
use Rattle.std.specs.Prelude.{take, drop, count_by, codes, nat_eq, slice_index, Bool, Option, Some, None, chars, IsUtf8}
use Rattle.std.specs.List.{flat_map, starts_with, Contains}
use Rattle.std.specs.Str.Lossy.{utf8_valid_len}
use Rattle.cell_core.specs.Dots.{Dots, most_cells}
use Rattle.louis_table.specs.declared.definition.Class.{Class}
use Rattle.louis_table.specs.declared.definition.Class.TheVariants.{Letter}
use Rattle.louis_table.specs.declared.definition.Definition.{Definition}
use Rattle.louis_table.specs.declared.rule.RuleKind.{RuleKind}
use Rattle.louis_table.specs.declared.rule.Rule.{Rule}
use Rattle.louis_table.specs.declared.sign.Sign.{Sign}
use Rattle.louis_table.specs.declared.character_set.CharacterSet.{CharacterSet}
use Rattle.louis_table.specs.declared.opcode.Opcode.{Opcode}
use Rattle.louis_table.specs.declared.opcode.Opcode.TheVariants.{Define, UpLow, Replace, Announce, Collect}
use Rattle.louis_table.specs.Lines.{lines_of}
use Rattle.louis_table.specs.Fields.{IsGap, Begins, HasFields}
use Rattle.louis_table.specs.Characters.{Spells}
use Rattle.louis_table.specs.Profile.{Profile, WithNumericMode}
use Rattle.louis_table.specs.Opcode.{name_of, HasOpcode}
use Rattle.louis_table.specs.Meaning.{Meaning, every_sign, sign_place, every_set, set_place, definition_of, fold_of}

-- ---- the limits

-- how many lines a text may have
abbrev pub most_lines : ℕ
most_lines = 20000

-- how many characters a line may have, those of a comment included
abbrev pub most_line_characters : ℕ
most_line_characters = 1000

-- how many characters a rule may have
abbrev pub most_rule_characters : ℕ
most_rule_characters = 60

-- how many characters a set may have
abbrev pub most_set_characters : ℕ
most_set_characters = 60

-- ---- the lines

-- the byte order mark, U+FEFF, in UTF-8
abbrev pub byte_order_mark : List ℕ
byte_order_mark = 0xEF ∷ 0xBB ∷ 0xBF ∷ []

-- the text without one byte order mark at its front
abbrev pub without_byte_order_mark : List ℕ → List ℕ
without_byte_order_mark bytes = if starts_with nat_eq bytes byte_order_mark then drop 3 bytes else bytes

-- the lines of a table text, each as its characters
abbrev pub text_lines : List ℕ → List (List ℕ)
text_lines bytes = map chars (lines_of (without_byte_order_mark bytes))

-- ---- operands

-- the characters that a characters operand spells for an opcode: one to define, two for `uplow`,
-- any number to replace or for a set
abbrev pub AreCharactersFor : Opcode → List ℕ → Type 0
AreCharactersFor (Define class) characters = length characters ≡ 1
AreCharactersFor UpLow characters = length characters ≡ 2
AreCharactersFor (Replace kind) characters = Unit {0}
AreCharactersFor (Announce sign) characters = ⊥
AreCharactersFor (Collect set) characters = Unit {0}

-- the opcode and this characters operand stand at the front of the line
abbrev pub HasCharacters : List ℕ → Opcode → List ℕ → Type 0
HasCharacters line (Define class) characters = HasFields line (name_of (Define class) ∷ characters ∷ [])
HasCharacters line UpLow characters = HasFields line (name_of UpLow ∷ characters ∷ [])
HasCharacters line (Replace kind) characters = HasFields line (name_of (Replace kind) ∷ characters ∷ [])
HasCharacters line (Announce sign) characters = ⊥
HasCharacters line (Collect set) characters = HasFields line (name_of (Collect set) ∷ characters ∷ [])

-- the opcode, a characters operand and this dots operand stand at the front of the line
abbrev pub HasBoth : List ℕ → Opcode → List ℕ → Type 0
HasBoth line opcode dots = (characters : List ℕ) × HasFields line (name_of opcode ∷ characters ∷ dots ∷ [])

-- the opcode and its operands up to this dots operand stand at the front of the line
abbrev pub HasDots : List ℕ → Opcode → List ℕ → Type 0
HasDots line (Define class) dots = HasBoth line (Define class) dots
HasDots line UpLow dots = HasBoth line UpLow dots
HasDots line (Replace kind) dots = HasBoth line (Replace kind) dots
HasDots line (Announce sign) dots = HasFields line (name_of (Announce sign) ∷ dots ∷ [])
HasDots line (Collect set) dots = ⊥

-- the opcode and all its operands stand at the front of the line
abbrev pub HasOperands : List ℕ → Opcode → Type 0
HasOperands line (Define class) = (dots : List ℕ) × HasDots line (Define class) dots
HasOperands line UpLow = (dots : List ℕ) × HasDots line UpLow dots
HasOperands line (Replace kind) = (dots : List ℕ) × HasDots line (Replace kind) dots
HasOperands line (Announce sign) = (dots : List ℕ) × HasDots line (Announce sign) dots
HasOperands line (Collect set) = (characters : List ℕ) × HasCharacters line (Collect set) characters

-- the characters are too many; if an opcode takes one or two, any others aren't its operand
abbrev pub AreTooManyFor : Opcode → List ℕ → Type 0
AreTooManyFor (Define class) characters = ⊥
AreTooManyFor UpLow characters = ⊥
AreTooManyFor (Replace kind) characters = most_rule_characters < length characters
AreTooManyFor (Announce sign) characters = ⊥
AreTooManyFor (Collect set) characters = most_set_characters < length characters

-- the dots of an upper and a lower character: one operand for both, or two joined by a comma
abbrev pub PairDots : List ℕ → List ℕ → List ℕ → Type 0
PairDots dots upper lower =
    (Dots dots upper × (lower ≡ upper))
    ⊎ ((first : List ℕ) × (second : List ℕ) × (dots ≡ first ++ 44 ∷ second) × Dots first upper × Dots second lower)

-- the dots of a rule: its cells, or an equals sign in place of those of its characters' definitions
abbrev pub RuleDots : List ℕ → Option (List ℕ) → Type 0
RuleDots dots None = dots ≡ codes "="
RuleDots dots (Some cells) = Dots dots cells

-- the dots operand is of the form that the opcode takes
abbrev pub IsDotsFor : Opcode → List ℕ → Type 0
IsDotsFor (Define class) dots = (cells : List ℕ) × Dots dots cells
IsDotsFor UpLow dots = (upper : List ℕ) × (lower : List ℕ) × PairDots dots upper lower
IsDotsFor (Replace kind) dots = (cells : Option (List ℕ)) × RuleDots dots cells
IsDotsFor (Announce sign) dots = (cells : List ℕ) × Dots dots cells
IsDotsFor (Collect set) dots = ⊥

-- these cells are written in the dots operand of the opcode
abbrev pub WritesCells : Opcode → List ℕ → List ℕ → Type 0
WritesCells (Define class) dots cells = Dots dots cells
WritesCells UpLow dots cells =
    (upper : List ℕ) × (lower : List ℕ) × PairDots dots upper lower × ((cells ≡ upper) ⊎ (cells ≡ lower))
WritesCells (Replace kind) dots cells = Dots dots cells
WritesCells (Announce sign) dots cells = Dots dots cells
WritesCells (Collect set) dots cells = ⊥

-- ---- what a line says

-- the field begins a comment
abbrev pub IsComment : List ℕ → Type 0
IsComment field = slice_index field 0 ≡ 35

-- the line has no field, or is a comment
pub data SaysNothing (line : List ℕ) : Type 0 where
  blank : IsGap line → SaysNothing line
  comment : (field rest : List ℕ) → Begins line field rest → IsComment field → SaysNothing line

-- what a line gives to its table: a definition; an upper and a lower character, each with its
-- cells; a rule, with no cells if it has an equals sign; the cells of a sign; the characters of a
-- set
pub data Entry : Type 0 where
  Defines : ℕ → Definition → Entry
  Pairs : ℕ → List ℕ → ℕ → List ℕ → Entry
  Replaces : RuleKind → List ℕ → Option (List ℕ) → Entry
  Announces : Sign → List ℕ → Entry
  Collects : CharacterSet → List ℕ → Entry

-- ---- the table that entries make

-- the characters that an entry defines, with their definitions; both of a pair are letters
abbrev pub definitions_in : Entry → List (ℕ × Definition)
definitions_in (Defines character defined) = (character, defined) ∷ []
definitions_in (Pairs upper upper_cells lower lower_cells) =
    (upper, record { class = Letter; cells = upper_cells })
    ∷ (lower, record { class = Letter; cells = lower_cells }) ∷ []
definitions_in (Replaces kind text cells) = []
definitions_in (Announces sign cells) = []
definitions_in (Collects set text) = []

-- the capital of an entry with its lower character
abbrev pub partners_in : Entry → List (ℕ × ℕ)
partners_in (Defines character defined) = []
partners_in (Pairs upper upper_cells lower lower_cells) = (upper, lower) ∷ []
partners_in (Replaces kind text cells) = []
partners_in (Announces sign cells) = []
partners_in (Collects set text) = []

-- the two signs are the same
abbrev pub is_same_sign : Sign → Sign → Bool
is_same_sign one other = nat_eq (sign_place one) (sign_place other)

-- the two sets are the same
abbrev pub is_same_set : CharacterSet → CharacterSet → Bool
is_same_set one other = nat_eq (set_place one) (set_place other)

-- the cells that an entry gives to the sign
abbrev pub cells_for : Sign → Entry → List ℕ
cells_for sign (Defines character defined) = []
cells_for sign (Pairs upper upper_cells lower lower_cells) = []
cells_for sign (Replaces kind text cells) = []
cells_for sign (Announces other cells) = if is_same_sign sign other then cells else []
cells_for sign (Collects set text) = []

-- the characters that an entry gives to the set
abbrev pub characters_for : CharacterSet → Entry → List ℕ
characters_for set (Defines character defined) = []
characters_for set (Pairs upper upper_cells lower lower_cells) = []
characters_for set (Replaces kind text cells) = []
characters_for set (Announces sign cells) = []
characters_for set (Collects other text) = if is_same_set set other then text else []

-- the cells of a character's definition
abbrev pub cells_in_definition : Option Definition → List ℕ
cells_in_definition None = []
cells_in_definition (Some defined) = defined.cells

-- the cells of a rule: those written, or for an equals sign those of the definitions of its folded
-- characters
abbrev pub rule_cells : Meaning → List ℕ → Option (List ℕ) → List ℕ
rule_cells meaning text (Some cells) = cells
rule_cells meaning text None = flat_map (λ c. cells_in_definition (definition_of meaning c)) text

-- the rule of a line's entry, its characters folded
abbrev pub rules_in : Meaning → ℕ × Entry → List Rule
rules_in meaning (n, Defines character defined) = []
rules_in meaning (n, Pairs upper upper_cells lower lower_cells) = []
rules_in meaning (n, Replaces kind text cells) =
    record {
      line = n;
      kind = kind;
      chars = map (fold_of meaning) text;
      cells = rule_cells meaning (map (fold_of meaning) text) cells;
    } ∷ []
rules_in meaning (n, Announces sign cells) = []
rules_in meaning (n, Collects set text) = []

-- the meaning has all that the entries give, in their order, and nothing else: rules with their
-- characters folded, and sets of characters as they are written
pub record IsMadeOf (entries : List (ℕ × Entry)) (meaning : Meaning) : Type 0 where
  pub definitions : meaning.definitions ≡ flat_map (λ e. definitions_in e.1) entries
  pub partners : meaning.partners ≡ flat_map (λ e. partners_in e.1) entries
  pub rules : meaning.rules ≡ flat_map (rules_in meaning) entries
  pub signs : meaning.signs ≡ map (λ sign. flat_map (λ e. cells_for sign e.1) entries) every_sign
  pub sets : meaning.sets ≡ map (λ set. flat_map (λ e. characters_for set e.1) entries) every_set

-- ---- what is bad in entries

-- the entry defines the character
abbrev pub IsDefinedIn : ℕ → Entry → Type 0
IsDefinedIn character entry = Contains (map (λ d. d.0) (definitions_in entry)) character

-- the other entry gives the same sign or the same set, which may be given only once
abbrev pub GivesAgain : Entry → Entry → Type 0
GivesAgain (Defines character defined) other = ⊥
GivesAgain (Pairs upper upper_cells lower lower_cells) other = ⊥
GivesAgain (Replaces kind text cells) other = ⊥
GivesAgain (Announces sign cells) other = (others : List ℕ) × (other ≡ Announces sign others)
GivesAgain (Collects set text) other = (others : List ℕ) × (other ≡ Collects set others)

-- a folded character of the entry's rule is not defined, or a character of its set as it is written
abbrev pub IsLacking : Meaning → Entry → Type 0
IsLacking meaning (Defines character defined) = ⊥
IsLacking meaning (Pairs upper upper_cells lower lower_cells) = ⊥
IsLacking meaning (Replaces kind text cells) =
    (character : ℕ) × Contains text character × (definition_of meaning (fold_of meaning character) ≡ None)
IsLacking meaning (Announces sign cells) = ⊥
IsLacking meaning (Collects set text) =
    (character : ℕ) × Contains text character × (definition_of meaning character ≡ None)

-- ---- which fault is reported

-- a fault of line n is reported no later than one of line m: the smaller line first, and for the
-- same line the smaller cause
abbrev pub IsReportedNoLater : ℕ → ℕ → ℕ → ℕ → Type 0
IsReportedNoLater n cause m other = (n < m) ⊎ ((n ≡ m) × (cause ≤ other))

-- the line on which bytes stop being UTF-8: one more than the line feeds in their longest front
-- that is UTF-8
abbrev pub line_of_stop : List ℕ → ℕ
line_of_stop bytes = count_by (λ b. b == 10) (take (utf8_valid_len bytes) bytes) + 1

-- ---- by a profile

module _ (profile : Profile) where
  -- ---- lines

  -- the line is of a form of the profile that gives the entry; what follows its last operand is a
  -- comment
  pub data GivesEntry (line : List ℕ) (entry : Entry) : Type 0 where
    definition_line : (class : Class) (characters dots : List ℕ) (character : ℕ) (cells : List ℕ)
        → HasOpcode profile (Define class) → HasFields line (name_of (Define class) ∷ characters ∷ dots ∷ [])
        → Spells characters (character ∷ []) → Dots dots cells
        → entry ≡ Defines character (record { class = class; cells = cells }) → GivesEntry line entry
    pair_line : (characters dots : List ℕ) (upper lower : ℕ) (upper_cells lower_cells : List ℕ)
        → HasOpcode profile UpLow → HasFields line (name_of UpLow ∷ characters ∷ dots ∷ [])
        → Spells characters (upper ∷ lower ∷ []) → PairDots dots upper_cells lower_cells
        → entry ≡ Pairs upper upper_cells lower lower_cells → GivesEntry line entry
    rule_line : (kind : RuleKind) (characters dots text : List ℕ) (cells : Option (List ℕ))
        → HasOpcode profile (Replace kind) → HasFields line (name_of (Replace kind) ∷ characters ∷ dots ∷ [])
        → Spells characters text → RuleDots dots cells
        → entry ≡ Replaces kind text cells → GivesEntry line entry
    sign_line : (sign : Sign) (dots cells : List ℕ)
        → HasOpcode profile (Announce sign) → HasFields line (name_of (Announce sign) ∷ dots ∷ []) → Dots dots cells
        → entry ≡ Announces sign cells → GivesEntry line entry
    set_line : (set : CharacterSet) (characters text : List ℕ)
        → HasOpcode profile (Collect set) → HasFields line (name_of (Collect set) ∷ characters ∷ [])
        → Spells characters text → entry ≡ Collects set text → GivesEntry line entry

  -- these entries and no others are what the lines from number n on give, each with its line's
  -- number
  abbrev pub GiveFrom : ℕ → List (List ℕ) → List (ℕ × Entry) → Type 0
  GiveFrom n [] entries = entries ≡ []
  GiveFrom n (line ∷ lines) entries =
      (SaysNothing line × GiveFrom (n + 1) lines entries)
      ⊎ ((entry : Entry) × (rest : List (ℕ × Entry)) × GivesEntry line entry × (entries ≡ (n, entry) ∷ rest)
      × GiveFrom (n + 1) lines rest)

  -- one of the lines gives an entry of which this holds
  abbrev pub SomeGives : List (List ℕ) → (Entry → Type 0) → Type 0
  SomeGives lines Holds =
      (line : List ℕ) × (entry : Entry) × Contains lines line × GivesEntry line entry × Holds entry

  -- ---- faults

  -- the line, after the lines before it, has a fault with this cause; only lines that give an entry
  -- count as repetitions: a line that says something and gives none has a cause from 1 to 4 of its
  -- own
  pub data IsFault (before : List (List ℕ)) (line : List ℕ) (cause : ℕ) : Type 0 where
    -- the first field isn't an opcode of the profile
    unknown_opcode : (field rest : List ℕ) → Begins line field rest → ¬ IsComment field
        → ((opcode : Opcode) → HasOpcode profile opcode → field ≢ name_of opcode)
        → cause ≡ 1 → IsFault before line cause
    -- the line lacks one of its operands
    missing_operand : (opcode : Opcode) (rest : List ℕ) → HasOpcode profile opcode → Begins line (name_of opcode) rest
        → ¬ HasOperands line opcode → cause ≡ 2 → IsFault before line cause
    -- the characters operand isn't of the form that the opcode takes
    bad_characters : (opcode : Opcode) (characters : List ℕ)
        → HasOpcode profile opcode → HasCharacters line opcode characters
        → ((text : List ℕ) → AreCharactersFor opcode text → ¬ Spells characters text)
        → cause ≡ 3 → IsFault before line cause
    -- the dots operand isn't of the form that the opcode takes
    bad_dots : (opcode : Opcode) (dots : List ℕ) → HasOpcode profile opcode → HasDots line opcode dots
        → ¬ IsDotsFor opcode dots → cause ≡ 4 → IsFault before line cause
    -- an earlier line defines a character of this one, or this one defines it twice
    defined_before : (entry : Entry) (character : ℕ) → GivesEntry line entry → IsDefinedIn character entry
        → SomeGives before (IsDefinedIn character) → cause ≡ 5 → IsFault before line cause
    defined_twice : (character : ℕ) (upper_cells lower_cells : List ℕ)
        → GivesEntry line (Pairs character upper_cells character lower_cells)
        → cause ≡ 5 → IsFault before line cause
    -- an earlier line gives the sign or the set too
    given_before : (entry : Entry) → GivesEntry line entry → SomeGives before (GivesAgain entry)
        → cause ≡ 6 → IsFault before line cause
    -- the line is too long or one too many, an operand has too many characters, or too many written
    -- cells
    long_line : most_line_characters < length line → cause ≡ 8 → IsFault before line cause
    line_too_many : most_lines ≤ length before → cause ≡ 8 → IsFault before line cause
    many_characters : (opcode : Opcode) (characters text : List ℕ)
        → HasOpcode profile opcode → HasCharacters line opcode characters
        → Spells characters text → AreTooManyFor opcode text → cause ≡ 8 → IsFault before line cause
    many_cells : (opcode : Opcode) (dots cells : List ℕ) → HasOpcode profile opcode → HasDots line opcode dots
        → WritesCells opcode dots cells → most_cells < length cells → cause ≡ 8 → IsFault before line cause

  -- line n of the lines, counted from 1, has a fault with this cause
  pub data HasCause (lines : List (List ℕ)) (n cause : ℕ) : Type 0 where
    on_line : (before : List (List ℕ)) (line : List ℕ) (after : List (List ℕ)) → lines ≡ before ++ line ∷ after
        → n ≡ length before + 1 → IsFault before line cause → HasCause lines n cause

  -- ---- the whole text

  -- the text is bad in the profile: line n is reported, with this cause
  pub data BadIn (bytes : List ℕ) (n cause : ℕ) : Type 0 where
    no_text : ¬ IsUtf8 bytes → n ≡ line_of_stop bytes → cause ≡ 9 → BadIn bytes n cause
    bad_line : IsUtf8 bytes → HasCause (text_lines bytes) n cause
        → ((m other : ℕ) → HasCause (text_lines bytes) m other → IsReportedNoLater n cause m other)
        → BadIn bytes n cause
    undefined_character : IsUtf8 bytes → ((m other : ℕ) → ¬ HasCause (text_lines bytes) m other)
        → (entries : List (ℕ × Entry)) (meaning : Meaning)
        → GiveFrom 1 (text_lines bytes) entries → IsMadeOf entries meaning
        → (entry : Entry) → Contains entries (n, entry) → IsLacking meaning entry
        → ((m : ℕ) (other : Entry) → Contains entries (m, other) → IsLacking meaning other → n ≤ m)
        → cause ≡ 7 → BadIn bytes n cause

  -- the text is a table of the profile with this meaning: what its lines give, and nothing else
  pub record MeansIn (bytes : List ℕ) (meaning : Meaning) : Type 0 where
    pub is_text : IsUtf8 bytes
    pub is_sound : (n cause : ℕ) → ¬ HasCause (text_lines bytes) n cause
    pub entries : List (ℕ × Entry)
    pub given : GiveFrom 1 (text_lines bytes) entries
    pub made : IsMadeOf entries meaning
    pub is_complete : (n : ℕ) (entry : Entry) → Contains entries (n, entry) → ¬ IsLacking meaning entry

-- ---- tables with numeric mode, which the crate reads

-- The text is bad, and line n is reported with this cause: by cause 9 if it isn't UTF-8, else by
-- the first line that has a cause, with its smallest, and if none has one, by cause 7 on the first
-- line with a character that no line defines.
abbrev pub Bad : List ℕ → ℕ → ℕ → Type 0
Bad = BadIn WithNumericMode

-- the text is a table with this meaning; each list of bytes has exactly one meaning, or one line
-- and cause
abbrev pub Means : List ℕ → Meaning → Type 0
Means = MeansIn WithNumericMode
