-- What is a table without numeric mode is the same table with it.
use Rattle.std.proofs.Common.{◌≡◌, ℕ, ◌+◌, Bool, false, cond, List, [], ◌∷◌, ◌++◌, None, Result, Ok, Err, Contains, refl, sym, ap, subst, ◌∙◌, ◌⊎◌, inl, inr, arith, rules, flat_map}
use Rattle.std.proofs.lemmas.List.Elements.{Contains-append_left, Contains-append_right, Contains-append_cases}
use Rattle.louis_table.specs.declared.character_set.CharacterSet.{CharacterSet}
use Rattle.louis_table.specs.declared.character_set.CharacterSet.TheVariants as sets
use Rattle.louis_table.specs.declared.opcode.Opcode.{Opcode}
use Rattle.louis_table.specs.declared.opcode.Opcode.TheVariants.{Define, UpLow, Replace, Announce, Collect}
use Rattle.louis_table.specs.declared.sign.Sign.{Sign}
use Rattle.louis_table.specs.declared.sign.Sign.TheVariants.{NoContraction}
use Rattle.louis_table.specs.Fields.{Begins}
use Rattle.louis_table.specs.Meaning.{Meaning, sign_cells, set_characters}
use Rattle.louis_table.specs.Opcode.{name_of, HasOpcode}
use Rattle.louis_table.specs.Profile.{Profile, WithoutNumericMode, WithNumericMode}
use Rattle.louis_table.specs.Steps.Line.{as_some}
use Rattle.louis_table.specs.Table.{Entry, SaysNothing, GivesEntry, definition_line, pair_line, rule_line, sign_line, set_line, GiveFrom, SomeGives, cells_for, characters_for, is_same_sign, HasCharacters, HasDots, IsFault, unknown_opcode, missing_operand, bad_characters, bad_dots, defined_before, defined_twice, given_before, long_line, line_too_many, many_characters, many_cells, HasCause, on_line, text_lines, Means, MeansIn}
use Rattle.louis_table.proofs.FieldLaws.{Begins-field_at}
use Rattle.louis_table.proofs.EntryLaws.{has_opcode, opcode_line, line_gives-nothing}
use Rattle.louis_table.proofs.MeaningLaws.{sign_cells-map, set_characters-map}
use Rattle.louis_table.proofs.VerdictLaws.{only_one}
use Rattle.louis_table.proofs.OneMeaning.{in_last}

-- the line says nothing, or gives an entry without numeric mode
abbrev pub IsEarly : List ℕ → Type 0
IsEarly line = SaysNothing line ⊎ ((entry : Entry) × GivesEntry WithoutNumericMode line entry)

-- no later opcode stands at the front of the line
abbrev pub StartsEarly : List ℕ → Type 0
StartsEarly line = (opcode : Opcode) (rest : List ℕ) → Begins line (name_of opcode) rest → HasOpcode WithoutNumericMode opcode

-- ---- the opcodes of such lines

pub same_opcode : (one other : Opcode) → name_of one ≡ name_of other → one ≡ other
same_opcode one other e = search rules

-- a line that gives an entry begins with an opcode of the profile
begins_with : (profile : Profile) (line : List ℕ) (entry : Entry) → GivesEntry profile line entry
    → (opcode : Opcode) × (rest : List ℕ) × HasOpcode profile opcode × Begins line (name_of opcode) rest
begins_with profile line entry (definition_line class characters dots c cells has h s d e) = (Define class, h.0, has, h.1)
begins_with profile line entry (pair_line characters dots upper lower upper_cells lower_cells has h s d e) = (UpLow, h.0, has, h.1)
begins_with profile line entry (rule_line kind characters dots text cells has h s d e) = (Replace kind, h.0, has, h.1)
begins_with profile line entry (sign_line sign dots cells has h d e) = (Announce sign, h.0, has, h.1)
begins_with profile line entry (set_line set characters text has h s e) = (Collect set, h.0, has, h.1)

pub not_nothing : (read : Result Entry ℕ) → as_some read ≡ Ok None → ⊥
not_nothing (Ok entry) e = cc
not_nothing (Err cause) e = cc

-- such a line begins with no later opcode
starts_early : (line : List ℕ) → IsEarly line → StartsEarly line
starts_early line (inl nothing) opcode rest b = absurd (not_nothing _ (sym (opcode_line line rest opcode b) ∙ line_gives-nothing line nothing))
starts_early line (inr (entry, gives)) opcode rest b =
    let first = begins_with WithoutNumericMode line entry gives in
    let names : name_of first.0 ≡ name_of opcode = sym (Begins-field_at line (name_of first.0) first.1 first.3).0 ∙ (Begins-field_at line (name_of opcode) rest b).0 in
    subst (HasOpcode WithoutNumericMode) (same_opcode first.0 opcode names) first.2

characters_begin : (line characters : List ℕ) (opcode : Opcode) → HasCharacters line opcode characters → (rest : List ℕ) × Begins line (name_of opcode) rest
characters_begin line characters (Announce sign) h = absurd h
characters_begin line characters opcode h = (h.0, h.1)

dots_begin : (line dots : List ℕ) (opcode : Opcode) → HasDots line opcode dots → (rest : List ℕ) × Begins line (name_of opcode) rest
dots_begin line dots (Define class) (characters, h) = (h.0, h.1)
dots_begin line dots UpLow (characters, h) = (h.0, h.1)
dots_begin line dots (Replace kind) (characters, h) = (h.0, h.1)
dots_begin line dots (Announce sign) h = (h.0, h.1)
dots_begin line dots (Collect set) h = absurd h

-- what such a line gives, it gives without numeric mode
pub early_entry : (line : List ℕ) (entry : Entry) → StartsEarly line → GivesEntry WithNumericMode line entry → GivesEntry WithoutNumericMode line entry
early_entry line entry early (definition_line class characters dots c cells has h s d e) =
    definition_line class characters dots c cells (early (Define class) h.0 h.1) h s d e
early_entry line entry early (pair_line characters dots upper lower upper_cells lower_cells has h s d e) =
    pair_line characters dots upper lower upper_cells lower_cells (early UpLow h.0 h.1) h s d e
early_entry line entry early (rule_line kind characters dots text cells has h s d e) =
    rule_line kind characters dots text cells (early (Replace kind) h.0 h.1) h s d e
early_entry line entry early (sign_line sign dots cells has h d e) = sign_line sign dots cells (early (Announce sign) h.0 h.1) h d e
early_entry line entry early (set_line set characters text has h s e) = set_line set characters text (early (Collect set) h.0 h.1) h s e

-- ---- faults of such lines

module _ (before : List (List ℕ)) (line : List ℕ) (others : (other : List ℕ) → Contains before other → StartsEarly other) (early : StartsEarly line) where
  early_some : (Holds : Entry → Type 0) → SomeGives WithNumericMode before Holds → SomeGives WithoutNumericMode before Holds
  early_some Holds (other, entry, m, gives, h) = (other, entry, m, early_entry other entry (others other m) gives, h)

  by_characters : (characters : List ℕ) (opcode : Opcode) → HasCharacters line opcode characters → HasOpcode WithoutNumericMode opcode
  by_characters characters opcode h = let b = characters_begin line characters opcode h in early opcode b.0 b.1

  by_dots : (dots : List ℕ) (opcode : Opcode) → HasDots line opcode dots → HasOpcode WithoutNumericMode opcode
  by_dots dots opcode h = let b = dots_begin line dots opcode h in early opcode b.0 b.1

  pub early_fault : (cause : ℕ) → IsFault WithNumericMode before line cause → IsFault WithoutNumericMode before line cause
  early_fault cause (unknown_opcode field rest b n u e) = unknown_opcode field rest b n (λ opcode has. u opcode (has_opcode opcode)) e
  early_fault cause (missing_operand opcode rest has b n e) = missing_operand opcode rest (early opcode rest b) b n e
  early_fault cause (bad_characters opcode characters has h n e) = bad_characters opcode characters (by_characters characters opcode h) h n e
  early_fault cause (bad_dots opcode dots has h n e) = bad_dots opcode dots (by_dots dots opcode h) h n e
  early_fault cause (defined_before entry c g i s e) = defined_before entry c (early_entry line entry early g) i (early_some _ s) e
  early_fault cause (defined_twice c upper_cells lower_cells g e) = defined_twice c upper_cells lower_cells (early_entry line _ early g) e
  early_fault cause (given_before entry g s e) = given_before entry (early_entry line entry early g) (early_some _ s) e
  early_fault cause (long_line h e) = long_line h e
  early_fault cause (line_too_many h e) = line_too_many h e
  early_fault cause (many_characters opcode characters text has h s many e) = many_characters opcode characters text (by_characters characters opcode h) h s many e
  early_fault cause (many_cells opcode dots cells has h w lt e) = many_cells opcode dots cells (by_dots dots opcode h) h w lt e

  late_some : (Holds : Entry → Type 0) → SomeGives WithoutNumericMode before Holds → SomeGives WithNumericMode before Holds
  late_some Holds (other, entry, m, gives, h) = (other, entry, m, in_last WithoutNumericMode other entry gives, h)

  -- and the other way round
  pub late_fault : (cause : ℕ) → IsFault WithoutNumericMode before line cause → IsFault WithNumericMode before line cause
  late_fault cause (unknown_opcode field rest b n u e) =
      unknown_opcode field rest b n (λ opcode has same. u opcode (early opcode rest (subst (λ (f : List ℕ). Begins line f rest) same b)) same) e
  late_fault cause (missing_operand opcode rest has b n e) = missing_operand opcode rest (has_opcode opcode) b n e
  late_fault cause (bad_characters opcode characters has h n e) = bad_characters opcode characters (has_opcode opcode) h n e
  late_fault cause (bad_dots opcode dots has h n e) = bad_dots opcode dots (has_opcode opcode) h n e
  late_fault cause (defined_before entry c g i s e) = defined_before entry c (in_last WithoutNumericMode line entry g) i (late_some _ s) e
  late_fault cause (defined_twice c upper_cells lower_cells g e) = defined_twice c upper_cells lower_cells (in_last WithoutNumericMode line _ g) e
  late_fault cause (given_before entry g s e) = given_before entry (in_last WithoutNumericMode line entry g) (late_some _ s) e
  late_fault cause (long_line h e) = long_line h e
  late_fault cause (line_too_many h e) = line_too_many h e
  late_fault cause (many_characters opcode characters text has h s many e) = many_characters opcode characters text (has_opcode opcode) h s many e
  late_fault cause (many_cells opcode dots cells has h w lt e) = many_cells opcode dots cells (has_opcode opcode) h w lt e

pub early_cause : (lines : List (List ℕ)) (n cause : ℕ) → ((line : List ℕ) → Contains lines line → StartsEarly line) → HasCause WithNumericMode lines n cause → HasCause WithoutNumericMode lines n cause
early_cause lines n cause early (on_line before line after e at f) =
    on_line before line after e at
    (early_fault before line
    (λ other m. early other (subst (λ (ls : List (List ℕ)). Contains ls other) (sym e) (Contains-append_left before (line ∷ after) other m)))
    (early line (subst (λ (ls : List (List ℕ)). Contains ls line) (sym e) (Contains-append_right before (line ∷ after) line (Contains-append_left (line ∷ []) after line (0, omega arith, refl)))))
    cause f)

-- ---- lines that give entries without numeric mode

pub all_early : (n : ℕ) (lines : List (List ℕ)) (entries : List (ℕ × Entry)) → GiveFrom WithoutNumericMode n lines entries → (line : List ℕ) → Contains lines line → IsEarly line
all_early n [] entries g line (k, lt, e) = absurd (omega arith)
all_early n (first ∷ lines) entries (inl (s, g)) line m =
    elim (Contains-append_cases (first ∷ []) lines line m) [
      | inl here ↦ subst IsEarly (only_one first line here) (inl s)
      | inr there ↦ all_early (n + 1) lines entries g line there
    ]
all_early n (first ∷ lines) entries (inr (entry, rest, gives, e, g)) line m =
    elim (Contains-append_cases (first ∷ []) lines line m) [
      | inl here ↦ subst IsEarly (only_one first line here) (inr (entry, gives))
      | inr there ↦ all_early (n + 1) lines rest g line there
    ]

all_in_last : (profile : Profile) (n : ℕ) (lines : List (List ℕ)) (entries : List (ℕ × Entry)) → GiveFrom profile n lines entries → GiveFrom WithNumericMode n lines entries
all_in_last profile n [] entries g = g
all_in_last profile n (line ∷ lines) entries (inl (s, g)) = inl (s, all_in_last profile (n + 1) lines entries g)
all_in_last profile n (line ∷ lines) entries (inr (entry, rest, gives, e, g)) = inr (entry, rest, in_last profile line entry gives, e, all_in_last profile (n + 1) lines rest g)

-- what no such line gives, the lines don't give together
none_together : (f : Entry → List ℕ) → ((line : List ℕ) (entry : Entry) → GivesEntry WithoutNumericMode line entry → f entry ≡ [])
    → (n : ℕ) (lines : List (List ℕ)) (entries : List (ℕ × Entry)) → GiveFrom WithoutNumericMode n lines entries → flat_map (λ e. f e.1) entries ≡ []
none_together f none n [] entries g = ap (flat_map (λ e. f e.1)) g
none_together f none n (line ∷ lines) entries (inl (s, g)) = none_together f none (n + 1) lines entries g
none_together f none n (line ∷ lines) entries (inr (entry, rest, gives, e, g)) =
    ap (flat_map (λ e. f e.1)) e
    ∙ (ap (λ (xs : List ℕ). xs ++ flat_map (λ e. f e.1) rest) (none line entry gives) ∙ none_together f none (n + 1) lines rest g)

other_sign : (sign : Sign) → HasOpcode WithoutNumericMode (Announce sign) → is_same_sign NoContraction sign ≡ false
other_sign sign has = search rules

no_set : (set : CharacterSet) → ¬ HasOpcode WithoutNumericMode (Collect set)
no_set sets.NumericMode has = has
no_set sets.NoContraction has = has

no_cells : (line : List ℕ) (entry : Entry) → GivesEntry WithoutNumericMode line entry → cells_for NoContraction entry ≡ []
no_cells line entry (definition_line class characters dots c cells has h s d e) = ap (cells_for NoContraction) e
no_cells line entry (pair_line characters dots upper lower upper_cells lower_cells has h s d e) = ap (cells_for NoContraction) e
no_cells line entry (rule_line kind characters dots text cells has h s d e) = ap (cells_for NoContraction) e
no_cells line entry (sign_line sign dots cells has h d e) = ap (cells_for NoContraction) e ∙ ap (λ (b : Bool). cond b cells []) (other_sign sign has)
no_cells line entry (set_line set characters text has h s e) = absurd (no_set set has)

no_characters : (set : CharacterSet) (line : List ℕ) (entry : Entry) → GivesEntry WithoutNumericMode line entry → characters_for set entry ≡ []
no_characters set line entry (definition_line class characters dots c cells has h s d e) = ap (characters_for set) e
no_characters set line entry (pair_line characters dots upper lower upper_cells lower_cells has h s d e) = ap (characters_for set) e
no_characters set line entry (rule_line kind characters dots text cells has h s d e) = ap (characters_for set) e
no_characters set line entry (sign_line sign dots cells has h d e) = ap (characters_for set) e
no_characters set line entry (set_line other characters text has h s e) = absurd (no_set other has)

-- ---- tables

pub same_with_numeric_mode : (bytes : List ℕ) (t : Meaning) → MeansIn WithoutNumericMode bytes t → Means bytes t
same_with_numeric_mode bytes t m =
    record {
      is_text = m.is_text;
      is_sound = λ n cause h. m.is_sound n cause (early_cause (text_lines bytes) n cause (λ line c. starts_early line (all_early 1 (text_lines bytes) m.entries m.given line c)) h);
      entries = m.entries;
      given = all_in_last WithoutNumericMode 1 (text_lines bytes) m.entries m.given;
      made = m.made;
      is_complete = m.is_complete;
    }

pub nothing_of_numeric_mode : (bytes : List ℕ) (t : Meaning) → MeansIn WithoutNumericMode bytes t → (sign_cells t NoContraction ≡ []) × ((set : CharacterSet) → set_characters t set ≡ [])
nothing_of_numeric_mode bytes t m = (
  sign_cells-map t (λ sign. flat_map (λ e. cells_for sign e.1) m.entries) m.made.signs NoContraction
      ∙ none_together (cells_for NoContraction) no_cells 1 (text_lines bytes) m.entries m.given,
  λ set.
      set_characters-map t (λ set. flat_map (λ e. characters_for set e.1) m.entries) m.made.sets set
      ∙ none_together (characters_for set) (no_characters set) 1 (text_lines bytes) m.entries m.given,
)
