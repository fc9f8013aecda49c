-- What the steps of reading a line come to.
use Rattle.std.proofs.Common.{◌≡◌, ◌≢◌, ℕ, Bool, true, false, ◌||◌, eqb, List, [], ◌∷◌, length, get_or, Option, Some, None, option_map, Result, Ok, Err, codes, refl, sym, ap, subst, ◌∙◌, ◌<◌, ◌≤◌, ◌⊎◌, inl, inr, arith, true≢false, rules, IsErrAnd, encode_utf8_all, bytes_eq}
use Rattle.std.specs.Option.{ok_or, option_zip}
use Rattle.std.proofs.lemmas.Bool.{eq-eqb, ne_eqb, eqb-true, cond-true, cond-false}
use Rattle.std.proofs.lemmas.List.{nil_from_length}
use Rattle.cell_core.specs.Dots.{Dots}
use Rattle.cell_core.specs.Reading.{cells_in}
use Rattle.cell_core.proofs.DotsLaws.{Dots-from_cells_in, cells_in-from_Dots, Dots-encoded}
use Rattle.louis_table.specs.declared.definition.Class.{Class}
use Rattle.louis_table.specs.declared.rule.RuleKind.{RuleKind}
use Rattle.louis_table.specs.declared.sign.Sign.{Sign}
use Rattle.louis_table.specs.declared.character_set.CharacterSet.{CharacterSet}
use Rattle.louis_table.specs.declared.opcode.Opcode.{Opcode}
use Rattle.louis_table.specs.declared.opcode.Opcode.TheVariants.{Define, UpLow, Replace, Announce, Collect}
use Rattle.louis_table.specs.declared.fault.LineFault.{LineFault}
use Rattle.louis_table.specs.declared.fault.LineFault.TheVariants as line_faults
use Rattle.louis_table.specs.declared.fault.Cause.{Cause}
use Rattle.louis_table.specs.declared.line_entry.LineEntry.{LineEntry}
use Rattle.louis_table.specs.Meaning.{Meaning}
use Rattle.louis_table.specs.Table.{Entry, Defines, Pairs, Replaces, Announces, Collects, AreCharactersFor}
use Rattle.louis_table.specs.Steps.Fields.{field_at}
use Rattle.louis_table.specs.Steps.Characters.{characters_in}
use Rattle.louis_table.specs.Steps.Opcode.{opcode_named}
use Rattle.louis_table.specs.Steps.Fault.{cause_number}
use Rattle.louis_table.specs.Steps.Dots.{pair_parts, pair_in, rule_in, both_of, are_many, ReadsDots, Fits, are_many_of_two, are_many_written}
use Rattle.louis_table.specs.Steps.Line.{or_cause, entry_from, entry_of_both, entry_of_one, entry_of_set, entry_at, both_at, as_some, opcode_gives, fields_give, line_gives, repeats, announces, is_large, verdict_by, entry_verdict, line_verdict, judge_opcode, judge_line, FailsOperands, IsVerdict}
use Rattle.louis_table.specs.Steps.Read.{judge, TakesLine}
use Rattle.louis_table.specs.declared.draft.Draft.{Draft}
use Rattle.louis_table.proofs.EntryLaws.{TakesBoth, or_left, or_right, entry_at-both, entry_at-sign, entry_at-set}
use Rattle.louis_table.proofs.VerdictLaws.{judge-from_line}

-- ---- lists and tests

pub nil_from_test : (xs : List ℕ) (b : Bool) → b ≡ eqb (length xs) 0 → b ≡ true → xs ≡ []
nil_from_test xs b e t = nil_from_length xs (eqb-true _ _ (sym e ∙ t))

pub not_nil_from_test : (xs : List ℕ) (b : Bool) → b ≡ eqb (length xs) 0 → b ≡ false → xs ≢ []
not_nil_from_test xs b e f n = true≢false (sym (eq-eqb _ _ (ap length n)) ∙ (sym e ∙ f))

-- ---- the cells of a dots operand, by its text

pub cells_in-read : (dots text cells : List ℕ) → text ≡ encode_utf8_all dots → Dots text cells → cells_in dots ≡ Some cells
cells_in-read dots text cells e d = cells_in-from_Dots dots cells ((Dots-encoded dots cells).0 (subst (λ (t : List ℕ). Dots t cells) e d))

pub cells_in-unread : (dots text : List ℕ) → text ≡ encode_utf8_all dots → ((cells : List ℕ) → ¬ Dots text cells) → cells_in dots ≡ None
cells_in-unread dots text e n = by (cells_in dots) refl
  where
    by : (o : Option (List ℕ)) → cells_in dots ≡ o → o ≡ None
    by None h = refl
    by (Some cells) h = absurd (n cells (subst (λ (t : List ℕ). Dots t cells) (sym e) ((Dots-encoded dots cells).1 (Dots-from_cells_in dots cells h))))

-- ---- the cells of an upper and a lower character

pub pair_in-read : (dots first second : List ℕ) → first ≡ (pair_parts dots).0 → second ≡ (pair_parts dots).1 → pair_in dots ≡ both_of (cells_in first) (cells_in second)
unfolding pair_in
pair_in-read dots first second e f = ap (λ (t : List ℕ). both_of (cells_in t) (cells_in (pair_parts dots).1)) (sym e) ∙ ap (λ (t : List ℕ). both_of (cells_in first) (cells_in t)) (sym f)

pub first_fault : (fault : LineFault) (o p : Option (List ℕ)) → ReadsDots are_many (Err fault) o → ReadsDots are_many_of_two (Err fault) (both_of o p)
first_fault (line_faults.Bad cause) o p h = (ap (λ (x : Option (List ℕ)). both_of x p) h.0, h.1)
first_fault line_faults.NoMemory o p h = tt

pub second_fault : (fault : LineFault) (reported : Option (List ℕ)) (o p : Option (List ℕ)) → ReadsDots are_many (Ok reported) o → ReadsDots are_many (Err fault) p → ReadsDots are_many_of_two (Err fault) (both_of o p)
second_fault (line_faults.Bad cause) reported o p g h = (ap (λ (x : Option (List ℕ)). both_of x p) g.1 ∙ ap (both_of (Some g.0)) h.0, h.1)
second_fault line_faults.NoMemory reported o p g h = tt

pub neither : (b c : Bool) → b ≡ false → c ≡ false → b || c ≡ false
neither true c e f = e
neither false c e f = f

pub both_reported : (a b o p : Option (List ℕ)) → ReadsDots are_many (Ok a) o → ReadsDots are_many (Ok b) p → ReadsDots are_many_of_two (Ok (option_zip a b)) (both_of o p)
both_reported a b o p (upper, e, g) (lower, f, h) =
    ((upper, lower), ap (λ (x : Option (List ℕ)). both_of x p) e ∙ ap (both_of (Some upper)) f, fits a b g h)
  where
    fits : (a b : Option (List ℕ)) → Fits are_many a upper → Fits are_many b lower → Fits are_many_of_two (option_zip a b) (upper, lower)
    fits None b g h = or_left _ _ g
    fits (Some x) None g h = or_right (are_many upper) _ h
    fits (Some x) (Some y) g h = (ap (λ (t : List ℕ). (t, lower)) g.0 ∙ ap (λ (t : List ℕ). (x, t)) h.0, neither _ _ g.1 h.1)

-- ---- the cells of a rule

pub rule_in-equals : (dots : List ℕ) → bytes_eq dots (codes "=") ≡ true → rule_in dots ≡ Some None
unfolding rule_in
rule_in-equals dots t = cond-true _ _ _ t

rule_in-cells : (dots : List ℕ) → bytes_eq dots (codes "=") ≡ false → rule_in dots ≡ option_map Some (cells_in dots)
unfolding rule_in
rule_in-cells dots f = cond-false _ _ _ f

pub rule_fault : (dots : List ℕ) (fault : LineFault) → bytes_eq dots (codes "=") ≡ false → ReadsDots are_many (Err fault) (cells_in dots) → ReadsDots are_many_written (Err fault) (rule_in dots)
rule_fault dots (line_faults.Bad cause) f h = (rule_in-cells dots f ∙ ap (option_map Some) h.0, h.1)
rule_fault dots line_faults.NoMemory f h = tt

pub rule_reported : (dots reported : List ℕ) → bytes_eq dots (codes "=") ≡ false → ReadsDots are_many (Ok (Some reported)) (cells_in dots) → ReadsDots are_many_written (Ok (Some (Some reported))) (rule_in dots)
rule_reported dots reported f (cells, e, h) = (Some cells, rule_in-cells dots f ∙ ap (option_map Some) e, (ap Some h.0, h.1))

pub rule_unreported : (dots : List ℕ) → bytes_eq dots (codes "=") ≡ false → ReadsDots are_many (Ok None) (cells_in dots) → ReadsDots are_many_written (Ok None) (rule_in dots)
rule_unreported dots f (cells, e, h) = (Some cells, rule_in-cells dots f ∙ ap (option_map Some) e, h)

-- ---- two operands

entry_then : (opcode : Opcode) (operands : List ℕ) (both : Result (List ℕ × List ℕ) ℕ) → TakesBoth opcode → both_at operands ≡ both → entry_at opcode operands ≡ entry_of_both opcode both
entry_then opcode operands both two e = entry_at-both opcode operands two ∙ ap (entry_of_both opcode) e

judge_by : (meaning : Meaning) (opcode : Opcode) (operands : List ℕ) (read : Result Entry ℕ) → entry_at opcode operands ≡ read → judge_opcode meaning opcode operands ≡ line_verdict meaning (as_some read)
unfolding judge_opcode
judge_by meaning opcode operands read e = ap (λ (r : Result Entry ℕ). line_verdict meaning (as_some r)) e

-- operands that weren't read
pub operands_fault : (meaning : Meaning) (opcode : Opcode) (operands : List ℕ) (fault : LineFault) → TakesBoth opcode → FailsOperands (both_at operands) fault
    → IsVerdict (Err fault) (judge_opcode meaning opcode operands)
operands_fault meaning opcode operands (line_faults.Bad cause) two h = judge_by meaning opcode operands _ (entry_then opcode operands _ two h)
operands_fault meaning opcode operands line_faults.NoMemory two h = tt

-- too many characters, or too few
pub characters_fault : (meaning : Meaning) (opcode : Opcode) (operands text dots : List ℕ) → TakesBoth opcode → both_at operands ≡ Ok (text, dots) → ¬ AreCharactersFor opcode text
    → judge_opcode meaning opcode operands ≡ Err 3
characters_fault meaning opcode operands text dots two e n = search (rules, judge_by, entry_then)

-- a verdict on an entry, by its tests
pub judged : (meaning : Meaning) (opcode : Opcode) (operands : List ℕ) (entry : Entry) (r a l : Bool) → entry_at opcode operands ≡ Ok entry → repeats meaning entry ≡ r → announces meaning entry ≡ a → is_large entry ≡ l
    → judge_opcode meaning opcode operands ≡ as_some (verdict_by r a l entry)
unfolding entry_verdict
judged meaning opcode operands entry r a l e x y z = search (rules, judge_by)

-- ---- definitions

module _ (class : Class) (operands dots : List ℕ) (character : ℕ) (b : both_at operands ≡ Ok (character ∷ [], dots)) where
  definition_read : (o : Option (List ℕ)) → cells_in dots ≡ o
      → entry_at (Define class) operands ≡ or_cause 4 (option_map (λ cells. Defines character (record { class = class; cells = cells })) o)
  definition_read o e =
      entry_then (Define class) operands _ tt b
      ∙ ap (λ (p : Option (List ℕ)). or_cause 4 (option_map (λ cells. Defines character (record { class = class; cells = cells })) p)) e

  pub definition_fault : (meaning : Meaning) (fault : LineFault) → ReadsDots are_many (Err fault) (cells_in dots) → IsVerdict (Err fault) (judge_opcode meaning (Define class) operands)
  definition_fault meaning (line_faults.Bad cause) h =
      judge_by meaning (Define class) operands _ (definition_read None h.0) ∙ ap (λ (x : Cause). Err (cause_number x)) (sym h.1)
  definition_fault meaning line_faults.NoMemory h = tt

  pub definition_at : (cells : List ℕ) → cells_in dots ≡ Some cells → entry_at (Define class) operands ≡ Ok (Defines character (record { class = class; cells = cells }))
  definition_at cells e = definition_read (Some cells) e

-- ---- upper and lower characters

module _ (operands dots : List ℕ) (upper lower : ℕ) (b : both_at operands ≡ Ok (upper ∷ lower ∷ [], dots)) where
  pair_read : (o : Option (List ℕ × List ℕ)) → pair_in dots ≡ o → entry_at UpLow operands ≡ or_cause 4 (option_map (λ cells. Pairs upper cells.0 lower cells.1) o)
  pair_read o e = entry_then UpLow operands _ tt b ∙ ap (λ (p : Option (List ℕ × List ℕ)). or_cause 4 (option_map (λ cells. Pairs upper cells.0 lower cells.1) p)) e

  pub pair_fault : (meaning : Meaning) (fault : LineFault) → ReadsDots are_many_of_two (Err fault) (pair_in dots) → IsVerdict (Err fault) (judge_opcode meaning UpLow operands)
  pair_fault meaning (line_faults.Bad cause) h = judge_by meaning UpLow operands _ (pair_read None h.0) ∙ ap (λ (x : Cause). Err (cause_number x)) (sym h.1)
  pair_fault meaning line_faults.NoMemory h = tt

  pub pair_at : (upper_cells lower_cells : List ℕ) → pair_in dots ≡ Some (upper_cells, lower_cells) → entry_at UpLow operands ≡ Ok (Pairs upper upper_cells lower lower_cells)
  pair_at upper_cells lower_cells e = pair_read (Some (upper_cells, lower_cells)) e

-- ---- rules

module _ (kind : RuleKind) (operands text dots : List ℕ) (b : both_at operands ≡ Ok (text, dots)) where
  rule_read : (o : Option (Option (List ℕ))) → rule_in dots ≡ o → entry_at (Replace kind) operands ≡ or_cause 4 (option_map (λ cells. Replaces kind text cells) o)
  rule_read o e = entry_then (Replace kind) operands _ tt b ∙ ap (λ (p : Option (Option (List ℕ))). or_cause 4 (option_map (λ cells. Replaces kind text cells) p)) e

  pub rule_bad : (meaning : Meaning) (fault : LineFault) → ReadsDots are_many_written (Err fault) (rule_in dots) → IsVerdict (Err fault) (judge_opcode meaning (Replace kind) operands)
  rule_bad meaning (line_faults.Bad cause) h = judge_by meaning (Replace kind) operands _ (rule_read None h.0) ∙ ap (λ (x : Cause). Err (cause_number x)) (sym h.1)
  rule_bad meaning line_faults.NoMemory h = tt

  pub rule_at : (cells : Option (List ℕ)) → rule_in dots ≡ Some cells → entry_at (Replace kind) operands ≡ Ok (Replaces kind text cells)
  rule_at cells e = rule_read (Some cells) e

-- ---- signs

module _ (sign : Sign) (operands dots : List ℕ) (d : dots ≡ (field_at operands).0) where
  one_read : entry_at (Announce sign) operands ≡ entry_of_one (Announce sign) dots
  one_read = entry_at-sign sign operands ∙ ap (entry_of_one (Announce sign)) (sym d)

  pub sign_missing : (meaning : Meaning) → dots ≡ [] → judge_opcode meaning (Announce sign) operands ≡ Err 2
  sign_missing meaning e = judge_by meaning (Announce sign) operands _ (one_read ∙ ap (entry_of_one (Announce sign)) e)

  sign_read : (o : Option (List ℕ)) → dots ≢ [] → cells_in dots ≡ o → entry_at (Announce sign) operands ≡ or_cause 4 (option_map (λ cells. Announces sign cells) o)
  sign_read o n e = one_read ∙ (by dots n ∙ ap (λ (p : Option (List ℕ)). or_cause 4 (option_map (λ cells. Announces sign cells) p)) e)
    where
      by : (dots : List ℕ) → dots ≢ [] → entry_of_one (Announce sign) dots ≡ entry_from (Announce sign) [] dots
      by [] n = absurd (n refl)
      by (y ∷ dots) n = refl

  pub sign_fault : (meaning : Meaning) (fault : LineFault) → dots ≢ [] → ReadsDots are_many (Err fault) (cells_in dots) → IsVerdict (Err fault) (judge_opcode meaning (Announce sign) operands)
  sign_fault meaning (line_faults.Bad cause) n h = judge_by meaning (Announce sign) operands _ (sign_read None n h.0) ∙ ap (λ (x : Cause). Err (cause_number x)) (sym h.1)
  sign_fault meaning line_faults.NoMemory n h = tt

  pub sign_at : (cells : List ℕ) → dots ≢ [] → cells_in dots ≡ Some cells → entry_at (Announce sign) operands ≡ Ok (Announces sign cells)
  sign_at cells n e = sign_read (Some cells) n e

-- ---- sets

module _ (set : CharacterSet) (operands characters : List ℕ) (c : characters ≡ (field_at operands).0) where
  set_operand : entry_at (Collect set) operands ≡ entry_of_set set characters
  set_operand = entry_at-set set operands ∙ ap (entry_of_set set) (sym c)

  pub set_missing : (meaning : Meaning) → characters ≡ [] → judge_opcode meaning (Collect set) operands ≡ Err 2
  set_missing meaning e = judge_by meaning (Collect set) operands _ (set_operand ∙ ap (entry_of_set set) e)

  set_read : (o : Option (List ℕ)) → characters ≢ [] → characters_in characters ≡ o → entry_at (Collect set) operands ≡ or_cause 3 (option_map (λ text. Collects set text) o)
  set_read o n e = set_operand ∙ (by characters n ∙ ap (λ (p : Option (List ℕ)). or_cause 3 (option_map (λ text. Collects set text) p)) e)
    where
      by : (characters : List ℕ) → characters ≢ [] → entry_of_set set characters ≡ or_cause 3 (option_map (λ text. Collects set text) (characters_in characters))
      by [] n = absurd (n refl)
      by (y ∷ characters) n = refl

  pub set_bad : (meaning : Meaning) → characters ≢ [] → characters_in characters ≡ None → judge_opcode meaning (Collect set) operands ≡ Err 3
  set_bad meaning n e = judge_by meaning (Collect set) operands _ (set_read None n e)

  pub set_at : (text : List ℕ) → characters ≢ [] → characters_in characters ≡ Some text → entry_at (Collect set) operands ≡ Ok (Collects set text)
  set_at text n e = set_read (Some text) n e

-- ---- the line

module _ (meaning : Meaning) (line opcode operands : List ℕ) (o : opcode ≡ (field_at line).0) (r : operands ≡ (field_at line).1) where
  line_at : line_gives line ≡ fields_give opcode operands
  unfolding line_gives
  line_at = ap (λ (f : List ℕ). fields_give f (field_at line).1) (sym o) ∙ ap (fields_give opcode) (sym r)

  pub judge_line-skipped : (opcode ≡ []) ⊎ ((first : ℕ) × (first ≡ get_or opcode 0 first) × (first ≡ 35)) → judge_line meaning line ≡ Ok None
  unfolding judge_line
  judge_line-skipped h = ap (line_verdict meaning) (line_at ∙ by opcode h)
    where
      by : (opcode : List ℕ) → (opcode ≡ []) ⊎ ((first : ℕ) × (first ≡ get_or opcode 0 first) × (first ≡ 35)) → fields_give opcode operands ≡ Ok None
      by [] h = refl
      by (x ∷ opcode) (inl e) = absurd cc
      by (x ∷ opcode) (inr (first, e, c)) = rw (eq-eqb x 35 (sym e ∙ c)) refl

  judge_line-opcode : opcode ≢ [] → (first : ℕ) → first ≡ get_or opcode 0 first → first ≢ 35 → (named : Option Opcode) → named ≡ opcode_named opcode
      → judge_line meaning line ≡ line_verdict meaning (opcode_gives named operands)
  unfolding judge_line
  judge_line-opcode n first e c named k = ap (line_verdict meaning) (line_at ∙ (by opcode n e ∙ ap (λ (x : Option Opcode). opcode_gives x operands) (sym k)))
    where
      by : (opcode : List ℕ) → opcode ≢ [] → first ≡ get_or opcode 0 first → fields_give opcode operands ≡ opcode_gives (opcode_named opcode) operands
      by [] n e = absurd (n refl)
      by (x ∷ opcode) n e = rw (ne_eqb x 35 (λ (h : x ≡ 35). c (e ∙ h))) refl

  pub judge_line-unknown : opcode ≢ [] → (first : ℕ) → first ≡ get_or opcode 0 first → first ≢ 35 → None ≡ opcode_named opcode → judge_line meaning line ≡ Err 1
  judge_line-unknown n first e c k = judge_line-opcode n first e c None k

  pub judge_line-known : opcode ≢ [] → (first : ℕ) → first ≡ get_or opcode 0 first → first ≢ 35 → (named : Opcode) → Some named ≡ opcode_named opcode
      → judge_line meaning line ≡ judge_opcode meaning named operands
  unfolding judge_opcode
  judge_line-known n first e c named k = judge_line-opcode n first e c (Some named) k

-- ---- a fault of the line is one of its place

pub IsVerdict-TakesLine : (old new : Draft) (before : ℕ) (line : List ℕ) (fault : LineFault) → IsVerdict (Err fault) (judge_line old.table line) → TakesLine (Err fault) before old new (judge old.table before line)
IsVerdict-TakesLine old new before line (line_faults.Bad cause) h = judge-from_line old.table before line (cause_number cause) h
IsVerdict-TakesLine old new before line line_faults.NoMemory h = tt

-- ---- what a missing value is reported for

pub is_there : {T E : Type 0} (o : Option T) (e : E) {r : Result T E} {x : T} → r ≡ ok_or o e → r ≡ Ok x → o ≡ Some x
is_there None e is reported = absurd (let same = sym is ∙ reported in cc)
is_there (Some y) e is reported = let same = sym is ∙ reported in cc

pub is_missing : {T : Type 0} (o : Option T) (fault : LineFault) {r : Result T LineFault} {f : LineFault} (exit : Result LineEntry LineFault) (verdict : Result (Option Entry) ℕ)
    → r ≡ ok_or o fault → r ≡ Err f → IsErrAnd exit (λ reported. reported ≡ f) → (o ≡ None → IsVerdict (Err fault) verdict) → IsVerdict exit verdict
is_missing None fault (Err reported) verdict is was same lacks = subst (λ e. IsVerdict (Err e) verdict) (let reported-is = sym is ∙ was in cc) (lacks refl)
is_missing (Some x) fault exit verdict is was same lacks = absurd (let other = sym is ∙ was in cc)
is_missing None fault (Ok x) verdict is was same lacks = absurd same

-- ---- texts of one and two

pub only_one : (text : List ℕ) (c : ℕ) → 1 ≤ length text → length text < 2 → c ≡ get_or text 0 c → text ≡ c ∷ []
only_one [] c some few is = absurd (omega arith)
only_one (x ∷ []) c some few is = ap (λ (y : ℕ). y ∷ []) (sym is)
only_one (x ∷ y ∷ text) c some few is = absurd (omega arith)

pub only_two : (text : List ℕ) (c d : ℕ) → 2 ≤ length text → length text < 3 → c ≡ get_or text 0 c → d ≡ get_or text 1 d → text ≡ c ∷ d ∷ []
only_two [] c d some few is is' = absurd (omega arith)
only_two (x ∷ []) c d some few is is' = absurd (omega arith)
only_two (x ∷ y ∷ []) c d some few is is' = let first : c ≡ x = is in let second : d ≡ y = is' in cc
only_two (x ∷ y ∷ z ∷ text) c d some few is is' = absurd (omega arith)
