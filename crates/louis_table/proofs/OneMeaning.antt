-- A text has one meaning, or one fault that is reported.
use Rattle.std.proofs.Common.{◌≡◌, ℕ, ◌+◌, ◌≤◌, Bool, false, cond, List, [], ◌∷◌, ◌++◌, length, Option, Some, None, Result, Ok, Err, Contains, refl, sym, ap, subst, ◌∙◌, ◌⊎◌, inl, inr, arith, true≢false, rules, flat_map, map, nat_eq, unwrap_or}
use Rattle.std.specs.Map.{lookup}
use Rattle.std.specs.Str.{chars, IsUtf8, is_utf8}
use Rattle.std.proofs.lemmas.Bool.{cases_Bool}
use Rattle.std.proofs.lemmas.Str.{IsUtf8-from_is_utf8, is_utf8-from_IsUtf8}
use Rattle.louis_table.specs.declared.definition.Definition.{Definition}
use Rattle.louis_table.specs.declared.fault.ReadFault.{ReadFault}
use Rattle.louis_table.specs.declared.fault.ReadFault.TheVariants as faults
use Rattle.louis_table.specs.declared.rule.Rule.{Rule}
use Rattle.louis_table.specs.declared.pending.PendingEntry.{PendingEntry}
use Rattle.louis_table.specs.declared.pending.PendingEntry.TheVariants as writtens
use Rattle.louis_table.specs.Lines.{lines_of}
use Rattle.louis_table.specs.Meaning.{Meaning, definition_of, fold_of}
use Rattle.louis_table.specs.Profile.{Profile, WithNumericMode}
use Rattle.louis_table.specs.Steps.Table.{no_meaning, with_given, is_known}
use Rattle.louis_table.specs.Steps.Draft.{written_in}
use Rattle.louis_table.specs.Steps.Pending.{are_defined, complete_rules, first_lacking, is_complete, line_of}
use Rattle.louis_table.specs.Steps.Read.{Gathers, LinesGive, LinesMean, IsReported, IsLackingIn, LinesReport, judge}
use Rattle.louis_table.specs.Table.{Entry, Defines, Pairs, Replaces, Announces, Collects, GivesEntry, definition_line, pair_line, rule_line, sign_line, set_line, GiveFrom, rules_in, IsReportedNoLater, text_lines, line_of_stop, without_byte_order_mark, IsMadeOf, IsLacking, Bad, BadIn, no_text, bad_line, undefined_character, Means, MeansIn}
use Rattle.louis_table.specs.ReportedFault.{IsReportedOf}
use Rattle.louis_table.specs.declared.opcode.Opcode.TheVariants.{Define, UpLow, Replace, Announce, Collect}
use Rattle.louis_table.proofs.EntryLaws.{has_opcode}
use Rattle.louis_table.proofs.VerdictLaws.{one_entry, nothing_or_entry}
use Rattle.louis_table.proofs.ReadingLaws.{Reached, Reached-none, Reached-more, Reached-fault, Reached-all}
use Rattle.louis_table.proofs.RuleLaws.{finished_entries, first_in, first_lacking-first_in, first_in-None, first_in-Some}

-- ---- one meaning

-- what a line gives in a profile it gives in the last one too
pub in_last : (profile : Profile) (line : List ℕ) (entry : Entry) → GivesEntry profile line entry → GivesEntry WithNumericMode line entry
in_last profile line entry (definition_line class characters dots c cells has h s d e) = definition_line class characters dots c cells (has_opcode (Define class)) h s d e
in_last profile line entry (pair_line characters dots upper lower upper_cells lower_cells has h s d e) = pair_line characters dots upper lower upper_cells lower_cells (has_opcode UpLow) h s d e
in_last profile line entry (rule_line kind characters dots text cells has h s d e) = rule_line kind characters dots text cells (has_opcode (Replace kind)) h s d e
in_last profile line entry (sign_line sign dots cells has h d e) = sign_line sign dots cells (has_opcode (Announce sign)) h d e
in_last profile line entry (set_line set characters text has h s e) = set_line set characters text (has_opcode (Collect set)) h s e

same_entries : (profile : Profile) (n : ℕ) (lines : List (List ℕ)) (es fs : List (ℕ × Entry)) → GiveFrom profile n lines es → GiveFrom profile n lines fs → es ≡ fs
same_entries profile n [] es fs g h = g ∙ sym h
same_entries profile n (line ∷ lines) es fs (inl (s, g)) (inl (t, h)) = same_entries profile (n + 1) lines es fs g h
same_entries profile n (line ∷ lines) es fs (inl (s, g)) (inr (f, rest, gives, e, h)) = absurd (nothing_or_entry line f s (in_last profile line f gives))
same_entries profile n (line ∷ lines) es fs (inr (d, left, given, i, g)) (inl (t, h)) = absurd (nothing_or_entry line d t (in_last profile line d given))
same_entries profile n (line ∷ lines) es fs (inr (d, left, given, i, g)) (inr (f, rest, gives, e, h)) =
    let first : d ≡ f = one_entry line d f (in_last profile line d given) (in_last profile line f gives) in
    let others : left ≡ rest = same_entries profile (n + 1) lines left rest g h in
    i ∙ (ap (λ (x : Entry). (n, x) ∷ left) first ∙ (ap (λ (xs : List (ℕ × Entry)). (n, f) ∷ xs) others ∙ sym e))

-- a meaning, by its parts
abbrev whole : List (ℕ × Definition) → List (ℕ × ℕ) → List Rule → List (List ℕ) → List (List ℕ) → Meaning
whole definitions partners rules signs sets = record { definitions = definitions; partners = partners; rules = rules; signs = signs; sets = sets }

same_parts : (t u : Meaning) → t.definitions ≡ u.definitions → t.partners ≡ u.partners → t.rules ≡ u.rules → t.signs ≡ u.signs → t.sets ≡ u.sets → t ≡ u
same_parts t u d p r s c = search rules

-- rules depend only on the definitions and the partners
rules_by : (t u : Meaning) (entries : List (ℕ × Entry)) → t.definitions ≡ u.definitions → t.partners ≡ u.partners → flat_map (rules_in t) entries ≡ flat_map (rules_in u) entries
rules_by t u entries d p =
    as_bare t entries
    ∙ (ap (λ (ds : List (ℕ × Definition)). flat_map (rules_in (bare ds t.partners)) entries) d
    ∙ (ap (λ (ps : List (ℕ × ℕ)). flat_map (rules_in (bare u.definitions ps)) entries) p ∙ sym (as_bare u entries)))
  where
    bare : List (ℕ × Definition) → List (ℕ × ℕ) → Meaning
    bare definitions partners = whole definitions partners [] [] []

    as_bare : (t : Meaning) (entries : List (ℕ × Entry)) → flat_map (rules_in t) entries ≡ flat_map (rules_in (bare t.definitions t.partners)) entries
    as_bare t [] = refl
    as_bare t ((n, Defines k definition) ∷ entries) = as_bare t entries
    as_bare t ((n, Pairs u uc l lc) ∷ entries) = as_bare t entries
    as_bare t ((n, Replaces kind text cells) ∷ entries) = ap (λ (rs : List Rule). rules_in t (n, Replaces kind text cells) ++ rs) (as_bare t entries)
    as_bare t ((n, Announces sign cells) ∷ entries) = as_bare t entries
    as_bare t ((n, Collects set text) ∷ entries) = as_bare t entries

-- entries make one meaning
made_once : (entries : List (ℕ × Entry)) (t u : Meaning) → IsMadeOf entries t → IsMadeOf entries u → t ≡ u
made_once entries t u m n =
    let definitions = m.definitions ∙ sym n.definitions in
    let partners = m.partners ∙ sym n.partners in
    same_parts t u definitions partners (m.rules ∙ (rules_by t u entries definitions partners ∙ sym n.rules)) (m.signs ∙ sym n.signs) (m.sets ∙ sym n.sets)

-- what the lines give makes one meaning
given_once : (profile : Profile) (n : ℕ) (lines : List (List ℕ)) (es fs : List (ℕ × Entry)) (t u : Meaning) → GiveFrom profile n lines es → GiveFrom profile n lines fs → IsMadeOf es t → IsMadeOf fs u
    → (es ≡ fs) × (t ≡ u)
given_once profile n lines es fs t u g h m k = search (rules, same_entries, made_once)

pub one_meaning_in : (profile : Profile) (bytes : List ℕ) (t u : Meaning) → MeansIn profile bytes t → MeansIn profile bytes u → t ≡ u
one_meaning_in profile bytes t u m n = (given_once profile 1 (text_lines bytes) m.entries n.entries t u m.given n.given m.made n.made).1

pub one_meaning : (bytes : List ℕ) (t u : Meaning) → Means bytes t → Means bytes u → t ≡ u
one_meaning = one_meaning_in WithNumericMode

-- ---- one fault

reported_once : (n c m d : ℕ) → IsReportedNoLater n c m d → IsReportedNoLater m d n c → (n ≡ m) × (c ≡ d)
reported_once n c m d (inl lt) (inl gt) = absurd (omega arith)
reported_once n c m d (inl lt) (inr (e, le)) = absurd (omega arith)
reported_once n c m d (inr (e, le)) (inl gt) = absurd (omega arith)
reported_once n c m d (inr (e, le)) (inr (f, ge)) = (e, omega arith)

-- a rule that lacks a definition does so again
lacks_again : (es fs : List (ℕ × Entry)) (t u : Meaning) (n : ℕ) (rule : Entry) → es ≡ fs → t ≡ u → Contains es (n, rule) → IsLacking t rule → Contains fs (n, rule) × IsLacking u rule
lacks_again es fs t u n rule e s c l = (subst (λ (xs : List (ℕ × Entry)). Contains xs (n, rule)) e c, subst (λ (x : Meaning). IsLacking x rule) s l)

pub one_fault_in : (profile : Profile) (bytes : List ℕ) (n c m d : ℕ) → BadIn profile bytes n c → BadIn profile bytes m d → (n ≡ m) × (c ≡ d)
one_fault_in profile bytes n c m d (no_text u i j) (no_text v k l) = (i ∙ sym k, j ∙ sym l)
one_fault_in profile bytes n c m d (no_text u i j) (bad_line v h first) = absurd (u v)
one_fault_in profile bytes n c m d (no_text u i j) (undefined_character v s es t g k rule a l first e) = absurd (u v)
one_fault_in profile bytes n c m d (bad_line u g least) (no_text v k l) = absurd (v u)
one_fault_in profile bytes n c m d (bad_line u g least) (bad_line v h first) = reported_once n c m d (least m d h) (first n c g)
one_fault_in profile bytes n c m d (bad_line u g least) (undefined_character v s es t h k rule a l first e) = absurd (s n c g)
one_fault_in profile bytes n c m d (undefined_character u s es t g k rule a l first e) (no_text v i j) = absurd (v u)
one_fault_in profile bytes n c m d (undefined_character u s es t g k rule a l first e) (bad_line v h least) = absurd (s m d h)
one_fault_in profile bytes n c m d (undefined_character u s es t g k rule a l first e) (undefined_character v z fs w h i other b o least f) =
    let same = given_once profile 1 (text_lines bytes) es fs t w g h k i in
    let one = lacks_again es fs t w n rule same.0 same.1 a l in
    let two = lacks_again fs es w t m other (sym same.0) (sym same.1) b o in
    let le : n ≤ m = first m other two.0 two.1 in
    let ge : m ≤ n = least n rule one.0 one.1 in
    (omega arith, e ∙ sym f)

pub one_fault : (bytes : List ℕ) (n c m d : ℕ) → Bad bytes n c → Bad bytes m d → (n ≡ m) × (c ≡ d)
one_fault = one_fault_in WithNumericMode

pub means_or_bad_in : (profile : Profile) (bytes : List ℕ) (t : Meaning) (n c : ℕ) → MeansIn profile bytes t → ¬ BadIn profile bytes n c
means_or_bad_in profile bytes t n c m (no_text u i j) = u m.is_text
means_or_bad_in profile bytes t n c m (bad_line u h first) = m.is_sound n c h
means_or_bad_in profile bytes t n c m (undefined_character u s es w g k rule a l first e) =
    let same = given_once profile 1 (text_lines bytes) es m.entries w t g m.given k m.made in
    let again = lacks_again es m.entries w t n rule same.0 same.1 a l in
    m.is_complete n rule again.0 again.1

pub means_or_bad : (bytes : List ℕ) (t : Meaning) (n c : ℕ) → Means bytes t → ¬ Bad bytes n c
means_or_bad = means_or_bad_in WithNumericMode

-- ---- what is read of the lines

same_rules : (meaning : Meaning) (rules : List Rule) (entries : List (ℕ × Entry)) → flat_map (rules_in meaning) entries ≡ flat_map (rules_in (record meaning { rules = rules })) entries
same_rules meaning rules entries = rules_by meaning (record meaning { rules = rules }) entries refl refl

made_of : (lines : List (List ℕ)) (meaning : Meaning) (rules : List PendingEntry) (g : Gathers lines meaning rules) → meaning.rules ≡ flat_map (complete_rules meaning) rules → IsMadeOf g.entries meaning
made_of lines meaning rules g e = grind (arith, finished_entries)

-- what a rule lacks doesn't depend on rules
lacking_by : (t w : Meaning) (rule : Entry) → t.definitions ≡ w.definitions → t.partners ≡ w.partners → IsLacking t rule → IsLacking w rule
lacking_by t w (Replaces kind text cells) d p h = (h.0, h.1, subst (λ (o : Option Definition). o ≡ None) (found h.0) h.2)
  where
    found : (c : ℕ) → definition_of t (fold_of t c) ≡ definition_of w (fold_of w c)
    found c =
        ap (λ (ps : List (ℕ × ℕ)). lookup (nat_eq (unwrap_or (lookup (nat_eq c) ps) c)) t.definitions) p
        ∙ ap (λ (ds : List (ℕ × Definition)). lookup (nat_eq (fold_of w c)) ds) d
lacking_by t w (Collects set text) d p h = (h.0, h.1, ap (lookup (nat_eq h.0)) (sym d) ∙ h.2)
lacking_by t w rule d p h = h

module _ (bytes rest : List ℕ) (u : IsUtf8 bytes) (e : rest ≡ without_byte_order_mark bytes) where
  lines_same : map chars (lines_of rest) ≡ text_lines bytes
  lines_same = ap (λ (t : List ℕ). map chars (lines_of t)) e

  pub LinesMean-Means : (meaning : Meaning) → LinesMean (map chars (lines_of rest)) meaning → Means bytes meaning
  LinesMean-Means meaning m = by (subst (λ (ls : List (List ℕ)). LinesMean ls meaning) lines_same m)
    where
      by : LinesMean (text_lines bytes) meaning → Means bytes meaning
      by m =
          let g : Gathers (text_lines bytes) meaning m.all = m.gives.gathered in
          let complete : first_in meaning g.entries ≡ None = sym (first_lacking-first_in meaning g.entries) ∙ (sym (ap (first_lacking meaning) g.written) ∙ m.complete) in
          record {
            is_text = u;
            is_sound = m.gives.is_sound;
            entries = g.entries;
            given = g.given;
            made = made_of (text_lines bytes) meaning m.all g m.rules;
            is_complete = λ n rule c. first_in-None meaning g.entries n rule complete c;
          }

  pub IsReported-Bad : (n cause : ℕ) → IsReported (map chars (lines_of rest)) n cause → Bad bytes n cause
  IsReported-Bad n cause t =
      let reported : IsReported (text_lines bytes) n cause = subst (λ (ls : List (List ℕ)). IsReported ls n cause) lines_same t in
      bad_line u reported.has reported.first

  pub IsLackingIn-Bad : (n cause : ℕ) → IsLackingIn (map chars (lines_of rest)) n → cause ≡ 7 → Bad bytes n cause
  IsLackingIn-Bad n cause l s = by (subst (λ (ls : List (List ℕ)). IsLackingIn ls n) lines_same l)
    where
      by : IsLackingIn (text_lines bytes) n → Bad bytes n cause
      by l =
          let g : Gathers (text_lines bytes) l.meaning l.all = l.gives.gathered in
          let found : first_in l.meaning g.entries ≡ Some n = sym (first_lacking-first_in l.meaning g.entries) ∙ (sym (ap (first_lacking l.meaning) g.written) ∙ l.lacking) in
          let first = first_in-Some l.meaning 1 (text_lines bytes) g.entries n g.given found in
          let finished_meaning : Meaning = record l.meaning { rules = flat_map (complete_rules l.meaning) l.all } in
          let made : IsMadeOf g.entries finished_meaning = record {
            definitions = g.definitions;
            partners = g.partners;
            signs = g.signs;
            sets = g.sets;
            rules = ap (flat_map (complete_rules l.meaning)) g.written ∙ (finished_entries l.meaning g.entries ∙ same_rules l.meaning (flat_map (complete_rules l.meaning) l.all) g.entries);
          } in
          undefined_character u l.gives.is_sound g.entries finished_meaning g.given made
          first.rule first.among (lacking_by l.meaning finished_meaning first.rule refl refl first.lacking)
          (λ m other c h. first.first m other c (lacking_by finished_meaning l.meaning other refl refl h)) s

  pub LinesReport-IsReportedOf : (fault : ReadFault) → LinesReport (map chars (lines_of rest)) fault → IsReportedOf bytes fault
  LinesReport-IsReportedOf (faults.Table fault) (inl t) = IsReported-Bad fault.line fault.cause t
  LinesReport-IsReportedOf (faults.Table fault) (inr (l, s)) = IsLackingIn-Bad fault.line fault.cause l s
  LinesReport-IsReportedOf faults.NoMemory t = tt

-- ---- a meaning or a fault

abbrev Outcome : List (List ℕ) → Type 0
Outcome lines = ((t : Meaning) × (rules : List PendingEntry) × LinesGive lines t rules) ⊎ ((n : ℕ) × (c : ℕ) × IsReported lines n c)

pub outcome_from : (lines before rest : List (List ℕ)) (meaning : Meaning) (rules : List PendingEntry) → Reached lines before rest meaning rules → Outcome lines
outcome_from lines before [] meaning rules r = inl (meaning, rules, Reached-all lines before meaning rules r)
outcome_from lines before (line ∷ rest) meaning rules r = by (judge meaning (length before) line) refl (λ old new all s. outcome_from lines old rest new all s)
  where
    by : (v : Result (Option Entry) ℕ) → judge meaning (length before) line ≡ v
        → ((old : List (List ℕ)) (new : Meaning) (all : List PendingEntry) → Reached lines old rest new all → Outcome lines) → Outcome lines
    by (Ok given) e more =
        more (before ++ line ∷ []) (with_given meaning given) (rules ++ written_in (length before + 1) given)
        (Reached-more lines before rest line meaning rules r given (with_given meaning given) (rules ++ written_in (length before + 1) given) e refl refl)
    by (Err c) e more = inr (_, c, Reached-fault lines before rest line meaning rules r c e)

-- the rules of a meaning are not among what its lines give directly
pub LinesGive-rules : (lines : List (List ℕ)) (meaning : Meaning) (written : List PendingEntry) (rules : List Rule) → LinesGive lines meaning written
    → LinesGive lines (record meaning { rules = rules }) written
LinesGive-rules lines meaning written rules l = search rules

defined_again : (meaning : Meaning) (rules : List Rule) (text : List ℕ) → are_defined (record meaning { rules = rules }) text ≡ are_defined meaning text
defined_again meaning rules [] = refl
defined_again meaning rules (c ∷ text) = ap (λ (b : Bool). cond (is_known meaning c) b false) (defined_again meaning rules text)

-- the complete rules, with the rest, are what the lines mean
pub LinesMean-finished : (lines : List (List ℕ)) (meaning : Meaning) (written : List PendingEntry) (rules : List Rule) → LinesGive lines meaning written → first_lacking meaning written ≡ None
    → rules ≡ flat_map (complete_rules meaning) written → LinesMean lines (record meaning { rules = rules })
LinesMean-finished lines meaning written rules l complete e =
    record {
      all = written;
      gives = LinesGive-rules lines meaning written rules l;
      complete = complete_again meaning rules written ∙ complete;
      rules = e ∙ finished_again meaning rules written;
    }
  where
    complete_one : (meaning : Meaning) (rules : List Rule) (one : PendingEntry) → is_complete (record meaning { rules = rules }) one ≡ is_complete meaning one
    complete_one meaning rules (writtens.Rule rule) = defined_again meaning rules (map (fold_of meaning) rule.characters)
    complete_one meaning rules (writtens.Set set) = defined_again meaning rules set.characters

    complete_again : (meaning : Meaning) (rules : List Rule) (written : List PendingEntry) → first_lacking (record meaning { rules = rules }) written ≡ first_lacking meaning written
    complete_again meaning rules [] = refl
    complete_again meaning rules (w ∷ written) =
        ap (λ (b : Bool). cond b (first_lacking (record meaning { rules = rules }) written) (Some (line_of w))) (complete_one meaning rules w)
        ∙ ap (λ (o : Option ℕ). cond (is_complete meaning w) o (Some (line_of w))) (complete_again meaning rules written)

    finished_one : (meaning : Meaning) (rules : List Rule) (one : PendingEntry) → complete_rules meaning one ≡ complete_rules (record meaning { rules = rules }) one
    finished_one meaning rules (writtens.Rule rule) = refl
    finished_one meaning rules (writtens.Set set) = refl

    finished_again : (meaning : Meaning) (rules : List Rule) (written : List PendingEntry) → flat_map (complete_rules meaning) written ≡ flat_map (complete_rules (record meaning { rules = rules })) written
    finished_again meaning rules [] = refl
    finished_again meaning rules (w ∷ written) =
        ap (λ (rs : List Rule). rs ++ flat_map (complete_rules meaning) written) (finished_one meaning rules w)
        ∙ ap (λ (rs : List Rule). complete_rules (record meaning { rules = rules }) w ++ rs) (finished_again meaning rules written)

finish : (lines : List (List ℕ)) (meaning : Meaning) (rules : List PendingEntry) → LinesGive lines meaning rules → ((t : Meaning) × LinesMean lines t) ⊎ ((n : ℕ) × IsLackingIn lines n)
finish lines meaning rules l = by (first_lacking meaning rules) refl
  where
    by : (o : Option ℕ) → first_lacking meaning rules ≡ o → ((t : Meaning) × LinesMean lines t) ⊎ ((n : ℕ) × IsLackingIn lines n)
    by None e = inl (_, LinesMean-finished lines meaning rules (flat_map (complete_rules meaning) rules) l e refl)
    by (Some n) e = inr (n, record { meaning = meaning; all = rules; gives = l; lacking = e })

pub some_meaning : (bytes : List ℕ) → ((t : Meaning) × Means bytes t) ⊎ ((n : ℕ) × (c : ℕ) × Bad bytes n c)
some_meaning bytes =
    elim (cases_Bool (is_utf8 bytes)) [
      | inl t ↦ text (IsUtf8-from_is_utf8 bytes t)
      | inr f ↦ inr (line_of_stop bytes, 9, no_text (λ u. true≢false (sym (is_utf8-from_IsUtf8 bytes u) ∙ f)) refl refl)
    ]
  where
    given : IsUtf8 bytes → (meaning : Meaning) (rules : List PendingEntry) → LinesGive (text_lines bytes) meaning rules → ((t : Meaning) × Means bytes t) ⊎ ((n : ℕ) × (c : ℕ) × Bad bytes n c)
    given u meaning rules l =
        elim (finish (text_lines bytes) meaning rules l) [
          | inl (t, m) ↦ inl (t, LinesMean-Means bytes (without_byte_order_mark bytes) u refl t m)
          | inr (n, b) ↦ inr (n, 7, IsLackingIn-Bad bytes (without_byte_order_mark bytes) u refl n 7 b refl)
        ]

    text : IsUtf8 bytes → ((t : Meaning) × Means bytes t) ⊎ ((n : ℕ) × (c : ℕ) × Bad bytes n c)
    text u =
        elim (outcome_from (text_lines bytes) [] (text_lines bytes) no_meaning [] (Reached-none (text_lines bytes) no_meaning [] refl refl)) [
          | inl (t, rules, l) ↦ given u t rules l
          | inr (n, c, b) ↦ inr (n, c, IsReported-Bad bytes (without_byte_order_mark bytes) u refl n c b)
        ]
