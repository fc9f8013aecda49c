-- Without numeric mode too a text has a meaning, or a fault that is reported.
use Rattle.std.proofs.Common.{◌≡◌, ◌≢◌, ℕ, ◌+◌, ◌<◌, ◌≤◌, List, [], ◌∷◌, ◌++◌, length, Option, Some, None, Contains, refl, sym, ap, subst, ◌∙◌, ◌⊎◌, inl, inr, arith, lit≤, true≢false, rules}
use Rattle.std.specs.Str.{is_utf8}
use Rattle.std.proofs.lemmas.Bool.{cases_Bool, cases_lt}
use Rattle.std.proofs.lemmas.Str.{IsUtf8-from_is_utf8, is_utf8-from_IsUtf8}
use Rattle.std.proofs.lemmas.List.Elements.{Contains-append_left, Contains-append_right, Contains-append_cases}
use Rattle.louis_table.specs.declared.opcode.Opcode.{Opcode}
use Rattle.louis_table.specs.Fields.{Begins}
use Rattle.louis_table.specs.Meaning.{Meaning}
use Rattle.louis_table.specs.Opcode.{name_of, profile_of, HasOpcode}
use Rattle.louis_table.specs.Profile.{Profile, WithoutNumericMode, WithNumericMode, Includes}
use Rattle.louis_table.specs.Steps.Fields.{field_at}
use Rattle.louis_table.specs.Steps.Opcode.{opcode_named}
use Rattle.louis_table.specs.Steps.Table.{no_meaning}
use Rattle.louis_table.specs.Steps.Read.{IsReported}
use Rattle.louis_table.specs.Table.{Entry, GiveFrom, comment, IsFault, unknown_opcode, missing_operand, bad_characters, bad_dots, defined_before, defined_twice, given_before, long_line, line_too_many, many_characters, many_cells, HasCause, on_line, IsReportedNoLater, text_lines, line_of_stop, Bad, BadIn, no_text, bad_line, undefined_character, Means, MeansIn}
use Rattle.louis_table.proofs.FieldLaws.{Begins-field_at, field_at-Begins}
use Rattle.louis_table.proofs.EntryLaws.{opcode_named-name_of, opcode_named-Some, opcode_line, line_gives-nothing}
use Rattle.louis_table.proofs.VerdictLaws.{only_one}
use Rattle.louis_table.proofs.ReadingLaws.{Reached-none}
use Rattle.louis_table.proofs.OneMeaning.{outcome_from, some_meaning}
use Rattle.louis_table.proofs.ProfileLaws.{StartsEarly, same_opcode, not_nothing, early_entry, early_fault, late_fault, early_cause}

-- ---- the first line with a later opcode

-- an opcode of numeric mode stands at the front of the line
pub record StartsLate (line : List ℕ) : Type 0 where
  pub opcode : Opcode
  pub rest : List ℕ
  pub begins : Begins line (name_of opcode) rest
  pub later : ¬ HasOpcode WithoutNumericMode opcode

included : (profile earlier : Profile) → Includes profile earlier ⊎ (¬ Includes profile earlier)
included WithoutNumericMode WithoutNumericMode = inl tt
included WithoutNumericMode WithNumericMode = inr (λ h. h)
included WithNumericMode WithoutNumericMode = inl tt
included WithNumericMode WithNumericMode = inl tt

-- no opcode has an empty name
named_field : (field : List ℕ) (opcode : Opcode) → opcode_named field ≡ Some opcode → field ≢ []
unfolding opcode_named
named_field field opcode e n = let none : opcode_named field ≡ None = ap opcode_named n in absurd cc

early_or_late : (line : List ℕ) → StartsLate line ⊎ StartsEarly line
early_or_late line = by (opcode_named (field_at line).0) refl
  where
    at : (opcode : Opcode) (rest : List ℕ) → Begins line (name_of opcode) rest → opcode_named (field_at line).0 ≡ Some opcode
    at opcode rest b = ap opcode_named (Begins-field_at line (name_of opcode) rest b).0 ∙ opcode_named-name_of opcode

    known : (found : Opcode) → opcode_named (field_at line).0 ≡ Some found → Includes WithoutNumericMode (profile_of found) ⊎ (¬ Includes WithoutNumericMode (profile_of found))
        → StartsLate line ⊎ StartsEarly line
    known found e (inl has) =
        inr (λ opcode rest b. let same : found ≡ opcode = let s : opcode_named (field_at line).0 ≡ Some opcode = at opcode rest b in cc in subst (HasOpcode WithoutNumericMode) same has)
    known found e (inr not) =
        inl (record {
          opcode = found;
          rest = (field_at line).1;
          begins = subst (λ (f : List ℕ). Begins line f (field_at line).1) (opcode_named-Some (field_at line).0 found e) (field_at-Begins line (named_field (field_at line).0 found e));
          later = not;
        })

    by : (o : Option Opcode) → opcode_named (field_at line).0 ≡ o → StartsLate line ⊎ StartsEarly line
    by None e = inr (λ opcode rest b. let s : opcode_named (field_at line).0 ≡ Some opcode = at opcode rest b in absurd cc)
    by (Some found) e = known found e (included WithoutNumericMode (profile_of found))

-- the first line with an opcode of numeric mode
pub record FirstLate (lines : List (List ℕ)) : Type 0 where
  pub before : List (List ℕ)
  pub line : List ℕ
  pub after : List (List ℕ)
  pub parts : lines ≡ before ++ line ∷ after
  pub early : (other : List ℕ) → Contains before other → StartsEarly other
  pub late : StartsLate line

with_first : (first : List ℕ) (lines : List (List ℕ)) → StartsEarly first → ((other : List ℕ) → Contains lines other → StartsEarly other)
    → (other : List ℕ) → Contains (first ∷ lines) other → StartsEarly other
with_first first lines starts early other m =
    elim (Contains-append_cases (first ∷ []) lines other m) [
      | inl here ↦ subst StartsEarly (only_one first other here) starts
      | inr there ↦ early other there
    ]

none_of : (other : List ℕ) → Contains [] other → StartsEarly other
none_of other (k, lt, e) = absurd (omega arith)

all_or_first : (lines : List (List ℕ)) → ((other : List ℕ) → Contains lines other → StartsEarly other) ⊎ FirstLate lines
all_or_first [] = inl none_of
all_or_first (line ∷ lines) =
    elim (early_or_late line) [
      | inl late ↦ inr (record { before = []; line = line; after = lines; parts = refl; early = none_of; late = late })
      | inr starts ↦ elim (all_or_first lines) [
        | inl early ↦ inl (with_first line lines starts early)
        | inr f ↦ inr (record {
          before = line ∷ f.before;
          line = f.line;
          after = f.after;
          parts = ap (λ (ls : List (List ℕ)). line ∷ ls) f.parts;
          early = with_first line f.before starts f.early;
          late = f.late;
        })
      ]
    ]

-- such a line has cause 1 without numeric mode
late_unknown : (before : List (List ℕ)) (line : List ℕ) → StartsLate line → IsFault WithoutNumericMode before line 1
late_unknown before line late =
    unknown_opcode (name_of late.opcode) late.rest late.begins
    (λ is. not_nothing _ (sym (opcode_line line late.rest late.opcode late.begins) ∙ line_gives-nothing line (comment (name_of late.opcode) late.rest late.begins is)))
    (λ opcode has same. late.later (subst (HasOpcode WithoutNumericMode) (sym (same_opcode late.opcode opcode same)) has)) refl

least_cause : (profile : Profile) (before : List (List ℕ)) (line : List ℕ) (cause : ℕ) → IsFault profile before line cause → 1 ≤ cause
least_cause profile before line cause (unknown_opcode field rest b n u e) = rw e (lit≤ tt)
least_cause profile before line cause (missing_operand opcode rest has b n e) = rw e (lit≤ tt)
least_cause profile before line cause (bad_characters opcode characters has h n e) = rw e (lit≤ tt)
least_cause profile before line cause (bad_dots opcode dots has h n e) = rw e (lit≤ tt)
least_cause profile before line cause (defined_before entry c g i s e) = rw e (lit≤ tt)
least_cause profile before line cause (defined_twice c upper_cells lower_cells g e) = rw e (lit≤ tt)
least_cause profile before line cause (given_before entry g s e) = rw e (lit≤ tt)
least_cause profile before line cause (long_line h e) = rw e (lit≤ tt)
least_cause profile before line cause (line_too_many h e) = rw e (lit≤ tt)
least_cause profile before line cause (many_characters opcode characters text has h s many e) = rw e (lit≤ tt)
least_cause profile before line cause (many_cells opcode dots cells has h w lt e) = rw e (lit≤ tt)

-- ---- lines before the first with a later opcode

-- a line that stands before others is one of them
split_at : (before rest front after : List (List ℕ)) (line : List ℕ) → before ++ rest ≡ front ++ line ∷ after → length front < length before → (more : List (List ℕ)) × (before ≡ front ++ line ∷ more)
split_at [] rest front after line e lt = absurd (omega arith)
split_at (x ∷ before) rest [] after line e lt = (before, let same : x ≡ line = cc in ap (λ (y : List ℕ). y ∷ before) same)
split_at (x ∷ before) rest (y ∷ front) after line e lt =
    let tails : before ++ rest ≡ front ++ line ∷ after = cc in
    let heads : x ≡ y = cc in
    let s = split_at before rest front after line tails (omega arith) in
    (s.0, ap (λ (t : List (List ℕ)). x ∷ t) s.1 ∙ ap (λ (h : List ℕ). h ∷ front ++ line ∷ s.0) heads)

front_early : (before front more : List (List ℕ)) (line : List ℕ) → before ≡ front ++ line ∷ more → ((other : List ℕ) → Contains before other → StartsEarly other)
    → ((other : List ℕ) → Contains front other → StartsEarly other) × StartsEarly line
front_early before front more line e early = (
  λ other m. early other (subst (λ (ls : List (List ℕ)). Contains ls other) (sym e) (Contains-append_left front (line ∷ more) other m)),
  early line (subst (λ (ls : List (List ℕ)). Contains ls line) (sym e) (Contains-append_right front (line ∷ more) line (Contains-append_left (line ∷ []) more line (0, omega arith, refl)))),
)

module _ (lines before rest : List (List ℕ)) (parts : lines ≡ before ++ rest) (early : (other : List ℕ) → Contains before other → StartsEarly other) where
  -- what is wrong among these lines is so in either profile
  to_last : (n cause : ℕ) → n ≤ length before → HasCause WithoutNumericMode lines n cause → HasCause WithNumericMode lines n cause
  to_last n cause le (on_line front line after e at f) =
      let s = split_at before rest front after line (sym parts ∙ e) (omega arith) in
      let h = front_early before front s.0 line s.1 early in
      on_line front line after e at (late_fault front line h.0 h.1 cause f)

  from_last : (n cause : ℕ) → n ≤ length before → HasCause WithNumericMode lines n cause → HasCause WithoutNumericMode lines n cause
  from_last n cause le (on_line front line after e at f) =
      let s = split_at before rest front after line (sym parts ∙ e) (omega arith) in
      let h = front_early before front s.0 line s.1 early in
      on_line front line after e at (early_fault front line h.0 h.1 cause f)

-- this fault of the lines is reported without numeric mode
pub record IsReportedEarly (lines : List (List ℕ)) (n cause : ℕ) : Type 0 where
  pub has : HasCause WithoutNumericMode lines n cause
  pub first : (m other : ℕ) → HasCause WithoutNumericMode lines m other → IsReportedNoLater n cause m other

module _ (lines : List (List ℕ)) (f : FirstLate lines) where
  -- if the lines before have no fault, the later opcode is reported
  tell_opcode : ((m other : ℕ) → HasCause WithNumericMode lines m other → length f.before < m) → IsReportedEarly lines (length f.before + 1) 1
  tell_opcode none =
      record { has = on_line f.before f.line f.after f.parts refl (late_unknown f.before f.line f.late); first = λ m other h. first m other h (cases_lt (length f.before) m) }
    where
      least : (m other : ℕ) → HasCause WithoutNumericMode lines m other → 1 ≤ other
      least m other (on_line front line after e at g) = least_cause WithoutNumericMode front line other g

      beyond : (m other : ℕ) → HasCause WithoutNumericMode lines m other → length f.before < m → (length f.before + 1 < m) ⊎ (m ≤ length f.before + 1) → IsReportedNoLater (length f.before + 1) 1 m other
      beyond m other h past (inl lt) = inl lt
      beyond m other h past (inr le) = inr (omega arith, least m other h)

      first : (m other : ℕ) → HasCause WithoutNumericMode lines m other → (length f.before < m) ⊎ (m ≤ length f.before) → IsReportedNoLater (length f.before + 1) 1 m other
      first m other h (inl past) = beyond m other h past (cases_lt (length f.before + 1) m)
      first m other h (inr le) = let past = none m other (to_last lines f.before (f.line ∷ f.after) f.parts f.early m other le h) in absurd (omega arith)

  -- a fault before it is reported first
  tell_before : (n cause : ℕ) → IsReported lines n cause → n ≤ length f.before → IsReportedEarly lines n cause
  tell_before n cause reported le =
      record {
        has = from_last lines f.before (f.line ∷ f.after) f.parts f.early n cause le reported.has;
        first = λ m other h. first m other h (cases_lt (length f.before) m);
      }
    where
      first : (m other : ℕ) → HasCause WithoutNumericMode lines m other → (length f.before < m) ⊎ (m ≤ length f.before) → IsReportedNoLater n cause m other
      first m other h (inl past) = inl (omega arith)
      first m other h (inr within) = reported.first m other (to_last lines f.before (f.line ∷ f.after) f.parts f.early m other within h)

  after_reported : (n cause : ℕ) → IsReported lines n cause → length f.before < n → (m other : ℕ) → HasCause WithNumericMode lines m other → length f.before < m
  after_reported n cause reported past m other h = by (reported.first m other h)
    where
      by : IsReportedNoLater n cause m other → length f.before < m
      by (inl lt) = omega arith
      by (inr (e, le)) = omega arith

  first_reported : (n : ℕ) × (cause : ℕ) × IsReportedEarly lines n cause
  first_reported =
      elim (outcome_from lines [] lines no_meaning [] (Reached-none lines no_meaning [] refl refl)) [
        | inl (t, rules, l) ↦ (length f.before + 1, 1, tell_opcode (λ m other h. absurd (l.is_sound m other h)))
        | inr (n, c, reported) ↦ elim (cases_lt (length f.before) n) [
          | inl past ↦ (length f.before + 1, 1, tell_opcode (after_reported n c reported past))
          | inr le ↦ (n, c, tell_before n c reported le)
        ]
      ]

-- ---- texts

late_cause : (lines : List (List ℕ)) → ((line : List ℕ) → Contains lines line → StartsEarly line) → (n cause : ℕ) → HasCause WithoutNumericMode lines n cause → HasCause WithNumericMode lines n cause
late_cause lines early n cause (on_line front line after e at f) =
    let h = front_early lines front after line e early in
    on_line front line after e at (late_fault front line h.0 h.1 cause f)

early_given : (n : ℕ) (lines : List (List ℕ)) (entries : List (ℕ × Entry)) → ((line : List ℕ) → Contains lines line → StartsEarly line) → GiveFrom WithNumericMode n lines entries → GiveFrom WithoutNumericMode n lines entries
early_given n [] entries early g = g
early_given n (line ∷ lines) entries early (inl (s, g)) =
    inl (s, early_given (n + 1) lines entries (λ other m. early other (Contains-append_right (line ∷ []) lines other m)) g)
early_given n (line ∷ lines) entries early (inr (entry, rest, gives, e, g)) =
    inr (
      entry,
      rest,
      early_entry line entry (early line (Contains-append_left (line ∷ []) lines line (0, omega arith, refl))) gives,
      e,
      early_given (n + 1) lines rest (λ other m. early other (Contains-append_right (line ∷ []) lines other m)) g,
    )

module _ (bytes : List ℕ) (early : (line : List ℕ) → Contains (text_lines bytes) line → StartsEarly line) where
  early_means : (t : Meaning) → Means bytes t → MeansIn WithoutNumericMode bytes t
  early_means t m =
      record {
        is_text = m.is_text;
        is_sound = λ n cause h. m.is_sound n cause (late_cause (text_lines bytes) early n cause h);
        entries = m.entries;
        given = early_given 1 (text_lines bytes) m.entries early m.given;
        made = m.made;
        is_complete = m.is_complete;
      }

  early_bad : (n cause : ℕ) → Bad bytes n cause → BadIn WithoutNumericMode bytes n cause
  early_bad n cause (no_text u i j) = no_text u i j
  early_bad n cause (bad_line u h first) =
      bad_line u (early_cause (text_lines bytes) n cause early h) (λ m other k. first m other (late_cause (text_lines bytes) early m other k))
  early_bad n cause (undefined_character u s es t g made entry a l first e) =
      undefined_character u (λ m other h. s m other (late_cause (text_lines bytes) early m other h)) es t (early_given 1 (text_lines bytes) es early g) made entry a l first e

pub some_meaning_without : (bytes : List ℕ) → ((t : Meaning) × MeansIn WithoutNumericMode bytes t) ⊎ ((n : ℕ) × (c : ℕ) × BadIn WithoutNumericMode bytes n c)
some_meaning_without bytes =
    elim (cases_Bool (is_utf8 bytes)) [
      | inl t ↦ elim (all_or_first (text_lines bytes)) [
        | inl early ↦ elim (some_meaning bytes) [
          | inl (m, h) ↦ inl (m, early_means bytes early m h)
          | inr (n, c, h) ↦ inr (n, c, early_bad bytes early n c h)
        ]
        | inr f ↦ let reported = first_reported (text_lines bytes) f in inr (reported.0, reported.1, bad_line (IsUtf8-from_is_utf8 bytes t) reported.2.has reported.2.first)
      ]
      | inr f ↦ inr (line_of_stop bytes, 9, no_text (λ u. true≢false (sym (is_utf8-from_IsUtf8 bytes u) ∙ f)) refl refl)
    ]

-- in each profile
pub some_meaning_in : (profile : Profile) (bytes : List ℕ) → ((t : Meaning) × MeansIn profile bytes t) ⊎ ((n : ℕ) × (c : ℕ) × BadIn profile bytes n c)
some_meaning_in WithoutNumericMode bytes = some_meaning_without bytes
some_meaning_in WithNumericMode bytes = some_meaning bytes
