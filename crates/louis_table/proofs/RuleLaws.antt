-- The rules that are finished are those that the entries give.
use Rattle.std.proofs.Common.{◌≡◌, ℕ, ◌+◌, ◌≤◌, Bool, true, false, cond, List, [], ◌∷◌, ◌++◌, Option, Some, None, Err, is_some, Contains, refl, sym, ap, subst, ◌∙◌, inl, inr, arith, flat_map, map}
use Rattle.std.proofs.lemmas.Grind.{flat_map-append}
use Rattle.std.proofs.lemmas.List.Elements.{Contains-append_left, Contains-append_right, Contains-append_cases}
use Rattle.louis_table.specs.declared.rule.Rule.{Rule}
use Rattle.louis_table.specs.declared.pending.PendingEntry.{PendingEntry}
use Rattle.louis_table.specs.declared.fault.ReadFault.{ReadFault}
use Rattle.louis_table.specs.declared.fault.ReadFault.TheVariants as faults
use Rattle.louis_table.specs.Meaning.{Meaning, definition_of, fold_of}
use Rattle.louis_table.specs.Steps.Table.{is_known}
use Rattle.louis_table.specs.Steps.Draft.{written_by}
use Rattle.louis_table.specs.Steps.Pending.{are_defined, is_complete, line_of, complete_rules, first_lacking, Finishes, FinishesAll}
use Rattle.louis_table.specs.Profile.{WithNumericMode}
use Rattle.louis_table.specs.Table.{Entry, Defines, Pairs, Replaces, Announces, Collects, GiveFrom, rules_in, IsLacking}
use Rattle.louis_table.proofs.VerdictLaws.{none_from, only_one}

-- ---- what is finished

finished_entry : (meaning : Meaning) (n : ℕ) (entry : Entry) → flat_map (complete_rules meaning) (written_by n entry) ≡ rules_in meaning (n, entry)
finished_entry meaning n (Defines k definition) = refl
finished_entry meaning n entry = refl

pub finished_entries : (meaning : Meaning) (entries : List (ℕ × Entry))
    → flat_map (complete_rules meaning) (flat_map (λ e. written_by e.0 e.1) entries) ≡ flat_map (rules_in meaning) entries
finished_entries meaning [] = refl
finished_entries meaning (e ∷ entries) =
    flat_map-append (complete_rules meaning) (written_by e.0 e.1) (flat_map (λ x. written_by x.0 x.1) entries)
    ∙ (ap (λ (rs : List Rule). rs ++ flat_map (complete_rules meaning) (flat_map (λ x. written_by x.0 x.1) entries)) (finished_entry meaning e.0 e.1)
    ∙ ap (λ (rs : List Rule). rules_in meaning e ++ rs) (finished_entries meaning entries))

-- ---- what is lacking

lacking_character : (meaning : Meaning) (text : List ℕ) → are_defined meaning (map (fold_of meaning) text) ≡ false
    → (character : ℕ) × Contains text character × (definition_of meaning (fold_of meaning character) ≡ None)
lacking_character meaning [] e = absurd cc
lacking_character meaning (c ∷ text) e = by (definition_of meaning (fold_of meaning c)) (λ f. none_from _ f) e (lacking_character meaning text)
  where
    by : {D : Type 0} (o : Option D) → (is_some o ≡ false → definition_of meaning (fold_of meaning c) ≡ None) → cond (is_some o) (are_defined meaning (map (fold_of meaning) text)) false ≡ false
        → (are_defined meaning (map (fold_of meaning) text) ≡ false → (character : ℕ) × Contains text character × (definition_of meaning (fold_of meaning character) ≡ None))
        → (character : ℕ) × Contains (c ∷ text) character × (definition_of meaning (fold_of meaning character) ≡ None)
    by None n e rec = (c, Contains-append_left (c ∷ []) text c (0, omega arith, refl), n refl)
    by (Some d) n e rec = let r = rec e in (r.0, Contains-append_right (c ∷ []) text r.0 r.1, r.2)

character_lacking : (meaning : Meaning) (text : List ℕ) (c : ℕ) → Contains text c → definition_of meaning (fold_of meaning c) ≡ None → are_defined meaning (map (fold_of meaning) text) ≡ false
character_lacking meaning [] c (k, lt, e) n = absurd (omega arith)
character_lacking meaning (x ∷ text) c m n =
    elim (Contains-append_cases (x ∷ []) text c m) [
      | inl here ↦
          let none : is_known meaning (fold_of meaning x) ≡ false = ap (λ (y : ℕ). is_known meaning (fold_of meaning y)) (only_one x c here) ∙ ap is_some n in
          ap (λ (b : Bool). cond b (are_defined meaning (map (fold_of meaning) text)) false) none
      | inr there ↦ by (is_known meaning (fold_of meaning x)) (character_lacking meaning text c there n)
    ]
  where
    by : (b : Bool) → are_defined meaning (map (fold_of meaning) text) ≡ false → cond b (are_defined meaning (map (fold_of meaning) text)) false ≡ false
    by true e = e
    by false e = refl

lacking_of_set : (meaning : Meaning) (text : List ℕ) → are_defined meaning text ≡ false → (character : ℕ) × Contains text character × (definition_of meaning character ≡ None)
lacking_of_set meaning [] e = absurd cc
lacking_of_set meaning (c ∷ text) e = by (definition_of meaning c) (λ f. none_from _ f) e (lacking_of_set meaning text)
  where
    by : {D : Type 0} (o : Option D) → (is_some o ≡ false → definition_of meaning c ≡ None) → cond (is_some o) (are_defined meaning text) false ≡ false
        → (are_defined meaning text ≡ false → (character : ℕ) × Contains text character × (definition_of meaning character ≡ None))
        → (character : ℕ) × Contains (c ∷ text) character × (definition_of meaning character ≡ None)
    by None n e rec = (c, Contains-append_left (c ∷ []) text c (0, omega arith, refl), n refl)
    by (Some d) n e rec = let r = rec e in (r.0, Contains-append_right (c ∷ []) text r.0 r.1, r.2)

set_lacking : (meaning : Meaning) (text : List ℕ) (c : ℕ) → Contains text c → definition_of meaning c ≡ None → are_defined meaning text ≡ false
set_lacking meaning [] c (k, lt, e) n = absurd (omega arith)
set_lacking meaning (x ∷ text) c m n =
    elim (Contains-append_cases (x ∷ []) text c m) [
      | inl here ↦
          let none : is_known meaning x ≡ false = ap (is_known meaning) (only_one x c here) ∙ ap is_some n in
          ap (λ (b : Bool). cond b (are_defined meaning text) false) none
      | inr there ↦ by (is_known meaning x) (set_lacking meaning text c there n)
    ]
  where
    by : (b : Bool) → are_defined meaning text ≡ false → cond b (are_defined meaning text) false ≡ false
    by true e = e
    by false e = refl

-- every character of the entry's rule or set is defined, if it has one
abbrev pub is_whole : Meaning → Entry → Bool
is_whole meaning (Defines k definition) = true
is_whole meaning (Pairs u uc l lc) = true
is_whole meaning (Replaces kind text cells) = are_defined meaning (map (fold_of meaning) text)
is_whole meaning (Announces sign cells) = true
is_whole meaning (Collects set text) = are_defined meaning text

is_whole-IsLacking : (meaning : Meaning) (entry : Entry) → is_whole meaning entry ≡ false → IsLacking meaning entry
is_whole-IsLacking meaning (Replaces kind text cells) e = lacking_character meaning text e
is_whole-IsLacking meaning (Collects set text) e = lacking_of_set meaning text e
is_whole-IsLacking meaning entry e = absurd cc

IsLacking-is_whole : (meaning : Meaning) (entry : Entry) → IsLacking meaning entry → is_whole meaning entry ≡ false
IsLacking-is_whole meaning (Replaces kind text cells) h = character_lacking meaning text h.0 h.1 h.2
IsLacking-is_whole meaning (Collects set text) h = set_lacking meaning text h.0 h.1 h.2
IsLacking-is_whole meaning entry h = absurd h

-- the line of the first entry whose rule lacks a definition
abbrev pub first_in : Meaning → List (ℕ × Entry) → Option ℕ
first_in meaning [] = None
first_in meaning (e ∷ entries) = cond (is_whole meaning e.1) (first_in meaning entries) (Some e.0)

first_of : (meaning : Meaning) (n : ℕ) (entry : Entry) (rules : List PendingEntry)
    → first_lacking meaning (written_by n entry ++ rules) ≡ cond (is_whole meaning entry) (first_lacking meaning rules) (Some n)
first_of meaning n (Defines k definition) rules = refl
first_of meaning n entry rules = refl

pub first_lacking-first_in : (meaning : Meaning) (entries : List (ℕ × Entry)) → first_lacking meaning (flat_map (λ e. written_by e.0 e.1) entries) ≡ first_in meaning entries
first_lacking-first_in meaning [] = refl
first_lacking-first_in meaning (e ∷ entries) =
    first_of meaning e.0 e.1 (flat_map (λ x. written_by x.0 x.1) entries)
    ∙ ap (λ (o : Option ℕ). cond (is_whole meaning e.1) o (Some e.0)) (first_lacking-first_in meaning entries)

pub first_in-None : (meaning : Meaning) (entries : List (ℕ × Entry)) (n : ℕ) (rule : Entry) → first_in meaning entries ≡ None → Contains entries (n, rule) → ¬ IsLacking meaning rule
first_in-None meaning [] n rule e (k, lt, at) h = omega arith
first_in-None meaning (x ∷ entries) n rule e m h = by (is_whole meaning x.1) refl e (λ none there. first_in-None meaning entries n rule none there h)
  where
    by : (b : Bool) → is_whole meaning x.1 ≡ b → cond b (first_in meaning entries) (Some x.0) ≡ None → (first_in meaning entries ≡ None → Contains entries (n, rule) → ⊥) → ⊥
    by true t e rec =
        elim (Contains-append_cases (x ∷ []) entries (n, rule) m) [
          | inl here ↦
              let lacks : is_whole meaning x.1 ≡ false = ap (λ (y : ℕ × Entry). is_whole meaning y.1) (only_one x (n, rule) here) ∙ IsLacking-is_whole meaning rule h in
              cc
          | inr there ↦ rec e there
        ]
    by false f e rec = cc

-- entries are in the order of their lines
GiveFrom-least : (n : ℕ) (lines : List (List ℕ)) (entries : List (ℕ × Entry)) (m : ℕ) (entry : Entry) → GiveFrom WithNumericMode n lines entries → Contains entries (m, entry) → n ≤ m
GiveFrom-least n [] entries m entry g c = none entries g c
  where
    none : (entries : List (ℕ × Entry)) → entries ≡ [] → Contains entries (m, entry) → n ≤ m
    none [] g (k, lt, e) = absurd (omega arith)
    none (x ∷ entries) g c = absurd cc
GiveFrom-least n (line ∷ lines) entries m entry (inl (s, g)) c = let le : n + 1 ≤ m = GiveFrom-least (n + 1) lines entries m entry g c in omega arith
GiveFrom-least n (line ∷ lines) entries m entry (inr (given, rest, gives, e, g)) c =
    elim (Contains-append_cases ((n, given) ∷ []) rest (m, entry) (subst (λ (es : List (ℕ × Entry)). Contains es (m, entry)) e c)) [
      | inl here ↦ let same : n ≡ m = ap (λ (x : ℕ × Entry). x.0) (only_one (n, given) (m, entry) here) in omega arith
      | inr there ↦ let le : n + 1 ≤ m = GiveFrom-least (n + 1) lines rest m entry g there in omega arith
    ]

-- the rule on line n lacks a definition, and none before it does
pub record IsFirstLacking (meaning : Meaning) (entries : List (ℕ × Entry)) (n : ℕ) : Type 0 where
  pub rule : Entry
  pub among : Contains entries (n, rule)
  pub lacking : IsLacking meaning rule
  pub first : (m : ℕ) (other : Entry) → Contains entries (m, other) → IsLacking meaning other → n ≤ m

pub first_in-Some : (meaning : Meaning) (k : ℕ) (lines : List (List ℕ)) (entries : List (ℕ × Entry)) (n : ℕ) → GiveFrom WithNumericMode k lines entries → first_in meaning entries ≡ Some n
    → IsFirstLacking meaning entries n
first_in-Some meaning k [] entries n g e = let none : first_in meaning entries ≡ None = ap (first_in meaning) g in absurd cc
first_in-Some meaning k (line ∷ lines) entries n (inl (s, g)) e = first_in-Some meaning (k + 1) lines entries n g e
first_in-Some meaning k (line ∷ lines) entries n (inr (given, rest, gives, i, g)) e =
    subst (λ (es : List (ℕ × Entry)). IsFirstLacking meaning es n) (sym i)
    (by (is_whole meaning given) refl (sym (ap (first_in meaning) i) ∙ e) (first_in-Some meaning (k + 1) lines rest n g))
  where
    at_front : is_whole meaning given ≡ false → k ≡ n → IsFirstLacking meaning ((k, given) ∷ rest) n
    at_front f same =
        record {
          rule = given;
          among = Contains-append_left ((k, given) ∷ []) rest (n, given) (0, omega arith, ap (λ (m : ℕ). (m, given)) same);
          lacking = is_whole-IsLacking meaning given f;
          first = λ m other c h. subst (λ (x : ℕ). x ≤ m) same (GiveFrom-least k (line ∷ lines) ((k, given) ∷ rest) m other (inr (given, rest, gives, refl, g)) c);
        }

    behind : is_whole meaning given ≡ true → IsFirstLacking meaning rest n → IsFirstLacking meaning ((k, given) ∷ rest) n
    behind t r =
        record {
          rule = r.rule;
          among = Contains-append_right ((k, given) ∷ []) rest (n, r.rule) r.among;
          lacking = r.lacking;
          first = λ m other c h. beyond m other c h;
        }
      where
        beyond : (m : ℕ) (other : Entry) → Contains ((k, given) ∷ rest) (m, other) → IsLacking meaning other → n ≤ m
        beyond m other c h =
            elim (Contains-append_cases ((k, given) ∷ []) rest (m, other) c) [
              | inl here ↦
                  let lacks : is_whole meaning given ≡ false = ap (λ (y : ℕ × Entry). is_whole meaning y.1) (only_one (k, given) (m, other) here) ∙ IsLacking-is_whole meaning other h in
                  absurd cc
              | inr there ↦ r.first m other there h
            ]

    by : (b : Bool) → is_whole meaning given ≡ b → cond b (first_in meaning rest) (Some k) ≡ Some n → (first_in meaning rest ≡ Some n → IsFirstLacking meaning rest n) → IsFirstLacking meaning ((k, given) ∷ rest) n
    by true t e rec = behind t (rec e)
    by false f e rec = at_front f cc

-- ---- one by one

pub first_lacking-append : (meaning : Meaning) (done rest : List PendingEntry) → first_lacking meaning done ≡ None → first_lacking meaning (done ++ rest) ≡ first_lacking meaning rest
first_lacking-append meaning [] rest e = refl
first_lacking-append meaning (w ∷ done) rest e = by (is_complete meaning w) e (first_lacking-append meaning done rest)
  where
    by : (b : Bool) → cond b (first_lacking meaning done) (Some (line_of w)) ≡ None → (first_lacking meaning done ≡ None → first_lacking meaning (done ++ rest) ≡ first_lacking meaning rest)
        → cond b (first_lacking meaning (done ++ rest)) (Some (line_of w)) ≡ first_lacking meaning rest
    by true e rec = rec e
    by false e rec = absurd cc

pub FinishesAll-fault : (meaning : Meaning) (all done rest : List PendingEntry) (one : PendingEntry) (old new : List Rule) (fault : ReadFault) → first_lacking meaning done ≡ None → all ≡ done ++ one ∷ rest
    → Finishes (Err fault) meaning one old new → FinishesAll (Err fault) meaning all
FinishesAll-fault meaning all done rest one old new (faults.Table fault) n e f = (
  ap (first_lacking meaning) e ∙ (first_lacking-append meaning done (one ∷ rest) n
      ∙ (ap (λ (b : Bool). cond b (first_lacking meaning rest) (Some (line_of one))) f.0 ∙ ap Some (sym f.1))),
  f.2,
)
FinishesAll-fault meaning all done rest one old new faults.NoMemory n e f = tt
