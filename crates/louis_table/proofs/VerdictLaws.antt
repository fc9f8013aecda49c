-- The verdict on a line after others gives its smallest cause.
use Rattle.std.proofs.Common.{◌≡◌, ℕ, ◌+◌, ◌<◌, ◌≤◌, Bool, true, false, not, cond, ◌||◌, eqb, ltb, leb, List, [], ◌∷◌, ◌++◌, length, Option, Some, None, Result, Ok, Err, is_some, Contains, refl, sym, ap, subst, ◌∙◌, ◌⊎◌, inl, inr, arith, lit≤, rules, nat_eq, map}
use Rattle.std.specs.Map.{lookup}
use Rattle.std.specs.List.{flat_map, list_any}
use Rattle.std.proofs.lemmas.Bool.{eqb-true, eq-eqb, ne_eqb, lt-ltb, le-leb, not-false}
use Rattle.std.proofs.lemmas.List.{nil_from_length}
use Rattle.std.proofs.lemmas.List.Elements.{Contains-append_left, Contains-append_right, Contains-push_cases, Contains-append_cases}
use Rattle.cell_core.specs.Dots.{Dots}
use Rattle.louis_table.specs.declared.definition.Definition.{Definition}
use Rattle.louis_table.specs.declared.sign.Sign.{Sign}
use Rattle.louis_table.specs.declared.character_set.CharacterSet.{CharacterSet}
use Rattle.louis_table.specs.declared.pending.PendingEntry.{PendingEntry}
use Rattle.louis_table.specs.Fields.{IsField}
use Rattle.louis_table.specs.Characters.{Spells}
use Rattle.louis_table.specs.Meaning.{Meaning, sign_cells, set_characters}
use Rattle.louis_table.specs.Steps.Table.{is_known, IsNewFor, CanTake, HasDefinedPartners}
use Rattle.louis_table.specs.Steps.Line.{as_some, repeats, announces, is_large, verdict_by, entry_verdict, line_verdict, line_gives, judge_line}
use Rattle.louis_table.specs.Steps.Read.{Gathers, within_limits, judge}
use Rattle.louis_table.specs.Profile.{WithNumericMode}
use Rattle.louis_table.specs.Table.{most_lines, most_line_characters, Entry, Defines, Pairs, Replaces, Announces, Collects, SaysNothing, GivesEntry, definition_line, pair_line, rule_line, sign_line, set_line, GiveFrom, definitions_in, cells_for, characters_for, IsDefinedIn, GivesAgain, SomeGives, IsFault, unknown_opcode, missing_operand, bad_characters, bad_dots, defined_before, defined_twice, given_before, long_line, line_too_many, many_characters, many_cells}
use Rattle.louis_table.proofs.CharacterLaws.{chosen}
use Rattle.louis_table.proofs.EntryLaws.{Says, FailsBy, IsLargeBy, or_right, or_left, or_cases, line_gives-Says, line_gives-nothing, line_gives-entry, unknown_fails, missing_fails, characters_fail, dots_fail, many_characters_large, many_cells_large, large_fault}
use Rattle.louis_table.proofs.MeaningLaws.{own_sign, own_set, same_sign, same_set, sign_cells-map, set_characters-map}

-- ---- lines and entries

pub one_entry : (line : List ℕ) (e f : Entry) → GivesEntry WithNumericMode line e → GivesEntry WithNumericMode line f → e ≡ f
one_entry line e f g h =
    let one : line_gives line ≡ Ok (Some e) = line_gives-entry line e g in
    let other : line_gives line ≡ Ok (Some f) = line_gives-entry line f h in
    cc

pub nothing_or_entry : (line : List ℕ) (e : Entry) → SaysNothing line → ¬ GivesEntry WithNumericMode line e
nothing_or_entry line e s g =
    let one : line_gives line ≡ Ok None = line_gives-nothing line s in
    let other : line_gives line ≡ Ok (Some e) = line_gives-entry line e g in
    cc

-- one of the entries passes the test
abbrev pub any_gives : (Entry → Bool) → List (ℕ × Entry) → Bool
any_gives p entries = list_any (λ e. p e.1) entries

pub any_gives-SomeGives : (p : Entry → Bool) (n : ℕ) (lines : List (List ℕ)) (entries : List (ℕ × Entry)) → GiveFrom WithNumericMode n lines entries → any_gives p entries ≡ true
    → SomeGives WithNumericMode lines (λ entry. p entry ≡ true)
any_gives-SomeGives p n [] entries g h = let none : any_gives p entries ≡ false = ap (any_gives p) g in absurd cc
any_gives-SomeGives p n (line ∷ lines) entries (inl (s, g)) h =
    let d = any_gives-SomeGives p (n + 1) lines entries g h in
    (d.0, d.1, Contains-append_right (line ∷ []) lines d.0 d.2, d.3, d.4)
any_gives-SomeGives p n (line ∷ lines) entries (inr (entry, rest, gives, e, g)) h =
    by (p entry) refl (sym (ap (any_gives p) e) ∙ h) (λ t. any_gives-SomeGives p (n + 1) lines rest g t)
  where
    by : (b : Bool) → p entry ≡ b → b || any_gives p rest ≡ true → (any_gives p rest ≡ true → SomeGives WithNumericMode lines (λ entry. p entry ≡ true)) → SomeGives WithNumericMode (line ∷ lines) (λ entry. p entry ≡ true)
    by true t h rec = (line, entry, (0, omega arith, refl), gives, t)
    by false f h rec = let d = rec h in (d.0, d.1, Contains-append_right (line ∷ []) lines d.0 d.2, d.3, d.4)

pub only_one : {X : Type 0} (x y : X) → Contains (x ∷ []) y → x ≡ y
only_one x y m = elim (Contains-push_cases [] x y m) [ inl (k, lt, e) ↦ absurd (omega arith) | inr e ↦ e ]

pub SomeGives-any_gives : (p : Entry → Bool) (n : ℕ) (lines : List (List ℕ)) (entries : List (ℕ × Entry)) → GiveFrom WithNumericMode n lines entries → SomeGives WithNumericMode lines (λ entry. p entry ≡ true)
    → any_gives p entries ≡ true
SomeGives-any_gives p n [] entries g (l, entry, (k, lt, e), gives, t) = absurd (omega arith)
SomeGives-any_gives p n (line ∷ lines) entries (inl (s, g)) (l, entry, m, gives, t) =
    elim (Contains-append_cases (line ∷ []) lines l m) [
      | inl here ↦ absurd (nothing_or_entry line entry s (subst (λ (x : List ℕ). GivesEntry WithNumericMode x entry) (sym (only_one line l here)) gives))
      | inr there ↦ SomeGives-any_gives p (n + 1) lines entries g (l, entry, there, gives, t)
    ]
SomeGives-any_gives p n (line ∷ lines) entries (inr (given, rest, i, e, g)) (l, entry, m, gives, t) =
    ap (any_gives p) e ∙
    elim (Contains-append_cases (line ∷ []) lines l m) [
      | inl here ↦
          let same : entry ≡ given = one_entry line entry given (subst (λ (x : List ℕ). GivesEntry WithNumericMode x entry) (sym (only_one line l here)) gives) i in
          or_left (p given) (any_gives p rest) (sym (ap p same) ∙ t)
      | inr there ↦ or_right (p given) (any_gives p rest) (SomeGives-any_gives p (n + 1) lines rest g (l, entry, there, gives, t))
    ]

map_SomeGives : (lines : List (List ℕ)) (P Q : Entry → Type 0) → SomeGives WithNumericMode lines P → ((line : List ℕ) (entry : Entry) → GivesEntry WithNumericMode line entry → P entry → Q entry) → SomeGives WithNumericMode lines Q
map_SomeGives lines P Q (line, entry, m, gives, h) f = (line, entry, m, gives, f line entry gives h)

-- ---- the characters that entries define

lookup-append : {X : Type 0} (p : ℕ → Bool) (xs ys : List (ℕ × X)) → is_some (lookup p (xs ++ ys)) ≡ (is_some (lookup p xs) || is_some (lookup p ys))
lookup-append p [] ys = refl
lookup-append p ((k, x) ∷ xs) ys = by (p k) (lookup-append p xs ys)
  where
    by : (b : Bool) → is_some (lookup p (xs ++ ys)) ≡ (is_some (lookup p xs) || is_some (lookup p ys))
        → is_some (cond b (Some x) (lookup p (xs ++ ys))) ≡ (is_some (cond b (Some x) (lookup p xs)) || is_some (lookup p ys))
    by true e = refl
    by false e = e

pub lookup-flat_map : {X : Type 0} (p : ℕ → Bool) (f : Entry → List (ℕ × X)) (entries : List (ℕ × Entry))
    → is_some (lookup p (flat_map (λ e. f e.1) entries)) ≡ any_gives (λ entry. is_some (lookup p (f entry))) entries
lookup-flat_map p f [] = refl
lookup-flat_map p f (e ∷ entries) = lookup-append p (f e.1) (flat_map (λ e. f e.1) entries) ∙ ap (λ (b : Bool). is_some (lookup p (f e.1)) || b) (lookup-flat_map p f entries)

lookup-Contains : {X : Type 0} (c : ℕ) (xs : List (ℕ × X)) → is_some (lookup (nat_eq c) xs) ≡ true → Contains (map (λ x. x.0) xs) c
lookup-Contains c [] h = absurd cc
lookup-Contains c ((k, x) ∷ xs) h = by (nat_eq c k) refl h (lookup-Contains c xs)
  where
    by : (b : Bool) → nat_eq c k ≡ b → is_some (cond b (Some x) (lookup (nat_eq c) xs)) ≡ true → (is_some (lookup (nat_eq c) xs) ≡ true → Contains (map (λ x. x.0) xs) c)
        → Contains (k ∷ map (λ x. x.0) xs) c
    by true t h rec = Contains-append_left (k ∷ []) (map (λ x. x.0) xs) c (0, omega arith, sym (eqb-true c k t))
    by false f h rec = Contains-append_right (k ∷ []) (map (λ x. x.0) xs) c (rec h)

Contains-lookup : {X : Type 0} (c : ℕ) (xs : List (ℕ × X)) → Contains (map (λ x. x.0) xs) c → is_some (lookup (nat_eq c) xs) ≡ true
Contains-lookup c [] (k, lt, e) = absurd (omega arith)
Contains-lookup c ((k, x) ∷ xs) m =
    elim (Contains-append_cases (k ∷ []) (map (λ x. x.0) xs) c m) [
      | inl here ↦ by (nat_eq c k) (inl (eq-eqb c k (sym (only_one k c here))))
      | inr there ↦ by (nat_eq c k) (inr (Contains-lookup c xs there))
    ]
  where
    by : (b : Bool) → (b ≡ true) ⊎ (is_some (lookup (nat_eq c) xs) ≡ true) → is_some (cond b (Some x) (lookup (nat_eq c) xs)) ≡ true
    by true h = refl
    by false (inl e) = absurd cc
    by false (inr h) = h

-- the entry defines the character
abbrev defines : ℕ → Entry → Bool
defines c entry = is_some (lookup (nat_eq c) (definitions_in entry))

module _ (lines : List (List ℕ)) (meaning : Meaning) (written : List PendingEntry) (g : Gathers lines meaning written) where
  is_known-any : (c : ℕ) → is_known meaning c ≡ any_gives (defines c) g.entries
  is_known-any c = ap (λ (ds : List (ℕ × Definition)). is_some (lookup (nat_eq c) ds)) g.definitions ∙ lookup-flat_map (nat_eq c) definitions_in g.entries

  pub is_known-SomeGives : (c : ℕ) → is_known meaning c ≡ true → SomeGives WithNumericMode lines (IsDefinedIn c)
  is_known-SomeGives c t =
      map_SomeGives lines (λ entry. defines c entry ≡ true) (IsDefinedIn c) (any_gives-SomeGives (defines c) 1 lines g.entries g.given (sym (is_known-any c) ∙ t))
      (λ line entry gives h. lookup-Contains c (definitions_in entry) h)

  pub SomeGives-is_known : (c : ℕ) → SomeGives WithNumericMode lines (IsDefinedIn c) → is_known meaning c ≡ true
  SomeGives-is_known c s =
      is_known-any c
      ∙ SomeGives-any_gives (defines c) 1 lines g.entries g.given
      (map_SomeGives lines (IsDefinedIn c) (λ entry. defines c entry ≡ true) s (λ line entry gives h. Contains-lookup c (definitions_in entry) h))

-- ---- the signs and sets that entries give

abbrev are_some : List ℕ → Bool
are_some xs = not (eqb (length xs) 0)

are_some-append : (xs ys : List ℕ) → are_some (xs ++ ys) ≡ (are_some xs || are_some ys)
are_some-append [] ys = refl
are_some-append (x ∷ xs) ys = search rules

are_some-flat_map : (f : Entry → List ℕ) (entries : List (ℕ × Entry)) → are_some (flat_map (λ e. f e.1) entries) ≡ any_gives (λ entry. are_some (f entry)) entries
are_some-flat_map f [] = refl
are_some-flat_map f (e ∷ entries) = are_some-append (f e.1) (flat_map (λ e. f e.1) entries) ∙ ap (λ (b : Bool). are_some (f e.1) || b) (are_some-flat_map f entries)

-- a list that is there under a condition has something only where that holds
are_some-cond : (b : Bool) (xs : List ℕ) → are_some (cond b xs []) ≡ true → b ≡ true
are_some-cond true xs e = refl
are_some-cond false xs e = absurd cc

cells_for-Announces : (sign : Sign) (entry : Entry) → are_some (cells_for sign entry) ≡ true → (cells : List ℕ) × (entry ≡ Announces sign cells)
cells_for-Announces sign (Announces other cells) h =
    (cells, ap (λ (x : Sign). Announces x cells) (sym (same_sign sign other (are_some-cond _ cells h))))
cells_for-Announces sign entry h = absurd cc

characters_for-Collects : (set : CharacterSet) (entry : Entry) → are_some (characters_for set entry) ≡ true → (text : List ℕ) × (entry ≡ Collects set text)
characters_for-Collects set (Collects other text) h =
    (text, ap (λ (x : CharacterSet). Collects x text) (sym (same_set set other (are_some-cond _ text h))))
characters_for-Collects set entry h = absurd cc

cells_for-own : (sign : Sign) (cells : List ℕ) → cells_for sign (Announces sign cells) ≡ cells
cells_for-own sign cells = ap (λ (b : Bool). cond b cells []) (own_sign sign)

characters_for-own : (set : CharacterSet) (text : List ℕ) → characters_for set (Collects set text) ≡ text
characters_for-own set text = ap (λ (b : Bool). cond b text []) (own_set set)

Dots-some : (dots cells : List ℕ) → Dots dots cells → are_some cells ≡ true
Dots-some dots [] d = absurd d
Dots-some dots (cell ∷ cells) d = ap not (ne_eqb _ _ (λ e. omega arith))

Spells-some : (characters text : List ℕ) → IsField characters → Spells characters text → are_some text ≡ true
Spells-some [] text f s = absurd f
Spells-some (x ∷ characters) [] f s = absurd cc
Spells-some (x ∷ characters) (c ∷ text) f s = ap not (ne_eqb _ _ (λ e. omega arith))

GivesEntry-some : (line : List ℕ) (entry : Entry) (sign : Sign) (cells : List ℕ) → GivesEntry WithNumericMode line entry → entry ≡ Announces sign cells → are_some cells ≡ true
GivesEntry-some line entry sign cells (definition_line class characters dots c others has h s d e) same = absurd cc
GivesEntry-some line entry sign cells (pair_line characters dots upper lower upper_cells lower_cells has h s d e) same = absurd cc
GivesEntry-some line entry sign cells (rule_line kind characters dots text others has h s d e) same = absurd cc
GivesEntry-some line entry sign cells (sign_line other dots others has h d e) same = search (rules, Dots-some)
GivesEntry-some line entry sign cells (set_line set characters text has h s e) same = absurd cc

GivesEntry-some_text : (line : List ℕ) (entry : Entry) (set : CharacterSet) (text : List ℕ) → GivesEntry WithNumericMode line entry → entry ≡ Collects set text → are_some text ≡ true
GivesEntry-some_text line entry set text (definition_line class characters dots c others has h s d e) same = absurd cc
GivesEntry-some_text line entry set text (pair_line characters dots upper lower upper_cells lower_cells has h s d e) same = absurd cc
GivesEntry-some_text line entry set text (rule_line kind characters dots others cells has h s d e) same = absurd cc
GivesEntry-some_text line entry set text (sign_line other dots others has h d e) same = absurd cc
GivesEntry-some_text line entry set text (set_line other characters others has h s e) same = search (rules, Spells-some)

module _ (lines : List (List ℕ)) (meaning : Meaning) (written : List PendingEntry) (g : Gathers lines meaning written) where
  sign_cells-any : (sign : Sign) → are_some (sign_cells meaning sign) ≡ any_gives (λ entry. are_some (cells_for sign entry)) g.entries
  sign_cells-any sign = ap are_some (sign_cells-map meaning (λ sign. flat_map (λ e. cells_for sign e.1) g.entries) g.signs sign) ∙ are_some-flat_map (cells_for sign) g.entries

  set_characters-any : (set : CharacterSet) → are_some (set_characters meaning set) ≡ any_gives (λ entry. are_some (characters_for set entry)) g.entries
  set_characters-any set = ap are_some (set_characters-map meaning (λ set. flat_map (λ e. characters_for set e.1) g.entries) g.sets set) ∙ are_some-flat_map (characters_for set) g.entries

  -- an earlier line gives the sign or the set of the entry
  pub announces-SomeGives : (entry : Entry) → announces meaning entry ≡ true → SomeGives WithNumericMode lines (GivesAgain entry)
  announces-SomeGives (Announces sign cells) t =
      map_SomeGives lines (λ entry. are_some (cells_for sign entry) ≡ true) (GivesAgain (Announces sign cells))
      (any_gives-SomeGives (λ entry. are_some (cells_for sign entry)) 1 lines g.entries g.given (sym (sign_cells-any sign) ∙ t))
      (λ line entry gives h. cells_for-Announces sign entry h)
  announces-SomeGives (Collects set text) t =
      map_SomeGives lines (λ entry. are_some (characters_for set entry) ≡ true) (GivesAgain (Collects set text))
      (any_gives-SomeGives (λ entry. are_some (characters_for set entry)) 1 lines g.entries g.given (sym (set_characters-any set) ∙ t))
      (λ line entry gives h. characters_for-Collects set entry h)
  announces-SomeGives entry t = absurd cc

  nobody_again : SomeGives WithNumericMode lines (λ entry. ⊥) → ⊥
  nobody_again (line, entry, m, gives, h) = h

  pub SomeGives-announces : (entry : Entry) → SomeGives WithNumericMode lines (GivesAgain entry) → announces meaning entry ≡ true
  SomeGives-announces (Announces sign cells) s =
      sign_cells-any sign
      ∙ SomeGives-any_gives (λ entry. are_some (cells_for sign entry)) 1 lines g.entries g.given
      (map_SomeGives lines (GivesAgain (Announces sign cells)) (λ entry. are_some (cells_for sign entry) ≡ true) s
      (λ line entry gives h. ap (λ (x : Entry). are_some (cells_for sign x)) h.1 ∙ (ap are_some (cells_for-own sign h.0) ∙ GivesEntry-some line entry sign h.0 gives h.1)))
  SomeGives-announces (Collects set text) s =
      set_characters-any set
      ∙ SomeGives-any_gives (λ entry. are_some (characters_for set entry)) 1 lines g.entries g.given
      (map_SomeGives lines (GivesAgain (Collects set text)) (λ entry. are_some (characters_for set entry) ≡ true) s
      (λ line entry gives h. ap (λ (x : Entry). are_some (characters_for set x)) h.1 ∙ (ap are_some (characters_for-own set h.0) ∙ GivesEntry-some_text line entry set h.0 gives h.1)))
  SomeGives-announces entry s = absurd (nobody_again s)

-- ---- a verdict against a line is a fault

-- why a limit is passed
abbrev IsLong : ℕ → List ℕ → Type 0
IsLong before line = (most_line_characters < length line) ⊎ (most_lines ≤ before)

abbrev is_long : ℕ → List ℕ → Bool
is_long before line = ltb most_line_characters (length line) || leb most_lines before

is_long-IsLong : (before : ℕ) (line : List ℕ) → is_long before line ≡ true → IsLong before line
is_long-IsLong before line e = search rules

IsLong-is_long : (before : ℕ) (line : List ℕ) → IsLong before line → is_long before line ≡ true
IsLong-is_long before line (inl h) = or_left _ _ (lt-ltb _ _ h)
IsLong-is_long before line (inr h) = or_right (ltb most_line_characters (length line)) _ (le-leb _ _ h)

err_is : (a c : ℕ) → (let r : Result (Option Entry) ℕ = Err a in r) ≡ Err c → c ≡ a
err_is a c e = cc

module _ (before : List (List ℕ)) (line : List ℕ) (meaning : Meaning) (written : List PendingEntry) (gathered : Gathers before meaning written) where
  limits_fault : (given : Option Entry) (c : ℕ) → within_limits (length before) line (Ok given) ≡ Err c → IsFault WithNumericMode before line c
  limits_fault given c e =
      elim (chosen (is_long (length before) line) _ _ _ e) [
        | inl p ↦ elim (is_long-IsLong (length before) line p.0) [
          | inl long ↦ long_line long (err_is 8 c p.1)
          | inr many ↦ line_too_many many (err_is 8 c p.1)
        ]
        | inr p ↦ absurd cc
      ]

  repeats_fault : (entry : Entry) → GivesEntry WithNumericMode line entry → repeats meaning entry ≡ true → IsFault WithNumericMode before line 5
  repeats_fault (Defines k definition) g t =
      defined_before (Defines k definition) k g (0, omega arith, refl) (is_known-SomeGives before meaning written gathered k t) refl
  repeats_fault (Pairs u uc l lc) g t =
      elim (or_cases (eqb u l || is_known meaning u) (is_known meaning l) t) [
        | inl p ↦ elim (or_cases (eqb u l) (is_known meaning u) p) [
          | inl q ↦ defined_twice u uc lc (subst (λ (x : ℕ). GivesEntry WithNumericMode line (Pairs u uc x lc)) (sym (eqb-true u l q)) g) refl
          | inr q ↦ defined_before (Pairs u uc l lc) u g (0, omega arith, refl) (is_known-SomeGives before meaning written gathered u q) refl
        ]
        | inr p ↦ defined_before (Pairs u uc l lc) l g (1, omega arith, refl) (is_known-SomeGives before meaning written gathered l p) refl
      ]
  repeats_fault entry g t = absurd cc

  announces_fault : (entry : Entry) → GivesEntry WithNumericMode line entry → announces meaning entry ≡ true → IsFault WithNumericMode before line 6
  announces_fault entry g t = given_before entry g (announces-SomeGives before meaning written gathered entry t) refl

  entry_fault : (entry : Entry) (c : ℕ) → GivesEntry WithNumericMode line entry → (r a l : Bool) → repeats meaning entry ≡ r → announces meaning entry ≡ a → is_large entry ≡ l
      → within_limits (length before) line (as_some (verdict_by r a l entry)) ≡ Err c → IsFault WithNumericMode before line c
  entry_fault entry c g true a l x y z e = subst (IsFault WithNumericMode before line) (sym (err_is 5 c e)) (repeats_fault entry g x)
  entry_fault entry c g false true l x y z e = subst (IsFault WithNumericMode before line) (sym (err_is 6 c e)) (announces_fault entry g y)
  entry_fault entry c g false false true x y z e = subst (IsFault WithNumericMode before line) (sym (err_is 8 c e)) (large_fault before line entry g z)
  entry_fault entry c g false false false x y z e = limits_fault (Some entry) c e

  verdict_fault : (v : Result (Option Entry) ℕ) (c : ℕ) → Says line v → within_limits (length before) line (line_verdict meaning v) ≡ Err c → IsFault WithNumericMode before line c
  unfolding entry_verdict
  verdict_fault (Ok None) c s e = limits_fault None c e
  verdict_fault (Ok (Some entry)) c s e = entry_fault entry c s _ _ _ refl refl refl e
  verdict_fault (Err a) c s e = subst (λ (x : ℕ). IsFault WithNumericMode before line x) (sym (err_is a c e)) (s before)

  -- the cause that is given is one
  pub judge-Fault : (c : ℕ) → judge meaning (length before) line ≡ Err c → IsFault WithNumericMode before line c
  unfolding judge judge_line
  judge-Fault c e = verdict_fault (line_gives line) c (line_gives-Says line) e

  -- ---- and the smallest

  -- a cause is given that is at most this one
  abbrev IsJudged : ℕ → Type 0
  IsJudged cause = (least : ℕ) × (judge meaning (length before) line ≡ Err least) × (least ≤ cause)

  fails_judged : (cause : ℕ) → FailsBy line cause → IsJudged cause
  unfolding judge judge_line
  fails_judged cause (least, e, le) = (least, ap (λ (v : Result (Option Entry) ℕ). within_limits (length before) line (line_verdict meaning v)) e, le)

  entry_judged : (entry : Entry) → line_gives line ≡ Ok (Some entry)
      → judge meaning (length before) line ≡ within_limits (length before) line (as_some (verdict_by (repeats meaning entry) (announces meaning entry) (is_large entry) entry))
  unfolding judge judge_line entry_verdict
  entry_judged entry e = ap (λ (v : Result (Option Entry) ℕ). within_limits (length before) line (line_verdict meaning v)) e

  repeats_judged : (entry : Entry) → GivesEntry WithNumericMode line entry → repeats meaning entry ≡ true → IsJudged 5
  repeats_judged entry g t = (5, entry_judged entry (line_gives-entry line entry g) ∙ by (repeats meaning entry) t, lit≤ tt)
    where
      by : (r : Bool) → r ≡ true → within_limits (length before) line (as_some (verdict_by r (announces meaning entry) (is_large entry) entry)) ≡ Err 5
      by true t = refl
      by false t = absurd cc

  announces_judged : (entry : Entry) → GivesEntry WithNumericMode line entry → announces meaning entry ≡ true → IsJudged 6
  announces_judged entry g t =
      let b = by (repeats meaning entry) (announces meaning entry) t in
      (b.0, entry_judged entry (line_gives-entry line entry g) ∙ b.1, b.2)
    where
      by : (r a : Bool) → a ≡ true → (least : ℕ) × (within_limits (length before) line (as_some (verdict_by r a (is_large entry) entry)) ≡ Err least) × (least ≤ 6)
      by true a t = (5, refl, lit≤ tt)
      by false true t = (6, refl, lit≤ tt)
      by false false t = absurd cc

  large_judged : IsLargeBy line → IsJudged 8
  large_judged (inl f) = fails_judged 8 f
  large_judged (inr (entry, e, t)) =
      let b = by (repeats meaning entry) (announces meaning entry) (is_large entry) t in
      (b.0, entry_judged entry e ∙ b.1, b.2)
    where
      by : (r a l : Bool) → l ≡ true → (least : ℕ) × (within_limits (length before) line (as_some (verdict_by r a l entry)) ≡ Err least) × (least ≤ 8)
      by true a l t = (5, refl, lit≤ tt)
      by false true l t = (6, refl, lit≤ tt)
      by false false true t = (8, refl, lit≤ tt)
      by false false false t = absurd cc

  fault_small : (c : ℕ) → IsFault WithNumericMode before line c → c ≤ 8
  fault_small c (unknown_opcode field rest b n u e) = rw e (lit≤ tt)
  fault_small c (missing_operand opcode rest has b n e) = rw e (lit≤ tt)
  fault_small c (bad_characters opcode characters has h n e) = rw e (lit≤ tt)
  fault_small c (bad_dots opcode dots has h n e) = rw e (lit≤ tt)
  fault_small c (defined_before entry k g i s e) = rw e (lit≤ tt)
  fault_small c (defined_twice k uc lc g e) = rw e (lit≤ tt)
  fault_small c (given_before entry g s e) = rw e (lit≤ tt)
  fault_small c (long_line h e) = rw e (lit≤ tt)
  fault_small c (line_too_many h e) = rw e (lit≤ tt)
  fault_small c (many_characters opcode characters text has h s many e) = rw e (lit≤ tt)
  fault_small c (many_cells opcode dots cells has h w lt e) = rw e (lit≤ tt)

  long_judged : (v : Result (Option Entry) ℕ) → judge_line meaning line ≡ v → IsLong (length before) line → IsJudged 8
  unfolding judge
  long_judged (Ok given) e h =
      (8, ap (within_limits (length before) line) e ∙ ap (λ (b : Bool). cond b (Err 8) (Ok given)) (IsLong-is_long (length before) line h), lit≤ tt)
  long_judged (Err c) e h =
      let j : judge meaning (length before) line ≡ Err c = ap (within_limits (length before) line) e in
      (c, j, fault_small c (judge-Fault c j))

  repeats-defined : (entry : Entry) (c : ℕ) → IsDefinedIn c entry → is_known meaning c ≡ true → repeats meaning entry ≡ true
  repeats-defined (Defines k definition) c m t = ap (is_known meaning) (only_one k c m) ∙ t
  repeats-defined (Pairs u uc l lc) c m t =
      elim (Contains-append_cases (u ∷ []) (l ∷ []) c m) [
        | inl here ↦ or_left _ _ (or_right (eqb u l) _ (ap (is_known meaning) (only_one u c here) ∙ t))
        | inr there ↦ or_right (eqb u l || is_known meaning u) _ (ap (is_known meaning) (only_one l c there) ∙ t)
      ]
  repeats-defined (Replaces kind text cells) c (k, lt, e) t = absurd (omega arith)
  repeats-defined (Announces sign cells) c (k, lt, e) t = absurd (omega arith)
  repeats-defined (Collects set text) c (k, lt, e) t = absurd (omega arith)

  pub IsFault-judge : (cause : ℕ) → IsFault WithNumericMode before line cause → IsJudged cause
  IsFault-judge cause (unknown_opcode field rest b n u e) = rw e (fails_judged 1 (unknown_fails line field rest b n u))
  IsFault-judge cause (missing_operand opcode rest has b n e) = rw e (fails_judged 2 (missing_fails line rest opcode b n))
  IsFault-judge cause (bad_characters opcode characters has h n e) = rw e (fails_judged 3 (characters_fail line characters opcode h n))
  IsFault-judge cause (bad_dots opcode dots has h n e) = rw e (fails_judged 4 (dots_fail line dots opcode h n))
  IsFault-judge cause (defined_before entry k g i s e) =
      rw e (repeats_judged entry g (repeats-defined entry k i (SomeGives-is_known before meaning written gathered k s)))
  IsFault-judge cause (defined_twice k uc lc g e) =
      rw e (repeats_judged (Pairs k uc k lc) g (or_left _ _ (or_left _ _ (eq-eqb k k refl))))
  IsFault-judge cause (given_before entry g s e) =
      rw e (announces_judged entry g (SomeGives-announces before meaning written gathered entry s))
  IsFault-judge cause (long_line h e) = rw e (long_judged (judge_line meaning line) refl (inl h))
  IsFault-judge cause (line_too_many h e) = rw e (long_judged (judge_line meaning line) refl (inr h))
  IsFault-judge cause (many_characters opcode characters text has h s many e) = rw e (large_judged (many_characters_large line characters text opcode h s many))
  IsFault-judge cause (many_cells opcode dots cells has h w lt e) = rw e (large_judged (many_cells_large line dots cells opcode h w lt))

-- ---- a line that is accepted

pub verdict_by-Ok : (r a l : Bool) (entry other : Entry) → verdict_by r a l entry ≡ Ok other → (entry ≡ other) × (r ≡ false) × (a ≡ false) × (l ≡ false)
verdict_by-Ok true a l entry other e = absurd cc
verdict_by-Ok false true l entry other e = absurd cc
verdict_by-Ok false false true entry other e = absurd cc
verdict_by-Ok false false false entry other e = (cc, refl, refl, refl)

as_some-Ok : (r : Result Entry ℕ) (given : Option Entry) → as_some r ≡ Ok given → (entry : Entry) × (r ≡ Ok entry) × (given ≡ Some entry)
as_some-Ok (Ok entry) given e = (entry, refl, cc)
as_some-Ok (Err c) given e = absurd cc

-- a verdict gives what the line says
line_verdict-Ok : (meaning : Meaning) (v : Result (Option Entry) ℕ) (given : Option Entry) → line_verdict meaning v ≡ Ok given → v ≡ Ok given
unfolding entry_verdict
line_verdict-Ok meaning (Ok None) given e = e
line_verdict-Ok meaning (Ok (Some entry)) given e = search rules
line_verdict-Ok meaning (Err c) given e = absurd cc

within_limits-Ok : (before : ℕ) (line : List ℕ) (v : Result (Option Entry) ℕ) (given : Option Entry) → within_limits before line v ≡ Ok given → (v ≡ Ok given) × (is_long before line ≡ false)
within_limits-Ok before line (Ok other) given e = search rules
within_limits-Ok before line (Err c) given e = absurd cc

pub judge-given : (meaning : Meaning) (before : ℕ) (line : List ℕ) (given : Option Entry) → judge meaning before line ≡ Ok given → Says line (Ok given)
unfolding judge judge_line
judge-given meaning before line given e =
    subst (Says line) (line_verdict-Ok meaning (line_gives line) given (within_limits-Ok before line (judge_line meaning line) given e).0) (line_gives-Says line)

-- a line that is accepted isn't one too many
pub judge-few : (meaning : Meaning) (before : ℕ) (line : List ℕ) (given : Option Entry) → judge meaning before line ≡ Ok given → before < most_lines
unfolding judge
judge-few meaning before line given e = search rules

-- ---- steps of the code

pub judge-from_line : (meaning : Meaning) (before : ℕ) (line : List ℕ) (c : ℕ) → judge_line meaning line ≡ Err c → judge meaning before line ≡ Err c
unfolding judge
judge-from_line meaning before line c e = ap (within_limits before line) e

pub judge-beyond : (meaning : Meaning) (before : ℕ) (line : List ℕ) (given : Option Entry) → judge_line meaning line ≡ Ok given
    → (most_line_characters < length line) ⊎ (most_lines ≤ before) → judge meaning before line ≡ Err 8
unfolding judge
judge-beyond meaning before line given e h = ap (within_limits before line) e ∙ ap (λ (b : Bool). cond b (Err 8) (Ok given)) (IsLong-is_long before line h)

pub judge-within : (meaning : Meaning) (before : ℕ) (line : List ℕ) (given : Option Entry) → judge_line meaning line ≡ Ok given
    → length line ≤ most_line_characters → before < most_lines → judge meaning before line ≡ Ok given
unfolding judge
judge-within meaning before line given e short few =
    ap (within_limits before line) e ∙ by (is_long before line) refl
  where
    by : (b : Bool) → is_long before line ≡ b → (let r : Result (Option Entry) ℕ = cond b (Err 8) (Ok given) in r) ≡ Ok given
    by true t = elim (is_long-IsLong before line t) [ inl h ↦ absurd (omega arith) | inr h ↦ absurd (omega arith) ]
    by false f = refl

pub none_from : {X : Type 0} (o : Option X) → is_some o ≡ false → o ≡ None
none_from None e = refl
none_from (Some x) e = absurd cc

IsNewFor-tests : (meaning : Meaning) (entry : Entry) → HasDefinedPartners meaning → repeats meaning entry ≡ false → announces meaning entry ≡ false → IsNewFor meaning entry
IsNewFor-tests meaning (Defines k definition) p r a = none_from _ r
IsNewFor-tests meaning (Pairs u uc l lc) p r a = search rules
IsNewFor-tests meaning (Replaces kind text cells) p r a = tt
IsNewFor-tests meaning (Announces sign cells) p r a = nil_from_length _ (eqb-true _ _ (not-false _ a))
IsNewFor-tests meaning (Collects set text) p r a = nil_from_length _ (eqb-true _ _ (not-false _ a))

-- what is given is new
pub judge_line-new : (meaning : Meaning) (line : List ℕ) (entry : Entry) → HasDefinedPartners meaning → judge_line meaning line ≡ Ok (Some entry) → IsNewFor meaning entry
unfolding judge_line entry_verdict
judge_line-new meaning line entry p e = by (line_gives line) e
  where
    by : (v : Result (Option Entry) ℕ) → line_verdict meaning v ≡ Ok (Some entry) → IsNewFor meaning entry
    by (Ok None) e = absurd cc
    by (Ok (Some other)) e =
        let s = as_some-Ok (verdict_by (repeats meaning other) (announces meaning other) (is_large other) other) (Some entry) e in
        let v = verdict_by-Ok _ _ _ other s.0 s.1 in
        let same : other ≡ entry = v.0 ∙ (let t : Some s.0 ≡ Some entry = sym s.2 in cc) in
        subst (IsNewFor meaning) same (IsNewFor-tests meaning other p v.1 v.2)
    by (Err c) e = absurd cc

pub judge_line-CanTake : (meaning : Meaning) (line : List ℕ) (given : Option Entry) → HasDefinedPartners meaning → judge_line meaning line ≡ Ok given → CanTake meaning given
judge_line-CanTake meaning line None p e = tt
judge_line-CanTake meaning line (Some entry) p e = judge_line-new meaning line entry p e
