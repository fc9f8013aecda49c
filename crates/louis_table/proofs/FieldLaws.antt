-- The field that is read is the one between gaps.
use Rattle.std.proofs.Common.{◌≡◌, ◌≢◌, ℕ, suc, Bool, true, false, not, List, [], ◌∷◌, ◌++◌, length, take, drop, refl, sym, ap, subst, ◌∙◌, arith, inl, inr, one-add}
use Rattle.std.specs.List.{AllByRecursion, prefix_len}
use Rattle.std.proofs.lemmas.Bool.{cases_Bool, not-true, not-false}
use Rattle.std.proofs.lemmas.List.{take-append-drop, take_at, drop_at, append-nil, drop_all}
use Rattle.louis_table.specs.Fields.{is_gap, IsGap, IsField, IsApart, Begins}
use Rattle.louis_table.specs.Steps.Fields.{after_gap, field_len, field_at}

-- the text is nothing, or begins with what fails the test
abbrev pub Stops : (ℕ → Bool) → List ℕ → Type 0
Stops p [] = Unit {0}
Stops p (c ∷ cs) = p c ≡ false

pub front_passes : (p : ℕ → Bool) (text : List ℕ) → AllByRecursion (λ c. p c ≡ true) (take (prefix_len p text) text)
front_passes p [] = tt
front_passes p (c ∷ text) = elim (cases_Bool (p c)) [ inl t ↦ rw t (rw one-add (t, front_passes p text)) | inr f ↦ rw f tt ]

pub rest_stops : (p : ℕ → Bool) (text : List ℕ) → Stops p (drop (prefix_len p text) text)
rest_stops p [] = tt
rest_stops p (c ∷ text) = elim (cases_Bool (p c)) [ inl t ↦ rw t (rw one-add (rest_stops p text)) | inr f ↦ rw f f ]

pub prefix_at : (p : ℕ → Bool) (front rest : List ℕ) → AllByRecursion (λ c. p c ≡ true) front → Stops p rest → prefix_len p (front ++ rest) ≡ length front
prefix_at p [] [] h s = refl
prefix_at p [] (c ∷ rest) h s = rw s refl
prefix_at p (c ∷ front) rest h s = rw h.0 (rw one-add (ap (λ n. suc n) (prefix_at p front rest h.1 s)))

abbrev no_gap : ℕ → Bool
no_gap c = not (is_gap c)

all_not : (text : List ℕ) → AllByRecursion (λ c. no_gap c ≡ true) text → AllByRecursion (λ c. is_gap c ≡ false) text
all_not [] h = tt
all_not (c ∷ text) h = (not-true (is_gap c) h.0, all_not text h.1)

not_all : (text : List ℕ) → AllByRecursion (λ c. is_gap c ≡ false) text → AllByRecursion (λ c. no_gap c ≡ true) text
not_all [] h = tt
not_all (c ∷ text) h = (ap not h.0, not_all text h.1)

apart_stops : (rest : List ℕ) → IsApart rest → Stops no_gap rest
apart_stops [] h = tt
apart_stops (c ∷ rest) h = ap not h

stops_apart : (rest : List ℕ) → Stops no_gap rest → IsApart rest
stops_apart [] h = tt
stops_apart (c ∷ rest) h = not-false (is_gap c) h

is_field_from : (field : List ℕ) → field ≢ [] → AllByRecursion (λ c. is_gap c ≡ false) field → IsField field
is_field_from [] ne h = absurd (ne refl)
is_field_from (c ∷ field) ne h = h

field_all : (field : List ℕ) → IsField field → AllByRecursion (λ c. is_gap c ≡ false) field
field_all [] h = absurd h
field_all (c ∷ field) h = h

field_stops : (field rest : List ℕ) → IsField field → Stops is_gap (field ++ rest)
field_stops [] rest h = absurd h
field_stops (c ∷ field) rest h = h.0

-- what is read is a field, unless it is empty
pub field_at-Begins : (text : List ℕ) → (field_at text).0 ≢ [] → Begins text (field_at text).0 (field_at text).1
field_at-Begins text ne =
    record {
      gap = take (prefix_len is_gap text) text;
      is_gap = front_passes is_gap text;
      is_field = is_field_from (field_at text).0 ne (all_not (field_at text).0 (front_passes no_gap (after_gap text)));
      is_apart = stops_apart (field_at text).1 (rest_stops no_gap (after_gap text));
      parts = sym (ap (λ (t : List ℕ). take (prefix_len is_gap text) text ++ t) (take-append-drop (field_len (after_gap text)) (after_gap text)) ∙ take-append-drop (prefix_len is_gap text) text);
    }

-- a field between gaps is read
pub Begins-field_at : (text field rest : List ℕ) → Begins text field rest → ((field_at text).0 ≡ field) × ((field_at text).1 ≡ rest)
Begins-field_at text field rest b = (ap (λ (t : List ℕ). take (field_len t) t) behind ∙ first, ap (λ (t : List ℕ). drop (field_len t) t) behind ∙ second)
  where
    behind : after_gap text ≡ field ++ rest
    behind = rw b.parts (rw (prefix_at is_gap b.gap (field ++ rest) b.is_gap (field_stops field rest b.is_field)) (drop_at b.gap (field ++ rest) (length b.gap) refl))

    len : field_len (field ++ rest) ≡ length field
    len = prefix_at no_gap field rest (not_all field (field_all field b.is_field)) (apart_stops rest b.is_apart)

    first : take (field_len (field ++ rest)) (field ++ rest) ≡ field
    first = rw len (take_at field rest (length field) refl)

    second : drop (field_len (field ++ rest)) (field ++ rest) ≡ rest
    second = rw len (drop_at field rest (length field) refl)

all_passes : (p : ℕ → Bool) (text : List ℕ) → drop (prefix_len p text) text ≡ [] → AllByRecursion (λ c. p c ≡ true) text
all_passes p text e = subst (λ (t : List ℕ). AllByRecursion (λ c. p c ≡ true) t) (sym (append-nil (take (prefix_len p text) text)) ∙ (ap (λ (t : List ℕ). take (prefix_len p text) text ++ t) (sym e) ∙ take-append-drop (prefix_len p text) text)) (front_passes p text)

no_cons : (c : ℕ) (xs : List ℕ) {A : Type 0} → c ∷ xs ≡ [] → A
no_cons c xs e = absurd cc

no_front : (p q : ℕ → Bool) (text : List ℕ) → ((c : ℕ) → p c ≡ false → q c ≡ true) → Stops p text → take (prefix_len q text) text ≡ [] → text ≡ []
no_front p q [] f s e = refl
no_front p q (c ∷ text) f s e = let t = f c s in no_cons c (take (prefix_len q text) text) (rw (t, one-add) at e)

-- a text without a field is a gap
pub IsGap-field_at : (text : List ℕ) → (field_at text).0 ≡ [] → IsGap text
IsGap-field_at text e = all_passes is_gap text (no_front is_gap no_gap (after_gap text) (λ c h. ap not h) (rest_stops is_gap text) e)

-- a gap has no field
pub field_at-gap : (text : List ℕ) → IsGap text → (field_at text).0 ≡ []
field_at-gap text h =
    let len : prefix_len is_gap text ≡ length text = ap (prefix_len is_gap) (sym (append-nil text)) ∙ prefix_at is_gap text [] h tt in
    let nothing : after_gap text ≡ [] = drop_all (prefix_len is_gap text) text (omega arith) in
    ap (λ (t : List ℕ). take (field_len t) t) nothing

-- a gap begins with no field
pub gap_without_field : (text field rest : List ℕ) → IsGap text → ¬ Begins text field rest
gap_without_field text field rest h b = empty field (sym (Begins-field_at text field rest b).0 ∙ field_at-gap text h) b.is_field
  where
    empty : (field : List ℕ) → field ≡ [] → ¬ IsField field
    empty [] e f = f
    empty (c ∷ field) e f = no_cons c field e
