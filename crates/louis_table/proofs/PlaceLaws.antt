-- The places of the first characters, in a map without entries and as entries come.
use Rattle.std.proofs.Common.{◌≡◌, ◌≢◌, ℕ, zero, suc, ◌<◌, ◌≤◌, Bool, true, ◌&&◌, eqb, List, [], ◌∷◌, ◌++◌, length, set, Some, None, refl, sym, ap, subst, ◌∙◌, arith, inl, inr, add-one, rules, slice_index, slice_get, nat_eq}
use Rattle.std.specs.Map.{lookup}
use Rattle.std.proofs.lemmas.Bool.{cases_Bool, eqb-true, eqb-false, ne_eqb}
use Rattle.std.proofs.lemmas.List.{get_or-set_other, get_or-set_same, length-set, length_push}
use Rattle.louis_table.specs.FirstEntries.{IsPlaceOf, AreIn}

-- ---- no entry

abbrev pub are_zero : List ℕ → Bool
are_zero [] = true
are_zero (x ∷ xs) = eqb x 0 && are_zero xs

zero_at : (xs : List ℕ) (i : ℕ) → are_zero xs ≡ true → slice_index xs i ≡ 0
zero_at [] i e = refl
zero_at (x ∷ xs) zero e = elim (cases_Bool (eqb x 0)) [ inl t ↦ eqb-true x 0 t | inr f ↦ let g = rw f at e in absurd cc ]
zero_at (x ∷ xs) (suc i) e = elim (cases_Bool (eqb x 0)) [ inl t ↦ zero_at xs i (rw t at e) | inr f ↦ let g = rw f at e in absurd cc ]

pub AreIn-none : {V : Type 0} (places : List ℕ) (entries : List (ℕ × V)) → length places ≡ 128 → are_zero places ≡ true → entries ≡ [] → AreIn places entries
AreIn-none {V} places entries count e none = search (rules, zero_at)

-- ---- one more entry

module _ {V : Type 0} where
  slice_get-push_before : (entries : List (ℕ × V)) (e x : ℕ × V) (i : ℕ) → slice_get entries i ≡ Some e → slice_get (entries ++ x ∷ []) i ≡ Some e
  slice_get-push_before [] e x i h = absurd cc
  slice_get-push_before (y ∷ entries) e x zero h = h
  slice_get-push_before (y ∷ entries) e x (suc i) h = slice_get-push_before entries e x i h

  slice_get-push_last : (entries : List (ℕ × V)) (x : ℕ × V) → slice_get (entries ++ x ∷ []) (length entries) ≡ Some x
  slice_get-push_last [] x = refl
  slice_get-push_last (y ∷ entries) x = slice_get-push_last entries x

  lookup-push_other : (entries : List (ℕ × V)) (c k : ℕ) (v : V) → c ≢ k → lookup (nat_eq c) entries ≡ None → lookup (nat_eq c) (entries ++ (k, v) ∷ []) ≡ None
  lookup-push_other [] c k v ne h = rw (ne_eqb c k ne) refl
  lookup-push_other (e ∷ entries) c k v ne h =
      elim (cases_Bool (eqb c e.0)) [
        | inl t ↦ let g = rw t at h in absurd cc
        | inr f ↦ rw f (lookup-push_other entries c k v ne (rw f at h))
      ]

  IsPlaceOf-push : (place : ℕ) (entries : List (ℕ × V)) (c k : ℕ) (v : V) → c ≢ k → IsPlaceOf place entries c → IsPlaceOf place (entries ++ (k, v) ∷ []) c
  IsPlaceOf-push zero entries c k v ne h = lookup-push_other entries c k v ne h
  IsPlaceOf-push (suc index) entries c k v ne h = (h.0, slice_get-push_before entries (c, h.0) (k, v) index h.1)

  -- after a character that has a place
  pub AreIn-push_first : (places : List ℕ) (entries more : List (ℕ × V)) (k n : ℕ) (v : V) → AreIn places entries → k < 128 → more ≡ entries ++ (k, v) ∷ [] → n ≡ length more → AreIn (set places k n) more
  AreIn-push_first places entries more k n v a small e size =
      subst (λ (es : List (ℕ × V)). AreIn (set places k n) es) (sym e)
      (record {
        count = length-set places k n ∙ a.count;
        each = λ c lt. elim (cases_Bool (eqb c k)) [
          | inl t ↦ subst (λ (x : ℕ). IsPlaceOf (slice_index (set places k n) x) (entries ++ (k, v) ∷ []) x) (sym (eqb-true c k t)) here
          | inr f ↦
              subst (λ (p : ℕ). IsPlaceOf p (entries ++ (k, v) ∷ []) c) (sym (get_or-set_other places k c n 0 (eqb-false c k f)))
              (IsPlaceOf-push (slice_index places c) entries c k v (eqb-false c k f) (a.each c lt))
        ];
      })
    where
      within : k < length places
      within = let w = a.count in omega arith

      last : n ≡ suc (length entries)
      last = size ∙ (ap (length {A = ℕ × V}) e ∙ (length_push entries (k, v) ∙ add-one (length entries)))

      here : IsPlaceOf (slice_index (set places k n) k) (entries ++ (k, v) ∷ []) k
      here = subst (λ (p : ℕ). IsPlaceOf p (entries ++ (k, v) ∷ []) k) (sym (get_or-set_same places k n 0 within ∙ last)) (v, slice_get-push_last entries (k, v))

  -- after any other character
  pub AreIn-push_later : (places : List ℕ) (entries more : List (ℕ × V)) (k : ℕ) (v : V) → AreIn places entries → 128 ≤ k → more ≡ entries ++ (k, v) ∷ [] → AreIn places more
  AreIn-push_later places entries more k v a large e =
      subst (λ (es : List (ℕ × V)). AreIn places es) (sym e)
      (record { count = a.count; each = λ c lt. let ne : c ≢ k = omega arith in IsPlaceOf-push (slice_index places c) entries c k v ne (a.each c lt) })
