-- Rows in groups, by the parts that they belong to.
use Rattle.std.proofs.Common.{◌≡◌, ℤ, List, [], ◌∷◌, ◌++◌, map, filter, Contains, refl, sym, ap₂, subst, inl, inr, flat_map, IsPermutation, int_eq}
use Rattle.std.specs.Cmp.{signed_Decides}
use Rattle.std.proofs.lemmas.Bool.{cond-false, cond-true, false_from_ne_true}
use Rattle.std.proofs.lemmas.List.Sorted.{IsPermutation-append, IsPermutation-cons, IsPermutation-middle, IsPermutation-refl, IsPermutation-sym, IsPermutation-trans}
use Rattle.desk_model.proofs.Lists.Members.{Contains-behind, Contains-cases, Contains-here, Contains-none}
use Rattle.desk_model.proofs.Lists.NumberedRows.{AreOnce, once-rest}
use Rattle.desk_model.proofs.Lists.Permutations.{IsPermutation-same}
use Rattle.desk_model.proofs.Lists.Stable.{same_int}

module _ {X Y : Type 0} (key : X → ℤ) (id : Y → ℤ) where
  -- those that belong to a part
  abbrev pub group : List X → Y → List X
  group xs y = filter (λ x. int_eq (key x) (id y)) xs

  group-other : (x : X) (xs : List X) (y : Y) → ¬ (key x ≡ id y) → group (x ∷ xs) y ≡ group xs y
  group-other x xs y other =
      cond-false (int_eq (key x) (id y)) (x ∷ group xs y) (group xs y)
      (false_from_ne_true (int_eq (key x) (id y)) (λ is. other ((signed_Decides (key x) (id y)).0 is)))

  groups-other : (x : X) (xs : List X) (ys : List Y) → ¬ Contains (map id ys) (key x) → flat_map (group (x ∷ xs)) ys ≡ flat_map (group xs) ys
  groups-other x xs [] nowhere = refl
  groups-other x xs (y ∷ ys) nowhere =
      ap₂ (λ (front back : List X). front ++ back)
      (group-other x xs y (λ is. nowhere (subst (Contains (map id (y ∷ ys))) (sym is) (Contains-here (id y) (map id ys)))))
      (groups-other x xs ys (λ c. nowhere (Contains-behind (id y) (key x) (map id ys) c)))

  -- one more stands in one group
  one-more : (x : X) (xs : List X) (ys : List Y) → AreOnce (map id ys) → Contains (map id ys) (key x)
      → IsPermutation (x ∷ flat_map (group xs) ys) (flat_map (group (x ∷ xs)) ys)
  one-more x xs [] once c = absurd (Contains-none (key x) c)
  one-more x xs (y ∷ ys) once c =
      elim (same_int (key x) (id y)) [
        | inl same ↦
            let alone : ¬ Contains (map id ys) (key x) = λ again. once (id y) (map id ys) (IsPermutation-refl (map id (y ∷ ys))) (subst (Contains (map id ys)) same again) in
            let first : group (x ∷ xs) y ≡ x ∷ group xs y = cond-true (int_eq (key x) (id y)) (x ∷ group xs y) (group xs y) ((signed_Decides (key x) (id y)).1 same) in
            IsPermutation-same (x ∷ flat_map (group xs) (y ∷ ys)) (flat_map (group (x ∷ xs)) (y ∷ ys))
            (sym (ap₂ (λ (front back : List X). front ++ back) first (groups-other x xs ys alone)))
        | inr other ↦ elim (Contains-cases (id y) (key x) (map id ys) c) [
          | inl same ↦ absurd (other (sym same))
          | inr later ↦
              let rest = one-more x xs ys (once-rest (map id (y ∷ ys)) (map id ys) (id y) once (IsPermutation-refl (map id (y ∷ ys)))) later in
              IsPermutation-trans _ _ _ (IsPermutation-sym _ _ (IsPermutation-middle (group xs y) x (flat_map (group xs) ys)))
              (IsPermutation-append _ _ _ _ (IsPermutation-same (group xs y) (group (x ∷ xs) y) (sym (group-other x xs y other))) rest)
        ]
      ]

  no-groups : (ys : List Y) → flat_map (group []) ys ≡ []
  no-groups [] = refl
  no-groups (y ∷ ys) = no-groups ys

  -- where each belongs to a part, and no two parts are the same, the groups have them all
  pub all-grouped : (xs : List X) (ys : List Y) → AreOnce (map id ys) → ((x : X) → Contains xs x → Contains (map id ys) (key x)) → IsPermutation xs (flat_map (group xs) ys)
  all-grouped [] ys once each = IsPermutation-same [] (flat_map (group []) ys) (sym (no-groups ys))
  all-grouped (x ∷ xs) ys once each =
      IsPermutation-trans _ _ _ (IsPermutation-cons x _ _ (all-grouped xs ys once (λ other c. each other (Contains-behind x other xs c))))
      (one-more x xs ys once (each x (Contains-here x xs)))
