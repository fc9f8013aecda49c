-- Lists in order, by neighbours, and that each list can be put in order.
use Rattle.std.proofs.Common.{◌≡◌, ℕ, zero, suc, ◌+◌, ◌<◌, Bool, false, List, [], ◌∷◌, map, length, slice_index_or, sym, ◌∙◌, ◌↔◌, arith, true, inl, inr, IsPermutation, IsSortedBy}
use Rattle.std.proofs.lemmas.Bool.{cases_Bool}
use Rattle.std.proofs.lemmas.List.Sorted.{IsPermutation-refl, IsPermutation-cons, IsPermutation-middle, IsPermutation-sym, IsPermutation-trans}

-- no element is below the one before it
abbrev pub Rises : {X : Type 0} → (X → X → Bool) → List X → Type 0
Rises lt [] = Unit {0}
Rises lt (x ∷ []) = Unit {0}
Rises lt (x ∷ y ∷ ys) = (lt y x ≡ false) × Rises lt (y ∷ ys)

pub rises : {X : Type 0} (lt : X → X → Bool) (xs : List X) → IsSortedBy lt xs → Rises lt xs
rises lt [] up = tt
rises lt (x ∷ []) up = tt
rises lt (x ∷ y ∷ ys) up = (up 0 x (omega arith) (omega arith), rises lt (y ∷ ys) (λ k d low high. grind (arith, up (suc k) d, high)))

pub sorted : {X : Type 0} (lt : X → X → Bool) (xs : List X) → Rises lt xs → IsSortedBy lt xs
sorted lt [] up = λ k d low high. absurd (omega (arith, high))
sorted lt (x ∷ []) up = λ k d low high. absurd (omega (arith, high))
sorted {X} lt (x ∷ y ∷ ys) up = λ k d low high. go k d high (sorted lt (y ∷ ys) up.1)
  where
    go : (k : ℕ) (d : X) → k + 1 < length (x ∷ y ∷ ys) → IsSortedBy lt (y ∷ ys) → lt (slice_index_or (x ∷ y ∷ ys) (k + 1) d) (slice_index_or (x ∷ y ∷ ys) k d) ≡ false
    go zero d high more = up.0
    go (suc k) d high more = grind (arith, more k d (omega arith) (omega (arith, high)))

-- a list rises if and only if what a map makes of it does, if the map keeps the order
module _ {X Y : Type 0} (f : X → Y) (lt : X → X → Bool) (lt' : Y → Y → Bool) (same : (a b : X) → lt a b ≡ lt' (f a) (f b)) where
  pub rises_map : (xs : List X) → Rises lt xs ↔ Rises lt' (map f xs)
  rises_map [] = (λ up. tt, λ up. tt)
  rises_map (x ∷ []) = (λ up. tt, λ up. tt)
  rises_map (x ∷ y ∷ ys) = let more = rises_map (y ∷ ys) in (λ up. (sym (same y x) ∙ up.0, more.0 up.1), λ up. (same y x ∙ up.0, more.1 up.1))

-- ---- each list can be put in order

module _ {X : Type 0} (lt : X → X → Bool) (one_way : (a b : X) → lt a b ≡ true → lt b a ≡ false) where
  rest_rises : (x : X) (xs : List X) → Rises lt (x ∷ xs) → Rises lt xs
  rest_rises x [] up = tt
  rest_rises x (y ∷ ys) up = up.1

  -- an element finds its place; one that it isn't below, and that could stand before the list, still can
  placed : (x : X) (ys : List X) → Rises lt ys
      → (zs : List X) × IsPermutation (x ∷ ys) zs × Rises lt zs × ((y : X) → lt x y ≡ false → Rises lt (y ∷ ys) → Rises lt (y ∷ zs))
  placed x [] up = (x ∷ [], IsPermutation-refl (x ∷ []), tt, λ y later more. (later, tt))
  placed x (y ∷ ys) up = elim (cases_Bool (lt y x)) [
    | inl below ↦
        let rest = placed x ys (rest_rises y ys up) in
        let moved = IsPermutation-trans _ _ _ (IsPermutation-sym _ _ (IsPermutation-middle (y ∷ []) x ys)) (IsPermutation-cons y _ _ rest.1) in
        let all = rest.3 y (one_way y x below) up in
        (y ∷ rest.0, moved, all, λ z later more. (more.0, all))
    | inr other ↦ (x ∷ y ∷ ys, IsPermutation-refl (x ∷ y ∷ ys), (other, up), λ z later more. (later, (other, up)))
  ]

  pub in_order : (xs : List X) → (ys : List X) × IsPermutation xs ys × Rises lt ys
  in_order [] = ([], IsPermutation-refl [], tt)
  in_order (x ∷ xs) =
      let more = in_order xs in
      let all = placed x more.0 more.2 in (all.0, IsPermutation-trans _ _ _ (IsPermutation-cons x _ _ more.1) all.1, all.2)
