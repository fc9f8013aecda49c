-- Elements of lists, and the first that passes a test.
use Rattle.std.proofs.Common.{◌≡◌, ◌⊎◌, zero, suc, Bool, true, List, [], ◌∷◌, map, Some, Contains, refl, sym, ap, ◌∙◌, arith, inl, inr, find, option_map}
use Rattle.std.proofs.lemmas.Bool.{cases_Bool, cond-true, cond-false}
use Rattle.std.proofs.lemmas.List.{length-map, get_or-map}

module _ {X : Type 0} where
  pub Contains-here : (x : X) (xs : List X) → Contains (x ∷ xs) x
  Contains-here x xs = (0, omega arith, refl)

  pub Contains-behind : (x y : X) (xs : List X) → Contains xs y → Contains (x ∷ xs) y
  Contains-behind x y xs (k, within, at) = (suc k, omega arith, at)

  pub Contains-cases : (x y : X) (xs : List X) → Contains (x ∷ xs) y → (x ≡ y) ⊎ Contains xs y
  Contains-cases x y xs (zero, within, at) = inl at
  Contains-cases x y xs (suc k, within, at) = inr (k, omega arith, at)

  pub Contains-none : (y : X) → ¬ Contains [] y
  Contains-none y (k, within, at) = omega arith

  pub Contains-map : {Y : Type 0} (f : X → Y) (xs : List X) (x : X) → Contains xs x → Contains (map f xs) (f x)
  Contains-map f xs x (k, within, at) = (k, omega (arith, length-map xs f), get_or-map f xs k x (f x) within ∙ ap f at)

  module _ (test : X → Bool) where
    pub find-passes : (xs : List X) (x : X) → find test xs ≡ Some x → test x ≡ true
    find-passes [] x e = cc
    find-passes (y ∷ xs) x e =
        elim (cases_Bool (test y)) [
          | inl h ↦ let at = sym (cond-true (test y) (Some y) (find test xs) h) ∙ e in let same : y ≡ x = cc in ap test (sym same) ∙ h
          | inr h ↦ find-passes xs x (sym (cond-false (test y) (Some y) (find test xs) h) ∙ e)
        ]

    pub Contains-find : (xs : List X) (x : X) → find test xs ≡ Some x → Contains xs x
    Contains-find [] x e = absurd (cc)
    Contains-find (y ∷ xs) x e =
        elim (cases_Bool (test y)) [
          | inl h ↦ let at = sym (cond-true (test y) (Some y) (find test xs) h) ∙ e in let same : y ≡ x = cc in (0, omega arith, same)
          | inr h ↦ Contains-behind y x xs (Contains-find xs x (sym (cond-false (test y) (Some y) (find test xs) h) ∙ e))
        ]

    pub find-map : (f : X → X) → ((x : X) → test (f x) ≡ test x) → (xs : List X) → find test (map f xs) ≡ option_map f (find test xs)
    find-map f same [] = refl
    find-map f same (x ∷ xs) =
        elim (cases_Bool (test x)) [
          | inl h ↦ cond-true (test (f x)) (Some (f x)) (find test (map f xs)) (same x ∙ h) ∙ ap (option_map f) (sym (cond-true (test x) (Some x) (find test xs) h))
          | inr h ↦ cond-false (test (f x)) (Some (f x)) (find test (map f xs)) (same x ∙ h) ∙ (find-map f same xs ∙ ap (option_map f) (sym (cond-false (test x) (Some x) (find test xs) h)))
        ]
