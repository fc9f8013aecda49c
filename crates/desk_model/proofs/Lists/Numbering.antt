-- The numbers from one on, in some order.
use Rattle.std.proofs.Common.{◌≡◌, ℕ, ◌+◌, ◌-◌, ◌<◌, ◌≤◌, List, [], ◌∷◌, ◌++◌, get_or, Contains, sym, ap, subst, ◌∙◌, arith, IsPermutation, nat_eq, ne_eqb}
use Rattle.std.specs.List.{IsDistinct, range_with_len}
use Rattle.std.proofs.lemmas.List.FromFn.{length-range_with_len, get_or-range_with_len}
use Rattle.std.proofs.lemmas.List.Sorted.{Contains-permutation, IsPermutation-cons, IsPermutation-sym, IsPermutation-trans, IsPermutation-to_front}
use Rattle.std.proofs.lemmas.Map.Keys.{IsDistinct-from_apart, IsDistinct-IsPermutation}
use Rattle.std.proofs.lemmas.Cmp.{nat_eq_equiv}
use Rattle.desk_model.proofs.Lists.Items.{range_with_len-push}

pub Contains-range : (a n x : ℕ) → a ≤ x → x < a + n → Contains (range_with_len a n) x
Contains-range a n x from to =
    let at : a + (x - a) ≡ x = omega arith in
    (x - a, omega (arith, length-range_with_len a n), get_or-range_with_len a n (x - a) x (omega arith) ∙ at)

pub within-range : (a n x : ℕ) → Contains (range_with_len a n) x → (a ≤ x) × (x < a + n)
within-range a n x (k, within, at) =
    let lt : k < n = omega (arith, length-range_with_len a n) in
    let is = get_or-range_with_len a n k x lt in
    (omega arith, omega arith)

pub IsDistinct-range : (a n : ℕ) → IsDistinct nat_eq (range_with_len a n)
IsDistinct-range a n =
    IsDistinct-from_apart nat_eq (range_with_len a n) (λ i j d less within.
    let lt : j < n = omega (arith, length-range_with_len a n) in
    let first = get_or-range_with_len a n i d (omega arith) in
    let second = get_or-range_with_len a n j d lt in
    ne_eqb (get_or (range_with_len a n) i d) (get_or (range_with_len a n) j d) (λ e. omega arith))

-- numbers that are those from one on, in some order, are distinct, and each of them is there
module _ (n : ℕ) (ids : List ℕ) (moved : IsPermutation (range_with_len 1 n) ids) where
  pub IsDistinct-numbers : IsDistinct nat_eq ids
  IsDistinct-numbers = IsDistinct-IsPermutation nat_eq (λ x y. nat_eq_equiv.symm x y) (range_with_len 1 n) ids moved (IsDistinct-range 1 n)

  pub Contains-numbers : (id : ℕ) → 1 ≤ id → id ≤ n → Contains ids id
  Contains-numbers id from to = Contains-permutation _ _ id moved (Contains-range 1 n id from (omega arith))

  pub within-numbers : (id : ℕ) → Contains ids id → (1 ≤ id) × (id ≤ n)
  within-numbers id c =
      let within = within-range 1 n id (Contains-permutation _ _ id (IsPermutation-sym _ _ moved) c) in
      (within.0, omega arith)

  -- with the next number before them, they are again
  pub next-number : IsPermutation (range_with_len 1 (n + 1)) ((n + 1) ∷ ids)
  next-number =
      let next : range_with_len 1 (n + 1) ≡ range_with_len 1 n ++ (n + 1) ∷ [] = range_with_len-push 1 n ∙ ap (λ (k : ℕ). range_with_len 1 n ++ k ∷ []) (omega arith) in
      subst (λ (xs : List ℕ). IsPermutation xs ((n + 1) ∷ ids)) (sym next) (IsPermutation-trans _ _ _
      (IsPermutation-to_front (range_with_len 1 n) (n + 1)) (IsPermutation-cons (n + 1) _ _ moved))
