-- The same elements in another order.
use Rattle.std.proofs.Common.{◌≡◌, ℕ, zero, suc, ◌<◌, Bool, true, false, cond, List, [], ◌∷◌, map, filter, length, get_or, set, swap, subst, arith, IsPermutation}
use Rattle.std.proofs.lemmas.List.Sorted.{IsPermutation-refl, IsPermutation-keeps, IsPermutation-cons, IsPermutation-middle, IsPermutation-trans}

pub IsPermutation-same : {X : Type 0} (xs ys : List X) → xs ≡ ys → IsPermutation xs ys
IsPermutation-same xs ys e = subst (IsPermutation xs) e (IsPermutation-refl xs)

-- the first two change places
pub IsPermutation-exchange : {X : Type 0} (x y : X) (xs : List X) → IsPermutation (x ∷ y ∷ xs) (y ∷ x ∷ xs)
IsPermutation-exchange x y xs = IsPermutation-middle (x ∷ []) y xs

-- A relation holds along each permutation if it is reflexive and transitive, goes under a head, and over an exchange of two heads.
module _ {X : Type 0} (R : List X → List X → Type 0) (same : (xs : List X) → R xs xs)
    (under : (x : X) (xs ys : List X) → R xs ys → R (x ∷ xs) (x ∷ ys)) (exchange : (x y : X) (xs : List X) → R (x ∷ y ∷ xs) (y ∷ x ∷ xs))
    (chain : (xs ys zs : List X) → R xs ys → R ys zs → R xs zs) where
  to_head : (l : List X) (j : ℕ) (x d : X) → j < length l → R (x ∷ l) (get_or l j d ∷ set l j x)
  to_head [] j x d h = absurd (omega arith)
  to_head (y ∷ l) zero x d h = exchange x y l
  to_head (y ∷ l) (suc j) x d h =
      chain _ _ _ (exchange x y l) (chain _ _ _ (under y _ _ (to_head l j x d (omega arith))) (exchange y (get_or l j d) (set l j x)))

  exchanged : (l : List X) (i j : ℕ) (d : X) → i < length l → j < length l → R l (set (set l i (get_or l j d)) j (get_or l i d))
  exchanged [] i j d p q = absurd (omega arith)
  exchanged (x ∷ l) zero zero d p q = same (x ∷ l)
  exchanged (x ∷ l) zero (suc j) d p q = to_head l j x d (omega arith)
  exchanged (x ∷ l) (suc i) zero d p q = to_head l i x d (omega arith)
  exchanged (x ∷ l) (suc i) (suc j) d p q = under x _ _ (exchanged l i j d (omega arith) (omega arith))

  swapped : (l : List X) (i j : ℕ) → i < length l → j < length l → R l (swap l i j)
  swapped [] i j p q = same []
  swapped (x ∷ l) i j p q = exchanged (x ∷ l) i j x p q

  pub along_permutation : (xs ys : List X) → IsPermutation xs ys → R xs ys
  along_permutation xs = IsPermutation-keeps xs (R xs) (same xs) (λ l i j p q h. chain xs l _ h (swapped l i j p q))

module _ {X : Type 0} (p : X → Bool) where
  under_filter : (x : X) (xs ys : List X) → IsPermutation (filter p xs) (filter p ys) → IsPermutation (filter p (x ∷ xs)) (filter p (x ∷ ys))
  under_filter x xs ys h = go (p x)
    where
      go : (b : Bool) → IsPermutation (cond b (x ∷ filter p xs) (filter p xs)) (cond b (x ∷ filter p ys) (filter p ys))
      go true = IsPermutation-cons x _ _ h
      go false = h

  exchange_filter : (x y : X) (xs : List X) → IsPermutation (filter p (x ∷ y ∷ xs)) (filter p (y ∷ x ∷ xs))
  exchange_filter x y xs = go (p x) (p y)
    where
      go : (a b : Bool) → IsPermutation (cond a (x ∷ cond b (y ∷ filter p xs) (filter p xs)) (cond b (y ∷ filter p xs) (filter p xs))) (cond b (y ∷ cond a (x ∷ filter p xs) (filter p xs)) (cond a (x ∷ filter p xs) (filter p xs)))
      go true true = IsPermutation-exchange x y (filter p xs)
      go true false = IsPermutation-refl (x ∷ filter p xs)
      go false true = IsPermutation-refl (y ∷ filter p xs)
      go false false = IsPermutation-refl (filter p xs)

  -- those that pass a test are the same, too
  pub IsPermutation-filter : (xs ys : List X) → IsPermutation xs ys → IsPermutation (filter p xs) (filter p ys)
  IsPermutation-filter =
      along_permutation (λ xs ys. IsPermutation (filter p xs) (filter p ys))
      (λ xs. IsPermutation-refl (filter p xs)) under_filter exchange_filter
      (λ xs ys zs. IsPermutation-trans (filter p xs) (filter p ys) (filter p zs))

-- ---- what a map makes of elements in another order

module _ {A B : Type 0} (f : A → B) where
  -- elements of which the map makes the one list have an order of which it makes the other
  abbrev pub PullsBack : List B → List B → Type 0
  PullsBack xs ys = (from : List A) → xs ≡ map f from → (to : List A) × IsPermutation from to × (ys ≡ map f to)

  under_head : (x : B) (xs ys : List B) → PullsBack xs ys → PullsBack (x ∷ xs) (x ∷ ys)
  under_head x xs ys rest [] is = absurd (cc)
  under_head x xs ys rest (a ∷ from) is =
      let head : x ≡ f a = cc in
      let tail : xs ≡ map f from = cc in
      let later = rest from tail in
      (a ∷ later.0, IsPermutation-cons a _ _ later.1, λ i. head i ∷ later.2 i)

  heads_exchanged : (x y : B) (xs : List B) → PullsBack (x ∷ y ∷ xs) (y ∷ x ∷ xs)
  heads_exchanged x y xs (a ∷ b ∷ from) is = (b ∷ a ∷ from, IsPermutation-exchange a b from, cc)
  heads_exchanged x y xs o is = absurd (cc)

  pub pull_back : (xs ys : List B) → IsPermutation xs ys → PullsBack xs ys
  pull_back =
      along_permutation PullsBack (λ xs from is. (from, IsPermutation-refl from, is)) under_head heads_exchanged
      (λ xs ys zs p q from is. let mid = p from is in let last = q mid.0 mid.2 in (last.0, IsPermutation-trans _ _ _ mid.1 last.1, last.2))
