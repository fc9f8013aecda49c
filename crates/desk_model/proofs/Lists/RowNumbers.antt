-- Rows whose keys are the numbers from one on, in some order.
use Rattle.std.proofs.Common.{◌≡◌, ℕ, zero, suc, ◌+◌, ◌-◌, ◌<◌, ◌≤◌, ℤ, pos, ◌+ℤ◌, ◌≤ℤ◌, Bool, true, false, cond, List, [], ◌∷◌, map, filter, length, Contains, refl, sym, ap, subst, ◌∙◌, arith, inl, inr, IsPermutation, int_eq, T, nat_eq, slice_get, Some}
use Rattle.std.specs.Cmp.{signed_Decides}
use Rattle.std.specs.List.{enumerate_from, range_with_len}
use Rattle.std.proofs.lemmas.Bool.{cases_Bool, cases_lt, cond-false, cond-true, eqb-false, eqb-true, false_from_ne_true, le-leb}
use Rattle.std.proofs.lemmas.List.{length-map}
use Rattle.std.proofs.lemmas.List.Sorted.{Contains-permutation, IsPermutation-sym, length_permutation}
use Rattle.desk_model.specs.Damage.{IsNumber, rows_with}
use Rattle.desk_model.proofs.Lists.Members.{Contains-behind, Contains-cases, Contains-here, Contains-map, Contains-none}
use Rattle.desk_model.proofs.Lists.Numbering.{Contains-range, within-range}
use Rattle.desk_model.proofs.Lists.Permutations.{IsPermutation-filter}

-- ---- lists

pub filter-map : {X Y : Type 0} (p : Y → Bool) (f : X → Y) (xs : List X) → filter p (map f xs) ≡ map f (filter (λ x. p (f x)) xs)
filter-map p f [] = refl
filter-map {X} {Y} p f (x ∷ xs) = go (p (f x)) (filter-map p f xs)
  where
    go : (b : Bool) → filter p (map f xs) ≡ map f (filter (λ y. p (f y)) xs) → cond b (f x ∷ filter p (map f xs)) (filter p (map f xs)) ≡ map f (cond b (x ∷ filter (λ y. p (f y)) xs) (filter (λ y. p (f y)) xs))
    go true e = ap (λ (ys : List Y). f x ∷ ys) e
    go false e = e

-- an element of what a map gives is made of one
pub Contains-from_map : {X Y : Type 0} (f : X → Y) (xs : List X) (y : Y) → Contains (map f xs) y → (x : X) × Contains xs x × (f x ≡ y)
Contains-from_map f [] y c = absurd (Contains-none y c)
Contains-from_map f (x ∷ xs) y c =
    elim (Contains-cases (f x) y (map f xs) c) [
      | inl same ↦ (x, Contains-here x xs, same)
      | inr later ↦ let rest = Contains-from_map f xs y later in (rest.0, Contains-behind x rest.0 xs rest.1, rest.2)
    ]

-- ---- items with their numbers

pub Contains-enumerate : {X : Type 0} (n : ℕ) (xs : List X) (x : X) → Contains xs x → (k : ℕ) × Contains (enumerate_from n xs) (k, x)
Contains-enumerate n [] x c = absurd (Contains-none x c)
Contains-enumerate n (y ∷ xs) x c =
    elim (Contains-cases y x xs c) [
      | inl same ↦ (n, subst (λ z. Contains (enumerate_from n (y ∷ xs)) (n, z)) same (Contains-here (n, y) (enumerate_from (n + 1) xs)))
      | inr later ↦ let rest = Contains-enumerate (n + 1) xs x later in (rest.0, Contains-behind (n, y) (rest.0, x) (enumerate_from (n + 1) xs) rest.1)
    ]

pub from_enumerate : {X : Type 0} (n : ℕ) (xs : List X) (k : ℕ) (x : X) → Contains (enumerate_from n xs) (k, x) → Contains xs x × (n ≤ k) × (k < n + length xs)
from_enumerate n [] k x c = absurd (Contains-none (k, x) c)
from_enumerate {X} n (y ∷ xs) k x c =
    elim (Contains-cases (n, y) (k, x) (enumerate_from (n + 1) xs) c) [
      | inl same ↦
          let number : n ≡ k = ap (λ (e : ℕ × X). e.0) same in
          (subst (Contains (y ∷ xs)) (ap (λ (e : ℕ × X). e.1) same) (Contains-here y xs), omega (arith, number), omega (arith, number))
      | inr later ↦
          let rest = from_enumerate (n + 1) xs k x later in
          (Contains-behind y x xs rest.0, omega (arith, rest.1), omega (arith, rest.2))
    ]

-- one number has one item
pub enumerate-same : {X : Type 0} (n : ℕ) (xs : List X) (k : ℕ) (x y : X) → Contains (enumerate_from n xs) (k, x) → Contains (enumerate_from n xs) (k, y) → x ≡ y
enumerate-same n [] k x y c d = absurd (Contains-none (k, x) c)
enumerate-same {X} n (z ∷ xs) k x y c d =
    elim (Contains-cases (n, z) (k, x) (enumerate_from (n + 1) xs) c) [
      | inl first ↦ elim (Contains-cases (n, z) (k, y) (enumerate_from (n + 1) xs) d) [
        | inl second ↦ sym (ap (λ (e : ℕ × X). e.1) first) ∙ ap (λ (e : ℕ × X). e.1) second
        | inr later ↦
            let number : n ≡ k = ap (λ (e : ℕ × X). e.0) first in
            absurd (omega (arith, number, (from_enumerate (n + 1) xs k y later).1))
      ]
      | inr later ↦ elim (Contains-cases (n, z) (k, y) (enumerate_from (n + 1) xs) d) [
        | inl second ↦
            let number : n ≡ k = ap (λ (e : ℕ × X). e.0) second in
            absurd (omega (arith, number, (from_enumerate (n + 1) xs k x later).1))
        | inr other ↦ enumerate-same (n + 1) xs k x y later other
      ]
    ]

-- ---- numbers

pub pos_le : (a b : ℕ) → a ≤ b → pos a ≤ℤ pos b
pos_le a b h = record { le = subst T (sym (le-leb a b h)) tt }

pub same_number : (a b : ℕ) → pos a ≡ pos b → a ≡ b
same_number a b e = cc

pub int_eq-pos : (a b : ℕ) → int_eq (pos a) (pos b) ≡ nat_eq a b
int_eq-pos a b =
    elim (cases_Bool (nat_eq a b)) [
      | inl e ↦ (signed_Decides (pos a) (pos b)).1 (ap pos (eqb-true a b e)) ∙ sym e
      | inr e ↦ false_from_ne_true (int_eq (pos a) (pos b)) (λ t. eqb-false a b e (same_number a b ((signed_Decides (pos a) (pos b)).0 t))) ∙ sym e
    ]

abbrev those : ℕ → List ℤ → List ℤ
those k zs = filter (λ z. int_eq z (pos k)) zs

abbrev pub numbers : ℕ → ℕ → List ℤ
numbers a n = map pos (range_with_len a n)

counted-from : {X : Type 0} (key : X → ℤ) (n : ℕ) (xs : List X) → ((i : ℕ) (x : X) → slice_get xs i ≡ Some x → key x ≡ pos (n + i)) → map key xs ≡ numbers n (length xs)
counted-from key n [] each = refl
counted-from key n (x ∷ xs) each =
    let first : key x ≡ pos n = each 0 x refl ∙ ap pos (let own : n + 0 ≡ n = omega arith in own) in
    let rest = counted-from key (n + 1) xs (λ i other at. let next : n + suc i ≡ n + 1 + i = omega arith in each (suc i) other at ∙ ap pos next) in
    λ i. first i ∷ rest i

-- keys that count from one on
pub keys-counted : {X : Type 0} (key : X → ℤ) (xs : List X) → ((i : ℕ) (x : X) → slice_get xs i ≡ Some x → key x ≡ pos (i + 1)) → map key xs ≡ numbers 1 (length xs)
keys-counted key xs each = counted-from key 1 xs (λ i x at. let next : i + 1 ≡ 1 + i = omega arith in each i x at ∙ ap pos next)

apart : (a k : ℕ) → ¬ (a ≡ k) → int_eq (pos a) (pos k) ≡ false
apart a k other = false_from_ne_true (int_eq (pos a) (pos k)) (λ e. other (same_number a k ((signed_Decides (pos a) (pos k)).0 e)))

none-of_range : (a n k : ℕ) → k < a → those k (numbers a n) ≡ []
none-of_range a zero k less = refl
none-of_range a (suc n) k less =
    cond-false (int_eq (pos a) (pos k)) (pos a ∷ those k (numbers (a + 1) n)) (those k (numbers (a + 1) n)) (apart a k (λ e. omega arith))
    ∙ none-of_range (a + 1) n k (omega arith)

one-of_range : (a n k : ℕ) → a ≤ k → k < a + n → length (those k (numbers a n)) ≡ 1
one-of_range a zero k low high = absurd (omega arith)
one-of_range a (suc n) k low high =
    elim (cases_lt a k) [
      | inl less ↦
          ap length (cond-false (int_eq (pos a) (pos k)) (pos a ∷ those k (numbers (a + 1) n)) (those k (numbers (a + 1) n)) (apart a k (λ e. omega arith)))
          ∙ one-of_range (a + 1) n k (omega arith) (omega arith)
      | inr more ↦
          let same : a ≡ k = omega arith in
          ap length (cond-true (int_eq (pos a) (pos k)) (pos a ∷ those k (numbers (a + 1) n)) (those k (numbers (a + 1) n)) ((signed_Decides (pos a) (pos k)).1 (ap pos same)))
          ∙ ap (λ (zs : List ℤ). length (pos a ∷ zs)) (none-of_range (a + 1) n k (omega arith))
    ]

module _ {X : Type 0} (key : X → ℤ) (xs : List X) (n : ℕ) (moved : IsPermutation (map key xs) (map pos (range_with_len 1 n))) where
  pub key-number : (x : X) → Contains xs x → (k : ℕ) × (key x ≡ pos k) × (1 ≤ k) × (k ≤ n)
  key-number x c =
      let found = Contains-from_map pos (range_with_len 1 n) (key x) (Contains-permutation _ _ (key x) moved (Contains-map key xs x c)) in
      let within = within-range 1 n found.0 found.1 in
      (found.0, sym found.2, within.0, (let high = within.1 in omega (arith, high)))

  pub number-key : (k : ℕ) → 1 ≤ k → k ≤ n → (x : X) × Contains xs x × (key x ≡ pos k)
  number-key k low high =
      Contains-from_map key xs (pos k) (Contains-permutation _ _ (pos k) (IsPermutation-sym _ _ moved)
      (Contains-map pos (range_with_len 1 n) k (Contains-range 1 n k low (omega arith))))

  pub key-once : (k : ℕ) → 1 ≤ k → k ≤ n → rows_with key (pos k) xs ≡ 1
  key-once k low high =
      let same = length_permutation _ _ (IsPermutation-filter (λ z. int_eq z (pos k)) _ _ moved) in
      let one = one-of_range 1 n k low (omega arith) in
      omega (arith, ap length (filter-map (λ z. int_eq z (pos k)) key xs), length-map (filter (λ x. int_eq (key x) (pos k)) xs) key, same, one)

  pub IsNumber-key : (last : ℕ) → n ≤ last → (x : X) → Contains xs x → IsNumber key last xs (key x)
  IsNumber-key last few x c =
      let number = key-number x c in
      let k : ℕ = number.0 in
      let low : 1 ≤ k = number.2 in
      let high : k ≤ n = number.3 in
      subst (IsNumber key last xs) (sym number.1)
      (record {
        within = (pos_le 1 k low, pos_le k last (omega (arith, high, few)));
        once = key-once k low high;
        next = elim (cases_lt 1 k) [
          | inl more ↦
              let before = number-key (k - 1) (omega arith) (omega arith) in
              let next : k - 1 + 1 ≡ k = omega arith in
              inr (before.0, before.1, ap (λ (z : ℤ). z +ℤ pos 1) before.2 ∙ ap pos next)
          | inr less ↦ inl (ap pos (let first : k ≡ 1 = omega arith in first))
        ];
      })
