-- Rows whose keys are numbers from one on, each of them once: in their order they have the numbers in order.
use Rattle.std.proofs.Common.{◌≡◌, ℕ, zero, suc, ◌+◌, ◌≤◌, ℤ, pos, ◌+ℤ◌, List, [], ◌∷◌, ◌++◌, map, filter, length, Contains, refl, sym, ap, subst, ◌∙◌, arith, inl, inr, IsPermutation, int_eq}
use Rattle.std.specs.Cmp.{signed_Decides}
use Rattle.std.specs.List.{range_with_len}
use Rattle.std.proofs.lemmas.Bool.{cases_eq, cond-true, cases_lt}
use Rattle.std.proofs.lemmas.List.{length-map, map-append}
use Rattle.std.proofs.lemmas.List.Sorted.{Contains-permutation, IsPermutation-cons, IsPermutation-refl, IsPermutation-sym, IsPermutation-to_front, IsPermutation-trans, length_permutation}
use Rattle.desk_model.specs.Damage.{IsNumber, IsWithin, rows_with}
use Rattle.desk_model.proofs.Lists.Decisions.{Decided}
use Rattle.desk_model.proofs.Lists.Members.{Contains-behind, Contains-cases, Contains-here, Contains-map, Contains-none}
use Rattle.desk_model.proofs.Lists.Permutations.{IsPermutation-filter, IsPermutation-exchange, pull_back}
use Rattle.desk_model.proofs.Lists.RowNumbers.{Contains-from_map, numbers, same_number, number-key}
use Rattle.desk_model.proofs.Lists.Stable.{at_least, le_from, same_int}
use Rattle.desk_model.proofs.Lists.Items.{range_with_len-push}

-- ---- an element, and the others

pub is_there : {X : Type 0} → ((x y : X) → Decided (x ≡ y)) → (xs : List X) (x : X) → Decided (Contains xs x)
is_there same [] x = inr (Contains-none x)
is_there same (y ∷ xs) x =
    elim (same y x) [
      | inl is ↦ inl (subst (Contains (y ∷ xs)) is (Contains-here y xs))
      | inr other ↦ elim (is_there same xs x) [
        | inl later ↦ inl (Contains-behind y x xs later)
        | inr none ↦ inr (λ c. elim (Contains-cases y x xs c) [ inl is ↦ other is | inr later ↦ none later ])
      ]
    ]

pub taken_out : {X : Type 0} (xs : List X) (x : X) → Contains xs x → (others : List X) × IsPermutation xs (x ∷ others)
taken_out [] x c = absurd (Contains-none x c)
taken_out (y ∷ xs) x c =
    elim (Contains-cases y x xs c) [
      | inl is ↦ (xs, subst (λ z. IsPermutation (y ∷ xs) (z ∷ xs)) is (IsPermutation-refl (y ∷ xs)))
      | inr later ↦
          let rest = taken_out xs x later in
          (y ∷ rest.0, IsPermutation-trans _ _ _ (IsPermutation-cons y _ _ rest.1) (IsPermutation-exchange y x rest.0))
    ]

-- no element stands there twice
abbrev pub AreOnce : {X : Type 0} → List X → Type 0
AreOnce {X} xs = (x : X) (others : List X) → IsPermutation xs (x ∷ others) → ¬ Contains others x

pub once-rest : {X : Type 0} (xs others : List X) (x : X) → AreOnce xs → IsPermutation xs (x ∷ others) → AreOnce others
once-rest xs others x once moved y left is =
    λ c. once y (x ∷ left) (IsPermutation-trans _ _ _ moved
    (IsPermutation-trans _ _ _ (IsPermutation-cons x _ _ is) (IsPermutation-exchange x y left))) (Contains-behind x y left c)

pub once-permutation : {X : Type 0} (xs ys : List X) → IsPermutation xs ys → AreOnce xs → AreOnce ys
once-permutation xs ys moved once x others is = once x others (IsPermutation-trans _ _ _ moved is)

-- ---- numbers up to one

abbrev pub AreUpTo : ℕ → List ℤ → Type 0
AreUpTo n zs = (z : ℤ) → Contains zs z → (k : ℕ) × (z ≡ pos k) × (1 ≤ k) × (k ≤ n)

numbers-push : (n : ℕ) → IsPermutation (pos (suc n) ∷ numbers 1 n) (numbers 1 (suc n))
numbers-push n =
    let next : 1 + n ≡ suc n = omega arith in
    let more : n + 1 ≡ suc n = omega arith in
    let whole : numbers 1 (suc n) ≡ numbers 1 n ++ pos (suc n) ∷ [] =
    ap (numbers 1) (sym more) ∙ (ap (map pos) (range_with_len-push 1 n) ∙ (map-append pos (range_with_len 1 n) ((1 + n) ∷ []) ∙ ap (λ (k : ℕ). numbers 1 n ++ pos k ∷ []) next)) in
    IsPermutation-sym _ _
    (subst (λ (zs : List ℤ). IsPermutation zs (pos (suc n) ∷ numbers 1 n)) (sym whole) (IsPermutation-to_front (numbers 1 n) (pos (suc n))))

-- there are no more of them than numbers, and if as many, they are the numbers
pub pigeonholes : (n : ℕ) (zs : List ℤ) → AreOnce zs → AreUpTo n zs → (length zs ≤ n) × (length zs ≡ n → IsPermutation zs (numbers 1 n))
pigeonholes zero [] once within = (omega arith, λ long. IsPermutation-refl [])
pigeonholes zero (z ∷ zs) once within =
    let k = within z (Contains-here z zs) in
    absurd (omega (arith, k.2, k.3))
pigeonholes (suc n) zs once within =
    elim (is_there same_int zs (pos (suc n))) [
      | inl there ↦
          let out = taken_out zs (pos (suc n)) there in
          let rest = pigeonholes n out.0 (once-rest zs out.0 (pos (suc n)) once out.1) (left out.0 out.1) in
          let long = length_permutation _ _ out.1 in
          let few = rest.0 in (
            omega (arith, long, few),
            λ all. IsPermutation-trans _ _ _ out.1 (IsPermutation-trans _ _ _
                (IsPermutation-cons (pos (suc n)) _ _ (rest.1 (omega (arith, long, all)))) (numbers-push n)),
          )
      | inr none ↦
          let rest = pigeonholes n zs once (λ z c. below z c none) in
          let few = rest.0 in
          (omega (arith, few), λ all. absurd (omega (arith, few, all)))
    ]
  where
    below : (z : ℤ) → Contains zs z → ¬ Contains zs (pos (suc n)) → (k : ℕ) × (z ≡ pos k) × (1 ≤ k) × (k ≤ n)
    below z c none =
        let k = within z c in
        elim (cases_eq k.0 (suc n)) [
          | inl last ↦ absurd (none (subst (Contains zs) (k.1 ∙ ap pos last) c))
          | inr other ↦ (k.0, k.1, k.2, omega (arith, k.3, other))
        ]

    left : (others : List ℤ) → IsPermutation zs (pos (suc n) ∷ others) → AreUpTo n others
    left others moved z c =
        let k = within z (Contains-permutation _ _ z (IsPermutation-sym _ _ moved) (Contains-behind (pos (suc n)) z others c)) in
        elim (cases_eq k.0 (suc n)) [
          | inl last ↦ absurd (once (pos (suc n)) others moved (subst (Contains others) (k.1 ∙ ap pos last) c))
          | inr other ↦ (k.0, k.1, k.2, omega (arith, k.3, other))
        ]

-- where all numbers up to one are, there are as many
pub all-numbers : (n : ℕ) (zs : List ℤ) → ((k : ℕ) → 1 ≤ k → k ≤ n → Contains zs (pos k)) → n ≤ length zs
all-numbers zero zs there = omega arith
all-numbers (suc n) zs there =
    let out = taken_out zs (pos (suc n)) (there (suc n) (omega arith) (omega arith)) in
    let rest = all-numbers n out.0 (λ k low high.
    elim (Contains-cases (pos (suc n)) (pos k) out.0 (Contains-permutation _ _ (pos k) out.1 (there k low (omega (arith, high))))) [
      | inl last ↦ absurd (let same = same_number (suc n) k last in omega (arith, same, high))
      | inr other ↦ other
    ]) in
    omega (arith, length_permutation _ _ out.1, rest)

-- ---- rows by their keys

module _ {X : Type 0} (key : X → ℤ) where
  -- a key that just one row has
  pub once-one : (xs others : List X) (x other : X) → rows_with key (key x) xs ≡ 1 → IsPermutation xs (x ∷ others) → Contains others other → key other ≡ key x → ⊥
  once-one xs others x other one moved c same =
      let more = taken_out others other c in
      let all = IsPermutation-trans _ _ _ moved (IsPermutation-cons x _ _ more.1) in
      let test = λ (row : X). int_eq (key row) (key x) in
      let first = cond-true (test x) (x ∷ filter test (other ∷ more.0)) (filter test (other ∷ more.0)) ((signed_Decides (key x) (key x)).1 refl) in
      let second = cond-true (test other) (other ∷ filter test more.0) (filter test more.0) ((signed_Decides (key other) (key x)).1 same) in
      let two : length (filter test (x ∷ other ∷ more.0)) ≡ suc (suc (length (filter test more.0))) = ap length (first ∙ ap (λ (rows : List X). x ∷ rows) second) in
      omega (arith, one, length_permutation _ _ (IsPermutation-filter test _ _ all), two)

  -- values of rows, none of them that of two rows
  pub once-map : (xs : List X) → ((x other : X) (others : List X) → IsPermutation xs (x ∷ others) → Contains others other → key other ≡ key x → ⊥) → AreOnce (map key xs)
  once-map xs apart z others moved c =
      let back = pull_back key (map key xs) (z ∷ others) moved xs refl in
      by back.0 back.1 back.2
    where
      by : (to : List X) → IsPermutation xs to → z ∷ others ≡ map key to → ⊥
      by [] same is = absurd (cc)
      by (x ∷ to) same is =
          let first : z ≡ key x = cc in
          let rest : others ≡ map key to = cc in
          let twin = Contains-from_map key to z (subst (λ (zs : List ℤ). Contains zs z) rest c) in
          apart x twin.0 to same twin.1 (twin.2 ∙ first)

  pub once-keys : (xs : List X) → ((x : X) → Contains xs x → rows_with key (key x) xs ≡ 1) → AreOnce (map key xs)
  once-keys xs each = once-map xs (λ x other others moved c same.
      let there = Contains-permutation _ _ x (IsPermutation-sym _ _ moved) (Contains-here x others) in
      once-one xs others x other (each x there) moved c same)

  -- rows in another order, by the numbers
  pub in_order : (xs : List X) (n : ℕ) → IsPermutation (map key xs) (numbers 1 n) → (sorted : List X) × IsPermutation xs sorted × (numbers 1 n ≡ map key sorted)
  in_order xs n moved = pull_back key (map key xs) (numbers 1 n) moved xs refl

  module _ (last : ℕ) (xs : List X) (each : (x : X) → Contains xs x → IsNumber key last xs (key x)) where
    pub number-of : (x : X) → Contains xs x → (k : ℕ) × (key x ≡ pos k) × (1 ≤ k) × (k ≤ last)
    number-of x c =
        let within = (each x c).within in
        let k = at_least 1 (key x) within.0 in
        (k.0, k.1, k.2, le_from k.0 last (subst (λ (z : ℤ). IsWithin 1 last z) k.1 within).1)

    -- with a number each smaller one is there
    downward : (k : ℕ) (x : X) → Contains xs x → key x ≡ pos k → (j : ℕ) → 1 ≤ j → j ≤ k → Contains (map key xs) (pos j)
    downward zero x c is j low high = absurd (omega arith)
    downward (suc k) x c is j low high =
        elim (cases_eq j (suc k)) [
          | inl same ↦ subst (Contains (map key xs)) (is ∙ ap pos (sym same)) (Contains-map key xs x c)
          | inr other ↦ elim (each x c).next [
            | inl first ↦ absurd (let one = same_number (suc k) 1 (sym is ∙ first) in omega (arith, one, low, high, other))
            | inr (before, there, next) ↦
                let m = number-of before there in
                let up : pos (m.0 + 1) ≡ pos (suc k) = ap (λ (z : ℤ). z +ℤ pos 1) (sym m.1) ∙ (next ∙ is) in
                let own : m.0 ≡ k = omega (arith, same_number (m.0 + 1) (suc k) up) in
                downward k before there (m.1 ∙ ap pos own) j low (omega (arith, high, other))
          ]
        ]

    up_to : AreUpTo (length (map key xs)) (map key xs)
    up_to z c =
        let found = Contains-from_map key xs z c in
        let k = number-of found.0 found.1 in
        (k.0, sym found.2 ∙ k.1, k.2, all-numbers k.0 (map key xs) (downward k.0 found.0 found.1 k.1))

    -- the keys are the numbers from one on
    pub keys-numbers : IsPermutation (map key xs) (numbers 1 (length xs))
    keys-numbers =
        subst (λ n. IsPermutation (map key xs) (numbers 1 n)) (length-map xs key)
        ((pigeonholes (length (map key xs)) (map key xs) (once-keys xs (λ x c. (each x c).once)) up_to).1 refl)

    pub few-rows : length xs ≤ last
    few-rows =
        elim (cases_lt 0 (length xs)) [
          | inl some ↦
              let top = number-key key xs (length xs) keys-numbers (length xs) (omega (arith, some)) (omega arith) in
              let k = number-of top.0 top.1 in
              omega (arith, same_number (length xs) k.0 (sym top.2 ∙ k.1), k.3)
          | inr none ↦ omega (arith, none)
        ]
