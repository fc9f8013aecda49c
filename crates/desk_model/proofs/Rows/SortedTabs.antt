-- Rows of tables in the order of their names, and those of one name in the order of their texts.
use Rattle.std.proofs.Common.{◌≡◌, ℕ, zero, suc, ◌+◌, ◌<◌, Bool, true, false, List, [], ◌∷◌, map, Ordering, Some, refl, sym, ap, subst, ◌∙◌, arith, inl, inr, ◌≢◌, slice_get, slice_index_or, Less, Equal, Greater}
use Rattle.std.specs.Cmp.Lexicographic.{slice_cmp}
use Rattle.std.specs.List.{AllByRecursion}
use Rattle.std.specs.List.Sorted.{IsPermutation, IsSortedBy, IsStrictlySortedBy}
use Rattle.std.specs.Ordering.{is_lt, nat_cmp, ordering_reverse, ordering_then}
use Rattle.std.proofs.lemmas.Bool.{cases_Bool}
use Rattle.std.proofs.lemmas.Cmp.{nat_list_cmp_total}
use Rattle.std.proofs.lemmas.List.Sorted.{IsPermutation-cons, IsPermutation-refl, IsPermutation-trans}
use Rattle.desk_parts.specs.Rows.{Tab}
use Rattle.desk_model.proofs.Lists.Permutations.{IsPermutation-exchange}
use Rattle.desk_model.proofs.Lists.TableEntries.{same_name}

-- ---- each list has an order

module _ {X : Type 0} (lt : X → X → Bool) (other_way : (x y : X) → lt x y ≡ true → lt y x ≡ false) where
  -- the first of these may stand after it
  abbrev MayFollow : X → List X → Type 0
  MayFollow x [] = Unit {0}
  MayFollow x (y ∷ ys) = lt y x ≡ false

  abbrev pub Rises : List X → Type 0
  Rises [] = Unit {0}
  Rises (x ∷ xs) = MayFollow x xs × Rises xs

  inserted : (x : X) (ys : List X) → Rises ys
      → (zs : List X) × IsPermutation (x ∷ ys) zs × Rises zs × ((w : X) → MayFollow w ys → lt x w ≡ false → MayFollow w zs)
  inserted x [] rises = (x ∷ [], IsPermutation-refl (x ∷ []), (tt, tt), λ w follows first. first)
  inserted x (y ∷ ys) rises =
      elim (cases_Bool (lt y x)) [
        | inl less ↦
            let rest = inserted x ys rises.1 in (
              y ∷ rest.0,
              IsPermutation-trans _ _ _ (IsPermutation-exchange x y ys) (IsPermutation-cons y _ _ rest.1),
              (rest.3 y rises.0 (other_way y x less), rest.2),
              λ w follows first. follows,
            )
        | inr more ↦ (x ∷ y ∷ ys, IsPermutation-refl (x ∷ y ∷ ys), (more, rises), λ w follows first. first)
      ]

  pub arranged : (xs : List X) → (ys : List X) × IsPermutation xs ys × Rises ys
  arranged [] = ([], IsPermutation-refl [], tt)
  arranged (x ∷ xs) =
      let rest = arranged xs in
      let all = inserted x rest.0 rest.2 in
      (all.0, IsPermutation-trans _ _ _ (IsPermutation-cons x _ _ rest.1) all.1, all.2)

  pub rises-sorted : (xs : List X) → Rises xs → IsSortedBy lt xs
  rises-sorted (x ∷ y ∷ ys) rises zero d low less = rises.0
  rises-sorted (x ∷ y ∷ ys) rises (suc k) d low less =
      let next : suc (k + 1) ≡ suc k + 1 = omega arith in
      subst (λ i. lt (slice_index_or (x ∷ y ∷ ys) i d) (slice_index_or (y ∷ ys) k d) ≡ false) next
      (rises-sorted (y ∷ ys) rises.1 k d (omega arith) (omega arith))
  rises-sorted xs rises k d low less = absurd (omega arith)

-- ---- the order of tables

abbrev pub by_name : Tab → Tab → Ordering
by_name a b = slice_cmp nat_cmp a.name b.name

abbrev pub by_body : Tab → Tab → Ordering
by_body a b = slice_cmp nat_cmp a.body b.body

abbrev pub tab_less : Tab → Tab → Bool
tab_less a b = is_lt (ordering_then (by_name a b) (by_body a b))

flipped : (first second : Ordering) → is_lt (ordering_then first second) ≡ true → is_lt (ordering_then (ordering_reverse first) (ordering_reverse second)) ≡ false
flipped Equal Greater h = absurd (cc)
flipped Greater second h = absurd (cc)
flipped first second h = refl

pub other_way : (a b : Tab) → tab_less a b ≡ true → tab_less b a ≡ false
other_way a b less =
    (λ i. is_lt (ordering_then (nat_list_cmp_total.antisymm b.name a.name i) (nat_list_cmp_total.antisymm b.body a.body i)))
    ∙ flipped (by_name a b) (by_body a b) less

abbrev pub RisesTabs : List Tab → Type 0
RisesTabs = Rises tab_less other_way

pub tabs_in_order : (tabs : List Tab) → (sorted : List Tab) × IsPermutation tabs sorted × RisesTabs sorted
tabs_in_order = arranged tab_less other_way

pub AreInOrder-rises : (tabs : List Tab) → RisesTabs tabs → IsSortedBy tab_less tabs
AreInOrder-rises = rises-sorted tab_less other_way

-- ---- names that differ stand in strict order

abbrev pub AreNamesApart : List Tab → Type 0
AreNamesApart tabs = (i j : ℕ) (one other : Tab) → i < j → slice_get tabs i ≡ Some one → slice_get tabs j ≡ Some other → one.name ≢ other.name

less-name : (a b : Tab) → tab_less b a ≡ false → a.name ≢ b.name → by_name a b ≡ Less
less-name a b follows apart = by (by_name b a) refl
  where
    by : (o : Ordering) → by_name b a ≡ o → by_name a b ≡ Less
    by Less is = absurd (let less : tab_less b a ≡ true = ap (λ (o : Ordering). is_lt (ordering_then o (by_body b a))) is in cc)
    by Equal is = absurd (apart (sym (same_name b.name a.name is)))
    by Greater is = nat_list_cmp_total.antisymm a.name b.name ∙ ap ordering_reverse is

farther : (one other : List ℕ) (names : List (List ℕ)) → slice_cmp nat_cmp one other ≡ Less → AllByRecursion (λ name. slice_cmp nat_cmp other name ≡ Less) names
    → AllByRecursion (λ name. slice_cmp nat_cmp one name ≡ Less) names
farther one other [] less all = tt
farther one other (name ∷ names) less all = (nat_list_cmp_total.trans one other name less all.0, farther one other names less all.1)

pub names-strict : (tabs : List Tab) → RisesTabs tabs → AreNamesApart tabs → IsStrictlySortedBy (slice_cmp nat_cmp) (map (λ t. t.name) tabs)
unfolding IsStrictlySortedBy
names-strict [] rises apart = tt
names-strict (x ∷ []) rises apart = (tt, tt)
names-strict (x ∷ y ∷ ys) rises apart =
    let rest = names-strict (y ∷ ys) rises.1 (λ i j one other less at_one at_other. apart (suc i) (suc j) one other (omega arith) at_one at_other) in
    let first = less-name x y rises.0 (apart 0 1 x y (omega arith) refl refl) in
    ((first, farther x.name y.name (map (λ t. t.name) ys) first rest.0), rest)
