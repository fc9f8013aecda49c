-- Where walks begin.
use Rattle.std.proofs.Common.{◌≡◌, ℕ, ◌+◌, ◌*◌, ◌/◌, ◌%◌, ◌-◌, ◌⊎◌, List, [], Option, Some, None, refl, sym, ap, subst, ◌∙◌, arith, inl, inr, slice_get, option_and_then}
use Rattle.std.proofs.lemmas.Option.{slice_get_within}
use Rattle.louis_table.specs.Meaning.{fold_of}
use Rattle.louis_translate.specs.declared.indexed_table.IndexedTable.{IndexedTable}
use Rattle.louis_translate.specs.declared.start.Start.{Start}
use Rattle.louis_translate.specs.declared.start.Start.TheVariants.{Nowhere, Group, Child}
use Rattle.louis_translate.specs.Choice.{IsChosen}
use Rattle.louis_translate.specs.Tree.{leads, rules_at}
use Rattle.louis_translate.specs.Search.{IsBestBelow, IsFirstOf, IsOnWay, IsWhole}
use Rattle.louis_translate.specs.Start.{AreStarts, IsStart, MayStart, StandsAt}
use Rattle.louis_translate.proofs.Searches.{AreThose-on_way, IsBestBelow-first, IsBestBelow-keep, IsOnWay-first, IsOnWay-next, chosen_at_end, chosen_nowhere}

module _ (index : IndexedTable) (starts : List Start) (t : IsWhole index) (are : AreStarts index.table index.tree starts) where
  stands : (a b : ℕ) (start : Start) → StandsAt starts a b start → (start ≡ Group) ⊎ IsStart index.tree (fold_of index.table a) (fold_of index.table b) start
  stands a b start (inl e) = inl e
  stands a b start (inr p) =
      let lt = p.0 in
      let row : (128 * a + b) / 128 ≡ a = omega arith in
      let column : (128 * a + b) % 128 ≡ b = omega arith in
      let there = are.each (128 * a + b) start p.1 in
      inr (subst (λ (k : ℕ). IsStart index.tree (fold_of index.table k) (fold_of index.table b) start) row
      (subst (λ (k : ℕ). IsStart index.tree (fold_of index.table ((128 * a + b) / 128)) (fold_of index.table k) start) column there))

  module _ (print : List ℕ) (i a b : ℕ) (first : slice_get print i ≡ Some a) (second : slice_get print (i + 1) ≡ Some b) where
    next : (n : ℕ) → option_and_then (λ c. leads index.tree (Some n) (fold_of index.table c)) (slice_get print (i + 1)) ≡ leads index.tree (Some n) (fold_of index.table b)
    next n = ap (option_and_then (λ c. leads index.tree (Some n) (fold_of index.table c))) second

    group_way : (n : ℕ) → leads index.tree None (fold_of index.table a) ≡ Some n → IsOnWay index print i (i + 1) n
    group_way n e = IsOnWay-first index print i t a n first e

    -- no rule is the first character alone
    group_best : (n j : ℕ) → i + 2 ≡ j → leads index.tree None (fold_of index.table a) ≡ Some n → rules_at index.tree.nodes.items n ≡ [] → IsBestBelow index.table print i (j - i) None
    group_best n j two e none =
        let second_within = slice_get_within print (i + 1) b second in
        let empty : IsFirstOf index.table print i (rules_at index.tree.nodes.items n) None = λ k at _. let e = sym (ap (λ (xs : List ℕ). slice_get xs at.0) none) ∙ at.1 in absurd cc in
        let one : 1 ≡ i + 1 - i = omega arith in
        let more : i + 1 - i + 1 ≡ j - i = omega arith in
        subst (λ (d : ℕ). IsBestBelow index.table print i d None) more
        (IsBestBelow-keep index.table print i (i + 1 - i) (rules_at index.tree.nodes.items n) (omega arith) (omega arith) (AreThose-on_way index print i t (i + 1) n (group_way n e)) None empty
        (subst (λ (d : ℕ). IsBestBelow index.table print i d None) one (IsBestBelow-first index.table print i)))

    pub start_nowhere : StandsAt starts a b Nowhere → IsChosen index.table print i None
    start_nowhere h = elim (stands a b Nowhere h) [ inl e ↦ absurd cc | inr none ↦ at_group none (leads index.tree None (fold_of index.table a)) refl ]
      where
        at_group : IsStart index.tree (fold_of index.table a) (fold_of index.table b) Nowhere → (o : Option ℕ) → leads index.tree None (fold_of index.table a) ≡ o → IsChosen index.table print i None
        at_group none None e = chosen_nowhere index print i t a first e
        at_group none (Some n) e =
            let here = none n e in
            let two : i + 2 - i ≡ i + 1 - i + 1 = omega arith in
            chosen_at_end index print i t (i + 1) n None (group_way n e)
            (subst (λ (d : ℕ). IsBestBelow index.table print i d None) two (group_best n (i + 2) refl e here.0)) (next n ∙ here.1)

    child_parts : (m : ℕ) → StandsAt starts a b (Child m) → (n : ℕ) × (leads index.tree None (fold_of index.table a) ≡ Some n) × (rules_at index.tree.nodes.items n ≡ []) × (leads index.tree (Some n) (fold_of index.table b) ≡ Some m)
    child_parts m h = elim (stands a b (Child m) h) [ inl e ↦ absurd cc | inr p ↦ p ]

    pub start_way : (m j : ℕ) → i + 2 ≡ j → StandsAt starts a b (Child m) → IsOnWay index print i j m
    start_way m j two h =
        let p = child_parts m h in
        let same : i + 1 + 1 ≡ j = omega arith in
        subst (λ (k : ℕ). IsOnWay index print i k m) same (IsOnWay-next index print i t (i + 1) p.0 m (group_way p.0 p.1) (next p.0 ∙ p.3))

    pub start_best : (m j : ℕ) → i + 2 ≡ j → StandsAt starts a b (Child m) → IsBestBelow index.table print i (j - i) None
    start_best m j two h = let p = child_parts m h in group_best p.0 j two p.1 p.2

    pub may_start : (start : Start) → StandsAt starts a b start → MayStart index print i start
    may_start Nowhere h = start_nowhere h
    may_start Group h = tt
    may_start (Child m) h =
        let two : i + 2 - i ≡ 2 = omega arith in
        (start_way m (i + 2) refl h, subst (λ (d : ℕ). IsBestBelow index.table print i d None) two (start_best m (i + 2) refl h))
