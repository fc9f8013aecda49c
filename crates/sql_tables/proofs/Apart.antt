-- Rows that differ by their keys.
use Rattle.std.proofs.Common.{◌≡◌, ℤ, ◌≤◌, Bool, true, false, List, [], ◌∷◌, map, filter, length, refl, sym, ap, subst, ◌∙◌, IsTrue, arith, true≢false, Decides, int_eq}
use Rattle.std.specs.List.{AllByRecursion, IsDistinct}
use Rattle.std.proofs.lemmas.Bool.Decides.{Decides-int_eq}
use Rattle.std.proofs.lemmas.Bool.{false_from_ne_true}
use Rattle.std.proofs.lemmas.List.{length-map, nil_from_length}
use Rattle.std.proofs.lemmas.List.Elements.{filter_agree}
use Rattle.std.proofs.lemmas.List.Sorted.{length_permutation}
use Rattle.std.proofs.lemmas.Map.Keys.{IsDistinct-head, IsDistinct-tail}
use Rattle.sqlite_value.specs.declared.value.Value.TheVariants.{Int}
use Rattle.sqlite_value.specs.Order.{Row, column}
use Rattle.sqlite_value.proofs.OrderLemmas.{value_cmp-Int}
use Rattle.sqlite_trees.specs.Tree.{rowid, has_rowid}
use Rattle.sqlite_trees.specs.View.{is_int}
use Rattle.sqlite_trees.proofs.ListLemmas.{all-map, all-permutation, all_from_map, all_of, all_weaker, filter-map, filter_none, IsPermutation-filter}
use Rattle.sql_tables.specs.Rows.{HaveRowids, Lists}
use Rattle.sql_tables.proofs.RowLists.{none_pass}

module _ {X K : Type 0} (e : K → K → Bool) (decides : (a b : K) → Decides (e a b) (a ≡ b)) (key : X → K) where
  flips : (a b : K) → e a b ≡ false → e b a ≡ false
  flips a b other = false_from_ne_true _ (λ is. true≢false (sym ((decides a b).1 (sym ((decides b a).0 is))) ∙ other))

  none_later : (k : K) (xs : List X) → AllByRecursion (λ y. e k y ≡ false) (map key xs) → filter (λ x. e (key x) k) xs ≡ []
  none_later k xs all = filter_none (λ x. e (key x) k) xs (all_weaker (λ x. e k (key x) ≡ false) (λ x. e (key x) k ≡ false) (λ x. flips k (key x)) xs (all_from_map (λ y. e k y ≡ false) key xs all))

  -- a key is found once at most
  pub once : (k : K) (xs : List X) → IsDistinct e (map key xs) → length (filter (λ x. e (key x) k) xs) ≤ 1
  once k [] apart = omega arith
  once k (x ∷ xs) apart =
      let later = λ (is : e (key x) k ≡ true).
      none_later k xs (subst (λ a. AllByRecursion (λ y. e a y ≡ false) (map key xs)) ((decides (key x) k).0 is) (IsDistinct-head e _ _ apart)) in
      grind (arith, later, once k xs (IsDistinct-tail e _ _ apart))

  none_of : (k : K) (xs : List X) → length (filter (λ x. e (key x) k) xs) ≤ 0 → AllByRecursion (λ y. e k y ≡ false) (map key xs)
  none_of k xs few =
      let none = nil_from_length (filter (λ x. e (key x) k) xs) (omega (arith, few)) in
      all-map (λ y. e k y ≡ false) key xs (all_weaker (λ x. e (key x) k ≡ false) (λ x. e k (key x) ≡ false) (λ x. flips (key x) k) xs (none_pass (λ x. e (key x) k) xs none))

  -- keys that are found once at most differ
  pub apart : (xs : List X) → ((k : K) → length (filter (λ x. e (key x) k) xs) ≤ 1) → IsDistinct e (map key xs)
  unfolding IsDistinct
  apart [] few = tt
  apart (x ∷ xs) few = (
    none_of (key x) xs (let one = rw ((decides (key x) (key x)).1 refl) at (few (key x)) in omega (arith, one)),
    apart xs (λ k. grind (arith, few k)),
  )

module _ {X : Type 0} (written : X → Row) (columns : Row → Row) (key : X → ℤ) (written_key : (x : X) → column (written x) 0 ≡ Int (key x)) (shown_key : (r : Row) → column (columns r) 0 ≡ rowid r) where
  abbrev has_integer : Row → Type 0
  has_integer s = IsTrue (is_int (column s 0))

  -- as many rows as values have a number
  pub as_many : (id : ℤ) (xs : List X) (rows : List Row) → Lists written columns xs rows → length (filter (has_rowid id) rows) ≡ length (filter (λ x. int_eq (key x) id) xs)
  as_many id xs rows lists =
      let left : filter (has_rowid id) (map written xs) ≡ map written (filter (λ x. int_eq (key x) id) xs) =
      filter-map (has_rowid id) written xs ∙ ap (map written) (filter_agree (λ x. has_rowid id (written x)) (λ x. int_eq (key x) id) (λ x. rw (written_key x, value_cmp-Int (key x) id)) xs) in
      let right : filter (has_rowid id) (map columns rows) ≡ map columns (filter (has_rowid id) rows) =
      filter-map (has_rowid id) columns rows ∙ ap (map columns) (filter_agree (λ r. has_rowid id (columns r)) (has_rowid id) (λ r. rw (shown_key r)) rows) in
      sym (length-map _ _) ∙ sym (ap length right) ∙ length_permutation _ _ (IsPermutation-filter (has_rowid id) _ _ lists) ∙ ap length left ∙ length-map _ _

  -- rows that were read with integers as keys, no two the same, have rowids
  pub have_rowids : (xs : List X) (rows : List Row) → Lists written columns xs rows → IsDistinct int_eq (map key xs) → HaveRowids rows
  have_rowids xs rows lists apart =
      let all = all-permutation has_integer _ _ lists (all-map has_integer written xs (all_of (λ x. has_integer (written x)) (λ x. rw (written_key x) refl) xs)) in
      record {
        integers = all_weaker (λ r. has_integer (columns r)) (λ r. IsTrue (is_int (rowid r))) (λ r. subst (λ v. IsTrue (is_int v)) (shown_key r)) rows (all_from_map has_integer columns rows all);
        once = λ id. let same = as_many id xs rows lists in let few = once int_eq Decides-int_eq key id xs apart in omega (arith, same, few);
      }
