-- Rows in a tree, and the lists of what they show.
use Rattle.std.proofs.Common.{◌≡◌, ℤ, ◌≤◌, Bool, true, false, not, List, [], ◌∷◌, filter, length, refl, sym, ap, subst, ◌∙◌, Ordering, Less, Equal, Greater, is_eq, true≢false, IsPermutation, arith, pos, map, map-id}
use Rattle.std.specs.List.{AllByRecursion, list_any}
use Rattle.std.specs.Ordering.{match_ordering}
use Rattle.std.proofs.lemmas.Bool.{false_from_ne_true, not-true, or_parts}
use Rattle.std.proofs.lemmas.Bool.Decides.{Decides-int_eq}
use Rattle.std.proofs.lemmas.Cmp.{tied_itself}
use Rattle.std.proofs.lemmas.List.Filters.{length-filter_both}
use Rattle.std.proofs.lemmas.List.Sorted.{IsPermutation-refl, IsPermutation-sym, IsPermutation-trans, IsPermutation-cons, IsPermutation-middle, length_permutation, IsPermutation-map}
use Rattle.sqlite_value.specs.declared.value.Value.TheVariants.{Int}
use Rattle.sqlite_value.specs.Order.{Row, value_cmp}
use Rattle.sqlite_value.proofs.OrderLemmas.{value_cmp-Int, value_cmp_total}
use Rattle.sqlite_trees.specs.Tree.{rowid, has_rowid, put_row, without_rowid}
use Rattle.sqlite_trees.proofs.ListLemmas.{all-filter, all-map, all-permutation, all_from_map, all_of, filter_none, IsPermutation-filter, map-map}
use Rattle.sqlite_rules.specs.Lists.{Has}
use Rattle.sqlite_rules.proofs.ListLemmas.{all_from, all_has, has_filtered, has_kept, some_from}
use Rattle.sqlite_rules.proofs.TableLemmas.{none_found}
use Rattle.sqlite_catalog.proofs.ListFacts.{filter_swap}
use Rattle.sql_tables.specs.Rows.{HaveRowids, Lists}
use Rattle.sqlite_value.specs.declared.value.Value.{Value}

-- what a list has fails a test that nothing of it passes
pub none_has : {X : Type 0} (p : X → Bool) (xs : List X) (x : X) → list_any p xs ≡ false → Has xs x → p x ≡ false
none_has p xs x none has = false_from_ne_true _ (λ is. true≢false (sym (some_from p xs x has is) ∙ none))

-- what is left fails the test by which the rest went
pub none_left : {X : Type 0} (p : X → Bool) (xs : List X) → AllByRecursion (λ x. p x ≡ false) (filter (λ x. not (p x)) xs)
none_left p xs = all_from _ (filter (λ x. not (p x)) xs) (λ x has. not-true _ (has_filtered (λ y. not (p y)) xs x has).1)

pub none_pass : {X : Type 0} (p : X → Bool) (xs : List X) → filter p xs ≡ [] → AllByRecursion (λ x. p x ≡ false) xs
none_pass p xs none = all_from _ xs (λ x has. false_from_ne_true _ (λ is. subst (λ l. Has l x) none (has_kept p xs x has is)))

-- a row that is put where none is adds to the rows
pub put_adds : (id : ℤ) (new : Row) → rowid new ≡ Int id → (rows : List Row) → list_any (has_rowid id) rows ≡ false → IsPermutation (put_row new rows) (new ∷ rows)
put_adds id new keyed [] free = IsPermutation-refl _
put_adds id new keyed (r ∷ rows) free = rw keyed (go (value_cmp (rowid r) (Int id)) (or_parts _ _ free).0 (put_adds id new keyed rows (or_parts _ _ free).1))
  where
    go : (o : Ordering) → is_eq o ≡ false → IsPermutation (put_row new rows) (new ∷ rows) → IsPermutation (match_ordering o (r ∷ put_row new rows) (new ∷ rows) (new ∷ r ∷ rows)) (new ∷ r ∷ rows)
    go Less other more = IsPermutation-trans _ _ _ (IsPermutation-cons r _ _ more) (IsPermutation-middle (r ∷ []) new rows)
    go Equal other more = absurd (true≢false other)
    go Greater other more = IsPermutation-refl _

-- the row is there in place of those with its rowid
pub replaced : (id : ℤ) (new : Row) → rowid new ≡ Int id → (rows : List Row) → IsPermutation (put_row new (without_rowid id rows)) (new ∷ without_rowid id rows)
replaced id new keyed rows = put_adds id new keyed (without_rowid id rows) (none_found id (without_rowid id rows) (filter_none (has_rowid id) _ (none_left (has_rowid id) rows)))

pub lone : {X : Type 0} (xs : List X) (x : X) → Has xs x → length xs ≤ 1 → xs ≡ x ∷ []
lone [] x has few = absurd has
lone (y ∷ []) x has few = grind (arith, has)
lone (y ∷ z ∷ more) x has few = absurd (omega (arith, few))

pub has_own : (r : Row) (id : ℤ) → rowid r ≡ Int id → has_rowid id r ≡ true
has_own r id is = rw (is, tied_itself value_cmp_total (Int id))

pub same_number : (r : Row) (n id : ℤ) → rowid r ≡ Int n → has_rowid id r ≡ true → n ≡ id
same_number r n id is has = (Decides-int_eq n id).0 (rw (is, value_cmp-Int n id) at has)

-- the row with a rowid is the only one
pub only_row : (rows : List Row) → HaveRowids rows → (r : Row) (id : ℤ) → Has rows r → rowid r ≡ Int id → filter (has_rowid id) rows ≡ r ∷ []
only_row rows keyed r id has is = lone _ r (has_kept (has_rowid id) rows r has (has_own r id is)) (keyed.once id)

-- what is left passes a test no more often
pub filter_fewer : {X : Type 0} (p q : X → Bool) (xs : List X) → length (filter p (filter q xs)) ≤ length (filter p xs)
filter_fewer p q xs = omega (arith, ap length (filter_swap p q xs), length-filter_both q (λ x. not (q x)) (λ x. refl) (filter p xs))

-- the rows with a number that the rows left do not have twice
few_with : (id k : ℤ) (new : Row) → rowid new ≡ Int id → (rows : List Row) → HaveRowids rows → length (filter (has_rowid k) (new ∷ without_rowid id rows)) ≤ 1
few_with id k new keyed rows had =
    let left = filter (has_rowid k) (without_rowid id rows) in
    let fewer = filter_fewer (has_rowid k) (λ r. not (has_rowid id r)) rows in
    let few = had.once k in
    let none = λ (own : has_rowid k new ≡ true).
    let gone : left ≡ [] = rw (same_number new id k keyed own) (filter_none (has_rowid k) _ (none_left (has_rowid k) rows)) in gone in
    grind (arith, fewer, few, none)

-- putting a row in place of those with its rowid keeps the rowids apart
pub rowids_stay : (id : ℤ) (new : Row) → rowid new ≡ Int id → (rows : List Row) → HaveRowids rows → HaveRowids (put_row new (without_rowid id rows))
rowids_stay id new keyed rows had = record {
  integers = all-permutation _ _ _ (IsPermutation-sym _ _ (replaced id new keyed rows)) (rw keyed refl, all-filter _ _ rows had.integers);
  once = λ k.
      let same = length_permutation _ _ (IsPermutation-filter (has_rowid k) _ _ (replaced id new keyed rows)) in
      let few : length (filter (has_rowid k) (new ∷ without_rowid id rows)) ≤ 1 = few_with id k new keyed rows had in
      omega (arith, same, few);
}

module _ {X : Type 0} (written : X → Row) (columns : Row → Row) where
  -- a row of the tree shows one of those that are listed
  pub shows_one : (xs : List X) (rows : List Row) → Lists written columns xs rows → (r : Row) → Has rows r → (x : X) × (columns r ≡ written x)
  shows_one xs rows lists r has =
      let all = all-map (λ s. (x : X) × (s ≡ written x)) written xs (all_of _ (λ x. (x, refl)) xs) in
      all_has _ rows r (all_from_map (λ s. (x : X) × (s ≡ written x)) columns rows (all-permutation _ _ _ lists all)) has

-- ---- the rows of a tree are those of a list, up to their order

abbrev pub integer : Value → ℤ
integer (Int n) = n
integer _ = pos 0

pub all_undone : {X Y : Type 0} (written : X → Y) (back : Y → X) → ((x : X) → back (written x) ≡ x) → (xs : List X) → map back (map written xs) ≡ xs
all_undone written back undone xs = map-map back written xs ∙ (λ i. map (λ x. undone x i) xs) ∙ map-id xs

-- the same rows in another order
pub other_order : {X : Type 0} (written : X → Row) (columns : Row → Row) (xs ys : List X) (rows : List Row) → IsPermutation xs ys → Lists written columns xs rows → Lists written columns ys rows
other_order written columns xs ys rows same lists = IsPermutation-trans _ _ _ (IsPermutation-map written _ _ (IsPermutation-sym _ _ same)) lists
