-- The list of a table's rows once one is put or a column of one is set, and the tables beside it.
use Rattle.std.proofs.Common.{◌≡◌, ◌≢◌, ℕ, ℤ, Bool, not, List, ◌∷◌, map, filter, sym, ap, subst, subst₂, ◌∙◌, is_eq, IsPermutation, bytes_eq, true≢false, false, true, cond, [], ◌++◌, refl, int_eq, arith}
use Rattle.std.proofs.lemmas.Slice.Eq.{bytes_eq-Decides}
use Rattle.std.proofs.lemmas.List.Elements.{filter_agree}
use Rattle.std.proofs.lemmas.List.Sorted.{IsPermutation-sym, IsPermutation-trans, IsPermutation-cons, IsPermutation-map, IsPermutation-filter_both}
use Rattle.sqlite_value.specs.declared.value.Value.TheVariants.{Int}
use Rattle.sqlite_value.specs.Order.{Row, column, value_cmp}
use Rattle.sqlite_value.proofs.OrderLemmas.{value_cmp-Int}
use Rattle.sqlite_trees.specs.Tree.{rowid, has_rowid, put_row, without_rowid}
use Rattle.sqlite_trees.proofs.ListLemmas.{filter-map, IsPermutation-filter, all_weaker, map-map}
use Rattle.sqlite_schema.specs.declared.schema.Schema.{Schema}
use Rattle.sqlite_schema.specs.declared.schema.Table.{Table}
use Rattle.sql_tables.specs.Rows.{Lists}
use Rattle.sql_tables.specs.Tables.{IsDeclared}
use Rattle.sql_tables.proofs.Declaring.{has_table}
use Rattle.sql_tables.proofs.RowLists.{replaced, none_left, none_pass}
use Rattle.std.specs.List.{AllByRecursion}

pub differ : (a b : List ℕ) → bytes_eq a b ≡ false → a ≢ b
differ a b other same = true≢false (sym ((bytes_eq-Decides a b).1 same) ∙ other)

-- two tables of different names have different trees
pub apart : (schema : Schema) (a b : Table) → IsDeclared schema a → IsDeclared schema b → a.name ≢ b.name → a.tree ≢ b.tree
apart schema a b da db other same = other (ap (λ (t : Table). t.name) (db.alone a (has_table schema a da) same))

-- a row in place of those whose columns pass a test is listed in place of what has such columns
pub lists_put_by : {X : Type 0} (written : X → Row) (columns : Row → Row) (passes : Row → Bool) (test : X → Bool) → ((x : X) → passes (written x) ≡ test x) → (x : X) (xs : List X) (row : Row) (id : ℤ) (rows : List Row)
    → rowid row ≡ Int id → Lists written columns xs rows → columns row ≡ written x → without_rowid id rows ≡ filter (λ r. not (passes (columns r))) rows
    → Lists written columns (x ∷ filter (λ y. not (test y)) xs) (put_row row (without_rowid id rows))
lists_put_by written columns passes test means x xs row id rows keyed all shows same =
    let spares = λ (s : Row). not (passes s) in
    let left : filter spares (map written xs) ≡ map written (filter (λ y. not (test y)) xs) = filter-map spares written xs ∙ ap (map written) (filter_agree (λ y. spares (written y)) (λ y. not (test y)) (λ y. ap not (means y)) xs) in
    let right : filter spares (map columns rows) ≡ map columns (without_rowid id rows) = filter-map spares columns rows ∙ ap (map columns) (sym same) in
    let rest : IsPermutation (map written (filter (λ y. not (test y)) xs)) (map columns (without_rowid id rows)) = subst₂ IsPermutation left right (IsPermutation-filter spares _ _ all) in
    let first : IsPermutation (columns row ∷ map written (filter (λ y. not (test y)) xs)) (map columns (row ∷ without_rowid id rows)) = IsPermutation-cons (columns row) _ _ rest in
    let there = IsPermutation-map columns _ _ (replaced id row keyed rows) in
    subst (λ r. IsPermutation (r ∷ map written (filter (λ y. not (test y)) xs)) (map columns (put_row row (without_rowid id rows)))) shows (IsPermutation-trans _ _ _ first (IsPermutation-sym _ _ there))

-- the test is that of the number
pub lists_put : {X : Type 0} (written : X → Row) (columns : Row → Row) (key : X → ℤ) → ((x : X) → column (written x) 0 ≡ Int (key x)) → ((r : Row) → column (columns r) 0 ≡ rowid r)
    → (x : X) (xs : List X) (row : Row) (rows : List Row) → Lists written columns xs rows → columns row ≡ written x → rowid row ≡ Int (key x)
    → Lists written columns (x ∷ filter (λ y. not (int_eq (key y) (key x))) xs) (put_row row (without_rowid (key x) rows))
lists_put written columns key written_key shown_key x xs row rows all shows keyed =
    let id = key x in
    let same = filter_agree (λ r. not (has_rowid id r)) (λ r. not (is_eq (value_cmp (column (columns r) 0) (Int id)))) (λ r. rw (shown_key r)) rows in
    lists_put_by written columns (λ s. is_eq (value_cmp (column s 0) (Int id))) (λ y. int_eq (key y) id) (λ y. rw (written_key y, value_cmp-Int (key y) id)) x xs row id rows keyed all shows same

-- ---- a column of the row with a number is set

map_same : {A B : Type 0} (f g : A → B) (xs : List A) → AllByRecursion (λ x. f x ≡ g x) xs → map f xs ≡ map g xs
map_same f g [] all = refl
map_same f g (x ∷ xs) all = rw (all.0, map_same f g xs all.1)

module _ {X : Type 0} (written : X → Row) (columns : Row → Row) (key : X → ℤ) (written_key : (x : X) → column (written x) 0 ≡ Int (key x)) (shown_key : (r : Row) → column (columns r) 0 ≡ rowid r)
    (id : ℤ) (set : X → X) (change : Row → Row) (changes : (x : X) → written (set x) ≡ change (written x)) where
  -- what becomes of a row
  abbrev pub set_if : X → X
  set_if x = cond (int_eq (key x) id) (set x) x

  abbrev becomes : Row → Row
  becomes s = cond (is_eq (value_cmp (column s 0) (Int id))) (change s) s

  one_becomes : (x : X) → written (set_if x) ≡ becomes (written x)
  one_becomes x = rw (written_key x, value_cmp-Int (key x) id) (grind (arith, changes x))

  unchanged : (rows : List Row) → AllByRecursion (λ r. has_rowid id r ≡ false) rows → AllByRecursion (λ r. becomes (columns r) ≡ columns r) rows
  unchanged = all_weaker (λ r. has_rowid id r ≡ false) (λ r. becomes (columns r) ≡ columns r) (λ r other. rw (shown_key r, other))

  moved : (xs : List X) (rows : List Row) → Lists written columns xs rows → IsPermutation (map written (map set_if xs)) (map (λ r. becomes (columns r)) rows)
  moved xs rows lists =
      let same : map becomes (map written xs) ≡ map written (map set_if xs) = map-map becomes written xs ∙ (λ i. map (λ x. sym (one_becomes x) i) xs) ∙ sym (map-map written set_if xs) in
      subst₂ IsPermutation same (map-map becomes columns rows) (IsPermutation-map becomes _ _ lists)

  -- if no row has the number
  pub sets_none : (xs : List X) (rows : List Row) → Lists written columns xs rows → filter (has_rowid id) rows ≡ [] → Lists written columns (map set_if xs) rows
  sets_none xs rows lists none = subst (λ l. IsPermutation (map written (map set_if xs)) l) (map_same _ columns rows (unchanged rows (none_pass (has_rowid id) rows none))) (moved xs rows lists)

  -- if one has it
  pub sets_one : (xs : List X) (rows : List Row) (r new : Row) → Lists written columns xs rows → filter (has_rowid id) rows ≡ r ∷ [] → has_rowid id r ≡ true → columns new ≡ change (columns r) → rowid new ≡ Int id
      → Lists written columns (map set_if xs) (put_row new (without_rowid id rows))
  sets_one xs rows r new lists only has is keyed =
      let split : IsPermutation rows (r ∷ without_rowid id rows) = subst (λ front. IsPermutation rows (front ++ without_rowid id rows)) only (IsPermutation-filter_both (has_rowid id) (λ x. not (has_rowid id x)) (λ x. refl) rows) in
      let parted = IsPermutation-map (λ x. becomes (columns x)) _ _ split in
      let first : becomes (columns r) ≡ columns new = (rw (shown_key r, has)) ∙ sym is in
      let others : map (λ x. becomes (columns x)) (without_rowid id rows) ≡ map columns (without_rowid id rows) = map_same _ columns _ (unchanged _ (none_left (has_rowid id) rows)) in
      let now : map (λ x. becomes (columns x)) (r ∷ without_rowid id rows) ≡ map columns (new ∷ without_rowid id rows) = rw (first, others) in
      let there = IsPermutation-map columns _ _ (replaced id new keyed rows) in
      let front = IsPermutation-trans _ _ _ (moved xs rows lists) (subst (λ l. IsPermutation (map (λ x. becomes (columns x)) rows) l) now parted) in
      IsPermutation-trans _ _ _ front (IsPermutation-sym _ _ there)
