-- What an upsert by the name does to `tab`, whose rowid is hidden, in any schema that declares it so.
use Rattle.std.proofs.Common.{◌≡◌, inl, inr, ℕ, ℤ, ◌≤◌, Bool, true, false, not, ◌&&◌, ◌==◌, List, [], ◌∷◌, map, filter, find, length, Some, refl, sym, ap, subst, ◌∙◌, is_eq, eq-eqb, eqb-true, bytes_eq, arith}
use Rattle.std.proofs.lemmas.List.{length-map}
use Rattle.std.specs.List.{list_any}
use Rattle.std.specs.Cmp.{both_ways}
use Rattle.std.proofs.lemmas.Bool.{and_from, and_parts, false_from_ne_true, not-true}
use Rattle.std.proofs.lemmas.List.Elements.{filter_agree}
use Rattle.std.proofs.lemmas.List.Sorted.{length_permutation}
use Rattle.std.proofs.lemmas.Map.Text.{is_eq-slice_cmp}
use Rattle.std.proofs.lemmas.Slice.Eq.{bytes_eq-Decides}
use Rattle.sqlite_value.specs.declared.keys.Collation.TheVariants.{Binary}
use Rattle.sqlite_value.specs.declared.value.Value.TheVariants.{Int, Text}
use Rattle.sqlite_value.specs.Keys.{first_key, plain}
use Rattle.sqlite_value.specs.Order.{Row, column, value_cmp}
use Rattle.sqlite_value.proofs.OrderLemmas.{value_cmp-Text, value_cmp-Int}
use Rattle.sqlite_trees.specs.Tree.{rowid, has_rowid, put_row, without_rowid, Trees}
use Rattle.sqlite_trees.proofs.ListLemmas.{filter_all, filter_same, filter-map, IsPermutation-filter}
use Rattle.sqlite_sql.specs.Ops.{binary}
use Rattle.sqlite_schema.specs.declared.schema.Index.{Index}
use Rattle.sqlite_schema.specs.declared.schema.Schema.{Schema}
use Rattle.sqlite_schema.specs.Rules.{agree, equal, guards, clashes, differ}
use Rattle.sqlite_resolve.specs.Given.{is_key_at}
use Rattle.sqlite_rules.specs.Keys.{conflicts, shares}
use Rattle.sqlite_rules.specs.Lists.{Has}
use Rattle.sqlite_rules.proofs.TableLemmas.{none_to_drop, int_is}
use Rattle.sqlite_rules.proofs.ListLemmas.{all_from, has_found, has_kept, some_from, some_has, all_has, has_filtered, test_has}
use Rattle.sqlite_catalog.specs.Listing.{automatic, IsSound}
use Rattle.sqlite_catalog.proofs.ListFacts.{find_within}
use Rattle.desk_parts.specs.declared.file_table.FileTable.TheVariants as tables
use Rattle.desk_parts.specs.Puts.{put_by_key}
use Rattle.desk_parts.specs.Rows.{Tab}
use Rattle.sql_tables.specs.Rows.{HaveRowids, Lists, columns_at}
use Rattle.sql_tables.specs.Tables.{IsDeclared}
use Rattle.sql_tables.proofs.PutLists.{lists_put_by}
use Rattle.sql_tables.proofs.RowLists.{only_row, has_own, lone, shows_one, filter_fewer, none_has}
use Rattle.sqlite_schema.specs.declared.schema.Table.{Table}
use Rattle.desk_rows.specs.Descriptions.{description_of, table_of}
use Rattle.desk_rows.specs.Rows.{columns_of}
use Rattle.std.proofs.lemmas.Int.{ints}
use Rattle.sqlite_schema.specs.declared.schema.Constraint.TheVariants.{Unique}
use Rattle.sqlite_rules.specs.Edit.{id_in}
use Rattle.sqlite_rules.proofs.RuleLemmas.{keeps_at}
use Rattle.sqlite_tied.proofs.RuleLemmas.{and_true}
use Rattle.sql_tables.proofs.Declaring.{has_table}

-- ---- the table, and a row of it as its columns and as its tree keeps it

abbrev pub tab : ℕ → Table
tab = table_of tables.Tab

abbrev pub tab_row : Tab → Row
tab_row = columns_of tables.Tab

abbrev pub tab_columns : Row → Row
tab_columns = columns_at (description_of tables.Tab).own

-- SQL takes two texts as equal if they are the same
pub same_text : (a b : List ℕ) → is_eq (value_cmp (Text a) (Text b)) ≡ bytes_eq a b
same_text a b = ap is_eq (value_cmp-Text a b) ∙ is_eq-slice_cmp a b

equal_texts : (a b : List ℕ) → equal Binary (Text a) (Text b) ≡ bytes_eq a b
unfolding binary
equal_texts a b = rw (same_text a b) (grind arith)

pub agrees_by_name : (r new : Row) (a b : List ℕ) → column r 1 ≡ Text a → column new 1 ≡ Text b → agree plain (1 ∷ []) r (1 ∷ []) new ≡ bytes_eq a b
unfolding first_key
agrees_by_name r new a b is is' = rw (is, is', equal_texts a b) (and_true (bytes_eq a b))

-- what a list of one has
the_one : {X : Type 0} (x y : X) → Has (x ∷ []) y → y ≡ x
the_one x y has = elim has [ inl is ↦ is | inr none ↦ absurd none ]

module _ (schema : Schema) (tree : ℕ) (d : IsDeclared schema (tab tree)) where
  -- the index of the key
  abbrev pub its_index : Index
  its_index = automatic (tab tree) 0 (1 ∷ []) d.first

  own : (tree == tree) ≡ true
  own = eq-eqb tree tree refl

  pub is_its_index : (i : Index) → Has schema.indexes i → i.is_unique ≡ true → i.table ≡ tree → i ≡ its_index
  is_its_index i has unique on =
      let on_it = and_from i.is_unique (i.table == tree) unique (eq-eqb i.table tree on) in
      the_one its_index i (subst (λ (is : List Index). Has is i) d.indexed (has_kept (λ (i : Index). guards i (tab tree)) schema.indexes i has on_it))

  pub key_index : find (is_key_at (tab tree) (1 ∷ [])) schema.indexes ≡ Some its_index
  unfolding is_key_at
  key_index = sym (find_within (is_key_at (tab tree) (1 ∷ [])) (λ (i : Index). guards i (tab tree)) schema.indexes (λ i has other. rw other)) ∙ ap (find (is_key_at (tab tree) (1 ∷ []))) d.indexed ∙ rw own

  -- a row is in the way if it has the name
  pub in_the_way : (r new : Row) (a b : List ℕ) → column r 1 ≡ Text a → column new 1 ≡ Text b → conflicts (Some (1 ∷ [])) schema.indexes (tab tree) new r ≡ true → a ≡ b
  in_the_way r new a b is is' h =
      let shared = some_has (shares (Some (1 ∷ [])) (tab tree) new r) schema.indexes h in
      let parts = and_parts _ _ shared.2 in
      let guarded = and_parts _ _ (and_parts _ _ parts.0).0 in
      let same = is_its_index shared.0 shared.1 guarded.0 (eqb-true shared.0.table tree guarded.1) in
      let agreed : agree plain (1 ∷ []) r (1 ∷ []) new ≡ true = subst (λ (i : Index). agree i.order i.columns r i.columns new ≡ true) same parts.1 in
      (bytes_eq-Decides a b).0 (sym (agrees_by_name r new a b is is') ∙ agreed)

  pub gets_in_the_way : (r new : Row) (a : List ℕ) → column r 1 ≡ Text a → column new 1 ≡ Text a → conflicts (Some (1 ∷ [])) schema.indexes (tab tree) new r ≡ true
  gets_in_the_way r new a is is' =
      let it = has_found (is_key_at (tab tree) (1 ∷ [])) schema.indexes its_index key_index in
      let agreed : agree plain (1 ∷ []) r (1 ∷ []) new ≡ true = agrees_by_name r new a a is is' ∙ (bytes_eq-Decides a a).1 refl in
      some_from (shares (Some (1 ∷ [])) (tab tree) new r) schema.indexes its_index it.0 (rw (own, agreed))

-- ---- the rows of tab as its tree keeps them

abbrev pub IsRowOf : Tab → Row → Type 0
IsRowOf t r = tab_columns r ≡ tab_row t

pub row_of : (tabs : List Tab) (rows : List Row) → Lists tab_row tab_columns tabs rows → (r : Row) → Has rows r → (t : Tab) × IsRowOf t r
row_of = shows_one tab_row tab_columns

pub name_of : (t : Tab) (r : Row) → IsRowOf t r → column r 1 ≡ Text t.name
name_of t r is = ap (λ (s : Row). column s 0) is

-- the shown row has this name
abbrev pub named : List ℕ → Row → Bool
named name s = is_eq (value_cmp (column s 0) (Text name))

-- as many rows of the tree have the name as are shown with it
as_many_named : (name : List ℕ) (tabs : List Tab) (rows : List Row) → Lists tab_row tab_columns tabs rows → length (filter (λ t. bytes_eq t.name name) tabs) ≡ length (filter (λ r. named name (tab_columns r)) rows)
as_many_named name tabs rows lists =
    let left : filter (named name) (map tab_row tabs) ≡ map tab_row (filter (λ t. bytes_eq t.name name) tabs) = filter-map (named name) tab_row tabs ∙ ap (map tab_row) (filter_agree (λ t. named name (tab_row t)) (λ t. bytes_eq t.name name) (λ t. same_text t.name name) tabs) in
    let right : filter (named name) (map tab_columns rows) ≡ map tab_columns (filter (λ r. named name (tab_columns r)) rows) = filter-map (named name) tab_columns rows in
    sym (length-map _ _) ∙ sym (ap length left) ∙ sym (length_permutation _ _ (IsPermutation-filter (named name) _ _ lists)) ∙ ap length right ∙ length-map _ _

-- a row that is shown with the name has it
named_is : (name : List ℕ) (tabs : List Tab) (rows : List Row) → Lists tab_row tab_columns tabs rows → (r : Row) → Has rows r
    → named name (tab_columns r) ≡ true → column r 1 ≡ Text name
named_is name tabs rows lists r has is =
    let u = row_of tabs rows lists r has in
    let same : bytes_eq u.0.name name ≡ true = sym (same_text u.0.name name) ∙ sym (ap (λ v. named name (v ∷ [])) (name_of u.0 r u.1)) ∙ is in
    name_of u.0 r u.1 ∙ ap Text ((bytes_eq-Decides u.0.name name).0 same)

-- the rows without that name
module _ (t : Tab) (tabs : List Tab) (rows : List Row) (lists : Lists tab_row tab_columns tabs rows) (few : length (filter (λ s. bytes_eq s.name t.name) tabs) ≤ 1) where
  -- a row that has the name, put in place of the rows with its number, leaves the rows with the other names
  pub lists_put : (new : Row) (id : ℤ) → rowid new ≡ Int id → IsRowOf t new → without_rowid id rows ≡ filter (λ r. not (named t.name (tab_columns r))) rows
      → Lists tab_row tab_columns (put_by_key (λ s. bytes_eq s.name t.name) t tabs) (put_row new (without_rowid id rows))
  lists_put new id keyed = lists_put_by tab_row tab_columns (named t.name) (λ s. bytes_eq s.name t.name) (λ s. same_text s.name t.name) t tabs new id rows keyed lists

  -- if no row has the name, and none the number
  pub unnamed_rows : (id : ℤ) → list_any (has_rowid id) rows ≡ false → ((r : Row) → Has rows r → column r 1 ≡ Text t.name → ⊥) → without_rowid id rows ≡ filter (λ r. not (named t.name (tab_columns r))) rows
  unnamed_rows id none free =
      none_to_drop id rows none
      ∙ sym (filter_all _ rows (all_from _ rows (λ r has. ap not (false_from_ne_true _ (λ is. free r has (named_is t.name tabs rows lists r has is))))))

  -- if a row has both
  pub named_rows : HaveRowids rows → (r : Row) (id : ℤ) → Has rows r → rowid r ≡ Int id → column r 1 ≡ Text t.name → without_rowid id rows ≡ filter (λ r. not (named t.name (tab_columns r))) rows
  named_rows keyed r id has is name = filter_same _ _ rows (all_from _ rows alike)
    where
      has_name : named t.name (tab_columns r) ≡ true
      has_name = rw name (same_text t.name t.name ∙ (bytes_eq-Decides t.name t.name).1 refl)

      one : filter (λ x. named t.name (tab_columns x)) rows ≡ r ∷ []
      one = lone _ r (has_kept (λ x. named t.name (tab_columns x)) rows r has has_name) (let same = as_many_named t.name tabs rows lists in omega (arith, few, same))

      alike : (x : Row) → Has rows x → not (has_rowid id x) ≡ not (named t.name (tab_columns x))
      alike x within =
          ap not (both_ways (has_rowid id x) (named t.name (tab_columns x))
          (λ so. ap (λ y. named t.name (tab_columns y))
          (the_one r x (subst (λ xs. Has xs x) (only_row rows keyed r id has is) (has_kept (has_rowid id) rows x within so))) ∙ has_name)
          (λ so. ap (has_rowid id) (the_one r x (subst (λ xs. Has xs x) one (has_kept (λ y. named t.name (tab_columns y)) rows x within so))) ∙ has_own r id is))

-- ---- no two rows have one name, since the key has an index

differ_numbers : (a b : ℤ) → differ (Int a) (Int b) ≡ false → a ≡ b
unfolding binary
differ_numbers a b h = let other = rw value_cmp-Int at h in grind (arith, ints)

module _ (schema : Schema) (tree : ℕ) (d : IsDeclared schema (tab tree)) (db : Trees) (sound : IsSound schema db) (keyed : HaveRowids (db tree)) (tabs : List Tab) (lists : Lists tab_row tab_columns tabs (db tree)) where
  -- no other row has the key of a row
  alone : (r : Row) → Has (db tree) r → clashes plain (1 ∷ []) (db tree) r ≡ false
  alone r has =
      let passes = keeps_at Unique schema db (tab tree) r (sound.obeys.rules Unique) (has_table schema (tab tree) d) has in
      let it = has_found (is_key_at (tab tree) (1 ∷ [])) schema.indexes (its_index schema tree d) (key_index schema tree d) in
      let one = test_has (λ i. not (guards i (tab tree) && clashes i.order i.columns (db tree) r)) schema.indexes (its_index schema tree d) passes it.0 in
      not-true (clashes plain (1 ∷ []) (db tree) r) (rw (eq-eqb tree tree refl) at one)

  -- two rows with one name have one rowid
  one_rowid : (r s : Row) (n m : ℤ) (name : List ℕ) → Has (db tree) r → Has (db tree) s → rowid r ≡ Int n → rowid s ≡ Int m → column r 1 ≡ Text name → column s 1 ≡ Text name → m ≡ n
  one_rowid r s n m name in_r in_s rn sm rt st =
      let clash = none_has (λ other. agree plain (1 ∷ []) other (1 ∷ []) r && differ (rowid other) (rowid r)) (db tree) s (alone r in_r) in_s in
      let same : agree plain (1 ∷ []) s (1 ∷ []) r ≡ true = agrees_by_name s r name name st rt ∙ (bytes_eq-Decides name name).1 refl in
      differ_numbers m n (rw (same, rn, sm) at clash)

  rows_once : (name : List ℕ) → length (filter (λ r. named name (tab_columns r)) (db tree)) ≤ 1
  rows_once name = go (filter (λ r. named name (tab_columns r)) (db tree)) refl
    where
      go : (xs : List Row) → filter (λ r. named name (tab_columns r)) (db tree) ≡ xs → length xs ≤ 1
      go [] e = omega arith
      go (r ∷ []) e = omega arith
      go (r ∷ s ∷ more) e =
          let of_r = has_filtered _ (db tree) r (subst (λ (ys : List Row). Has ys r) (sym e) (inl refl)) in
          let of_s = has_filtered _ (db tree) s (subst (λ (ys : List Row). Has ys s) (sym e) (inr (inl refl))) in
          let n = id_in (rowid r) in
          let rn : rowid r ≡ Int n = int_is (rowid r) (all_has _ (db tree) r keyed.integers of_r.0) in
          let sm = int_is (rowid s) (all_has _ (db tree) s keyed.integers of_s.0) in
          let same = one_rowid r s n (id_in (rowid s)) name of_r.0 of_s.0 rn sm (named_is name tabs (db tree) lists r of_r.0 of_r.1) (named_is name tabs (db tree) lists s of_s.0 of_s.1) in
          let fewer = filter_fewer (has_rowid n) (λ r. named name (tab_columns r)) (db tree) in
          let few = keyed.once n in
          let both : length (filter (has_rowid n) (r ∷ s ∷ more)) ≤ length (filter (has_rowid n) (db tree)) = rw e at fewer in
          let two = rw (has_own r n rn, has_own s n (sm ∙ ap Int same)) at both in
          absurd (omega (arith, few, two))

  pub names_once : (name : List ℕ) → length (filter (λ t. bytes_eq t.name name) tabs) ≤ 1
  names_once name = let few = rows_once name in let same = as_many_named name tabs (db tree) lists in omega (arith, few, same)
