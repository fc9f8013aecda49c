-- What an upsert by the rowid does to a table whose key is the rowid, in any schema that declares it so.
use Rattle.std.proofs.Common.{◌≡◌, inl, inr, ℕ, ℤ, Bool, true, ◌&&◌, List, [], ◌∷◌, ◌++◌, Option, filter, drop, Some, refl, sym, ap, subst, ◌∙◌, is_eq, IsTrue, ◌<◌, int_eq, arith}
use Rattle.std.specs.List.{AllByRecursion}
use Rattle.std.proofs.lemmas.Bool.{and_from}
use Rattle.std.proofs.lemmas.Bool.Decides.{Decides-int_eq, nat_tests}
use Rattle.sqlite_value.specs.declared.keys.Collation.TheVariants.{Binary}
use Rattle.sqlite_value.specs.declared.value.Value.TheVariants.{Int}
use Rattle.sqlite_value.specs.Keys.{first_key}
use Rattle.sqlite_value.specs.Order.{Row, column, value_cmp}
use Rattle.sqlite_value.proofs.OrderLemmas.{value_cmp-Int}
use Rattle.sqlite_trees.specs.Tree.{Trees, rowid, has_rowid}
use Rattle.sqlite_trees.specs.View.{is_int}
use Rattle.sqlite_trees.proofs.ListLemmas.{all_weaker, filter_same}
use Rattle.sqlite_sql.specs.Ops.{binary, is_true, from_truth}
use Rattle.sqlite_sql.specs.Term.{Term, col, eval_all}
use Rattle.sqlite_resolve.specs.Terms.{equal as equals}
use Rattle.sqlite_schema.specs.declared.schema.Index.{Index}
use Rattle.sqlite_schema.specs.declared.schema.Schema.{Schema}
use Rattle.sqlite_schema.specs.declared.schema.Table.{Table}
use Rattle.sqlite_schema.specs.Rules.{equal, guards}
use Rattle.sqlite_rules.specs.Cast.{cast_row}
use Rattle.sqlite_rules.specs.Edit.{id_in}
use Rattle.sqlite_rules.specs.Keys.{conflicts, shares}
use Rattle.sqlite_rules.specs.Lists.{Has}
use Rattle.sqlite_rules.proofs.ListLemmas.{all_has, has_kept, some_has}
use Rattle.sqlite_rules.proofs.TableLemmas.{int_is}
use Rattle.sqlite.specs.Rows.{shown}
use Rattle.sql_tables.specs.Rows.{HaveRowids}
use Rattle.sql_tables.specs.Tables.{IsDeclared}
use Rattle.sql_tables.proofs.Declaring.{uncovered}
use Rattle.sql_tables.proofs.OneTable.{Parts, program_on}
use Rattle.sql_tables.proofs.RowLists.{only_row}
use Rattle.sql_tables.proofs.Writing.{IsPut, Ends, finds, puts, updates_one}

-- a lone test passes if it is true
truth_of : (b : Bool) → (is_true (from_truth (Some b)) && true) ≡ b
truth_of b = grind arith

-- two numbers that SQL takes as equal are the same
equal_numbers : (a b : ℤ) → equal Binary (Int a) (Int b) ≡ true → a ≡ b
unfolding binary
equal_numbers a b h = (Decides-int_eq a b).0 (sym (truth_of (int_eq a b)) ∙ and_from _ _ (rw value_cmp-Int at h) refl)

-- `WHERE key = ?n` finds the rows with that number
finds_key : (given r : Row) (at : ℕ) (id n : ℤ) → column given at ≡ Int id → column r 0 ≡ Int n → finds (equals Binary (col 1 0) (col 0 at) ∷ []) given r ≡ has_rowid id r
unfolding binary
finds_key given r at id n asked is = rw (asked, is) (truth_of (is_eq (value_cmp (Int n) (Int id))))

pub all_find : (given : Row) (at : ℕ) (id : ℤ) → column given at ≡ Int id → (rows : List Row) → AllByRecursion (λ r. IsTrue (is_int (rowid r))) rows
    → filter (finds (equals Binary (col 1 0) (col 0 at) ∷ []) given) rows ≡ filter (has_rowid id) rows
all_find given at id asked rows integers =
    let tests = equals Binary (col 1 0) (col 0 at) ∷ [] in
    filter_same (finds tests given) (has_rowid id) rows (all_weaker (λ r. IsTrue (is_int (rowid r))) (λ r. finds tests given r ≡ has_rowid id r)
    (λ r integer. finds_key given r at id (id_in (rowid r)) asked (int_is (rowid r) integer)) rows integers)

module _ (schema : Schema) (table : Table) (d : IsDeclared schema table) (unkeyed : table.uniques ≡ []) where
  pub none_on : (i : Index) → Has schema.indexes i → i.is_unique ≡ true → i.table ≡ table.tree → ⊥
  none_on i has unique is =
      let no_index : filter (λ i. guards i table) schema.indexes ≡ [] = d.indexed ∙ rw unkeyed in
      subst (λ (is : List Index). Has is i) no_index (has_kept (λ (i : Index). guards i table) schema.indexes i has (grind (arith, nat_tests, unique, is)))

  -- a row in the way has the number of the new one
  in_the_way : (new r : Row) (id n : ℤ) → rowid new ≡ Int id → rowid r ≡ Int n → conflicts (Some (0 ∷ [])) schema.indexes table new r ≡ true → n ≡ id
  unfolding first_key
  in_the_way new r id n is number h =
      grind (arith, nat_tests, h, is, number, equal_numbers n id, some_has (shares (Some (0 ∷ [])) table new r) schema.indexes, none_on)

  -- what an upsert by the rowid tests and sets
  abbrev pub by_rowid : ℕ → List Term → Parts
  by_rowid base project = record { tests = equals Binary (col 1 0) (col 0 base) ∷ []; project = project; order = [] }

  module _ (low : table.tree < 65536) (limit : Option ℕ) (params : Row) (base : ℕ) (project : List Term) (new : Row) (cast : cast_row table new ≡ new) (id : ℤ) (is : rowid new ≡ Int id)
      (asked : column (params ++ Int id ∷ shown table new) base ≡ Int id)
      (made : (given r : Row) → given ≡ params ++ Int id ∷ shown table new → rowid r ≡ Int id → (cast_row table (drop 1 (eval_all project (given ∷ r ∷ []))) ≡ new) × (id_in (rowid (eval_all project (given ∷ r ∷ []))) ≡ id)) where
    -- the row is put in place of the one with its number, or added
    pub upserts : (db after : Trees) → HaveRowids (db table.tree) → Ends limit schema table params (Some (0 ∷ [])) (program_on table.tree (by_rowid base project)) new db after → IsPut schema table new id db after
    upserts db after keyed (inl (free, w, h, trees)) = subst (IsPut schema table new id db) (sym trees) (puts limit schema table params new cast id is db w h).0
    upserts db after keyed (inr (r, has, meets, w, h, trees)) =
        let n = id_in (rowid r) in
        let integer : rowid r ≡ Int n = int_is (rowid r) (all_has _ (db table.tree) r keyed.integers has) in
        let number : rowid r ≡ Int id = integer ∙ ap Int (in_the_way new r id n is integer meets) in
        let given = params ++ rowid r ∷ shown table new in
        let shows : given ≡ params ++ Int id ∷ shown table new = ap (λ v. params ++ v ∷ shown table new) number in
        let there = only_row (db table.tree) keyed r id has number in
        let only = all_find given base id (ap (λ g. column g base) shows ∙ asked) (db table.tree) keyed.integers ∙ there in
        let next = made given r shows number in
        subst (IsPut schema table new id db) (sym trees)
        (updates_one limit schema table params d.alone (by_rowid base project) given db r new id w (uncovered schema table d low db) only there
        next.0 next.1 (is ∙ sym number) (λ i has unique on. absurd (none_on i has unique on)) h)
