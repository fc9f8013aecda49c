-- What an UPDATE of one row by the rowid means, and what it does to a table, whatever else the schema has.
use Rattle.std.proofs.Common.{◌≡◌, ◌-◌, ◌==◌, if◌then◌else◌, nat_lt, ℕ, ℤ, suc, ◌<◌, ◌≤◌, sym, ap, subst, ◌∙◌, filter, map, length, drop, replicate, IsTrue, arith, true, false, List, [], ◌∷◌, slice_get, Some, None, Ok, refl, int_eq}
use Rattle.sqlite_value.specs.declared.keys.Collation.TheVariants.{Binary}
use Rattle.sqlite_sql.specs.Term.{Term, col, lit, eval_all}
use Rattle.sqlite_ast.specs.declared.Binary.TheVariants as binary
use Rattle.sqlite_ast.specs.declared.Expr.{Expr}
use Rattle.sqlite_ast.specs.declared.Expr.TheOpen.{Expr-F}
use Rattle.sqlite_ast.specs.declared.Expr.TheViews.{out-roll-Expr, roll-Expr}
use Rattle.sqlite_schema.specs.declared.schema.Column.{Column}
use Rattle.sqlite_schema.specs.declared.schema.Kind.TheVariants.{Any}
use Rattle.sqlite_schema.specs.declared.schema.Schema.{Schema}
use Rattle.sqlite_schema.specs.declared.schema.Table.{Table}
use Rattle.sqlite_resolve.specs.Lowering.{begin, finish, spend, nothing, chosen, first_found, fresh, max_budget}
use Rattle.sqlite_resolve.specs.Compare.{affinity_of, of_column, converted, compared, may_be_text}
use Rattle.sqlite_resolve.specs.Expr.{lower, lower_to, node, opened, passes, operation, both, combine, wanted_truth, tests_truth, tests_alias}
use Rattle.sqlite_resolve.specs.Scope.{Name}
use Rattle.sqlite_resolve.specs.Terms.{equal}
use Rattle.sqlite_ast.specs.declared.Statement.TheVariants as written
use Rattle.sqlite_schema.specs.Names.{column_named}
use Rattle.sqlite_schema.specs.declared.command.Command.TheVariants.{Update}
use Rattle.sqlite_resolve.specs.Body.{tests}
use Rattle.sqlite_resolve.specs.Compile.{command, update}
use Rattle.sqlite_resolve.specs.Write.{assigned, row, picked, updated, updated_in}
use Rattle.sql_tables.specs.Tables.{IsDeclared, needed, numbered_table}
use Rattle.sql_tables.proofs.Declaring.{classes_are, low_tree, uncovered}
use Rattle.sql_tables.proofs.Meaning.{IsText, parse_of, update_is}
use Rattle.sql_tables.proofs.OneTable.{Parts, program_on, is_typed, program_is}
use Rattle.sql_tables.proofs.Running.{Means, Wrote, update_ran}
use Rattle.sqlite_ast.specs.declared.Statement.{Statement}
use Rattle.sqlite_value.specs.Order.{Row, column}
use Rattle.sqlite_trees.specs.Tree.{Trees, rowid, has_rowid}
use Rattle.sqlite_trees.specs.View.{is_int}
use Rattle.sqlite_rules.specs.Cast.{cast_row}
use Rattle.sqlite_rules.specs.Edit.{id_in}
use Rattle.sqlite_rules.proofs.ListLemmas.{all_has}
use Rattle.sqlite_rules.proofs.TableLemmas.{int_is, some_found}
use Rattle.sqlite_catalog.specs.Listing.{IsSound}
use Rattle.sqlite.specs.Rows.{Written, Updates}
use Rattle.sqlite.specs.State.{State, Executes}
use Rattle.sql_tables.specs.Rows.{HaveRowids, Lists, numbers_from, columns_at}
use Rattle.sql_tables.proofs.RowLists.{rowids_stay, same_number, shows_one}
use Rattle.sql_tables.proofs.PutLists.{sets_none, sets_one}
use Rattle.sql_tables.proofs.Numbered.{all_find, none_on}
use Rattle.sql_tables.proofs.Writing.{Spares, task, finds, updates_one, updates_none}
use Rattle.sql_tables.proofs.Columns.{clear, column_expr, over, lowers_to}
use Rattle.sqlite_value.specs.declared.value.Value.{Value}
use Rattle.sqlite_value.specs.declared.value.Value.TheVariants as value
use Rattle.sql_tables.proofs.ByRowid.{cast_stored, fits, stored}

abbrev pub sets_in : Statement → List (Name × Expr)
sets_in (written.Update name sets test shown) = sets
sets_in _ = []

-- WHERE compares the column with the first parameter
abbrev pub key_test : Name → Expr
key_test name = roll-Expr (Expr-F.Binary binary.Eq (column_expr name) (roll-Expr (Expr-F.Parameter 1)))

-- room for three more steps of resolving
abbrev pub AreRich : ℕ → Type 0
AreRich budget = (nat_lt 1 budget ≡ true) × (nat_lt 1 (budget - 1) ≡ true) × (nat_lt 1 (budget - 1 - 1) ≡ true)

module _ (schema : Schema) (at : ℕ) (table : Table) (there : slice_get schema.tables at ≡ Some table) (by_rowid : table.key ≡ Some 0) where
  lowers_test : (name : Name) (c : Column) (budget : ℕ) → AreRich budget → column_named table name ≡ Some 0 → slice_get table.columns 0 ≡ Some c
      → lower (over schema at table there table.name [] false) (key_test name) (clear budget nothing) ≡ Ok (equal Binary (col 1 0) (col 0 0), clear (budget - 1 - 1 - 1) nothing)
  unfolding lower_to node opened spend begin finish passes operation both combine wanted_truth tests_truth tests_alias compared affinity_of of_column converted may_be_text chosen first_found
  lowers_test name c budget rich named is =
      rw (rich.0, out-roll-Expr (Expr-F.Binary binary.Eq (column_expr name) (roll-Expr (Expr-F.Parameter 1))), lowers_to schema at table there table.name 698 name 0 c named is [] false (budget - 1) nothing rich.1, by_rowid, rich.2, out-roll-Expr)

-- the first column of a table
abbrev first_of_columns : List Column → Column
first_of_columns [] = needed [] Any
first_of_columns (c ∷ columns) = c

-- a column of the row that is made: the parameter for its place, counted from the first, or what it was
abbrev term_at : ℕ → List ℕ → ℕ → Term
term_at n [] at = col 1 at
term_at n (place ∷ places) at = if place == at then col 0 n else term_at (suc n) places at

module _ (name : Name) (columns : List Column) (text : List ℕ) (places : List ℕ) where
  abbrev pub parts_of : List Term → Parts
  parts_of project = record { tests = equal Binary (col 1 0) (col 0 0) ∷ []; project = project; order = [] }

  abbrev pub sets : List (Name × Expr)
  sets = sets_in (parse_of text).statement

  abbrev pub key_column : Column
  key_column = first_of_columns columns

  abbrev pub test : Expr
  test = key_test key_column.name

  abbrev pub terms : List Term
  terms = map (col 0) (numbers_from 1 places)

  -- the row that is made, behind the rowid: its own rowid, nothing in place of the key, and the other columns
  abbrev pub project : List Term
  project = col 1 0 ∷ col 1 0 ∷ lit value.Null ∷ map (term_at 1 places) (drop 2 (numbers_from 0 (replicate (suc (length columns)) 0)))

  -- what is left for resolving once each parameter is
  abbrev pub budget : ℕ
  budget = max_budget - length places

  -- The text sets the columns at these places of the row whose first column is the first parameter, to the further parameters in turn. Each
  -- field computes.
  pub record IsUpdate : Type 0 where
    pub rich : AreRich budget
    pub is_text : IsText text (written.Update name sets (Some test) [])
    pub assigned_is : (schema : Schema) (at tree : ℕ) (there : slice_get schema.tables at ≡ Some (numbered_table name columns tree))
        → assigned (over schema at (numbered_table name columns tree) there name [] false) (numbered_table name columns tree) sets (fresh 2 max_budget) ≡ Ok ((places, terms), clear budget nothing)
    pub row_is : (tree : ℕ) → row (numbered_table name columns tree) None places (col 1 0 ∷ []) terms ≡ Ok project
    pub named : (tree : ℕ) → column_named (numbered_table name columns tree) key_column.name ≡ Some 0
    pub first : slice_get columns 0 ≡ Some key_column
    pub typed : (tree : ℕ) → is_typed (numbered_table name columns tree) (parts_of project) [] ≡ true

  module _ (u : IsUpdate) (schema : Schema) (tree : ℕ) (d : IsDeclared schema (numbered_table name columns tree)) where
    abbrev table : Table
    table = numbered_table name columns tree

    pub update_means : tree < 65536 → Means schema text (Update d.at (program_on tree (parts_of project)))
    unfolding command update updated updated_in picked tests
    update_means low =
        let key = lowers_test schema d.at table d.there refl key_column.name key_column budget u.rich (u.named tree) u.first in
        let typed = program_is schema table (classes_are schema table d low) (parts_of project) (u.typed tree) in
        update_is schema text name sets (Some test) (Update d.at (program_on tree (parts_of project))) u.is_text
        (rw (d.named, d.there, u.assigned_is schema d.at tree d.there, u.row_is tree, key, typed))

-- ---- what it does to the rows of a table

number_of : (r : Row) (id : ℤ) → IsTrue (is_int (rowid r)) → has_rowid id r ≡ true → rowid r ≡ value.Int id
number_of r id integer has = let is = int_is (rowid r) integer in is ∙ ap value.Int (same_number r (id_in (rowid r)) id is has)

-- a row as its tree keeps it, of its columns
abbrev pub kept : Row → Row
kept s = column s 0 ∷ value.Null ∷ drop 1 s

-- what stands in a column of a row, counted from 0, once these values are at these places, counted from 1
abbrev value_at : Row → List ℕ → Row → ℕ → Value
value_at s [] values at = column s at
value_at s (place ∷ places) [] at = column s at
value_at s (place ∷ places) (v ∷ values) at = if place == suc at then v else value_at s places values at

module _ (name : List ℕ) (columns : List Column) (own : List ℕ) (text : List ℕ) (places : List ℕ) {X : Type 0} (row : X → Row) (key : X → ℤ) (values : Row) (id : ℤ) (set : X → X) where
  abbrev pub params : Row
  params = value.Int id ∷ values

  abbrev pub change : Row → Row
  change s = map (value_at s places values) (numbers_from 0 (replicate (length columns) 0))

  abbrev made_row : Row → Row
  made_row r = eval_all (project name columns text places) (params ∷ r ∷ [])

  -- The text, with the number and these values as its parameters, sets the columns at these places of the row with this rowid. Each field
  -- computes.
  pub record SetsByRowid : Type 0 where
    pub update : IsUpdate name columns text places
    pub made : (r : Row) → made_row r ≡ rowid r ∷ kept (change (columns_at own r))
    pub changes : (x : X) → row (set x) ≡ change (row x)
    pub same_key : (x : X) → key (set x) ≡ key x
    pub first : (x : X) → column (row x) 0 ≡ value.Int (key x)
    pub first_shown : (r : Row) → column (columns_at own r) 0 ≡ rowid r
    pub back : (x : X) → columns_at own (stored (key x) (row x)) ≡ row x
    pub suits : (x : X) → fits columns (drop 1 (stored (key x) (row x))) ≡ true

  module _ (u : SetsByRowid) (schema : Schema) (tree : ℕ) (d : IsDeclared schema (numbered_table name columns tree)) where
    abbrev its_table : Table
    its_table = numbered_table name columns tree

    -- what becomes of a row of the tree
    becomes : (x : X) (r : Row) → columns_at own r ≡ row x → rowid r ≡ value.Int id
        → (it : Row) × (cast_row its_table (drop 1 (made_row r)) ≡ it) × (rowid it ≡ value.Int id) × (columns_at own it ≡ change (columns_at own r))
    becomes x r is number =
        let y = set x in
        let it = stored (key y) (row y) in
        let changed : change (columns_at own r) ≡ row y = ap change is ∙ sym (u.changes x) in
        let head : value.Int (key x) ≡ value.Int id = sym (u.first x) ∙ sym (ap (λ (s : Row). column s 0) is) ∙ u.first_shown r ∙ number in
        let keyed : rowid it ≡ value.Int id = ap value.Int (u.same_key x) ∙ head in
        let same : kept (change (columns_at own r)) ≡ it = ap kept changed ∙ ap (λ v. v ∷ value.Null ∷ drop 1 (row y)) (u.first y) in
        (it, ap (λ (s : Row). cast_row its_table (drop 1 s)) (u.made r) ∙ ap (cast_row its_table) same ∙ cast_stored name columns tree (row y) (key y) (u.suits y), keyed, u.back y ∙ sym changed)

    abbrev parts : Parts
    parts = parts_of name columns text places (project name columns text places)

    -- the list with what is set, whether the row with the number is there or not
    abbrev IsListed : List X → Trees → Trees → Type 0
    IsListed xs old new = Lists row (columns_at own) (map (λ x. if int_eq (key x) id then set x else x) xs) (new tree) × HaveRowids (new tree) × Spares schema tree old new

    pub sets_by_rowid : (old new : State) (count : ℕ) (xs : List X) → old.now.schema ≡ schema → IsSound schema old.now.trees → HaveRowids (old.now.trees tree) → Lists row (columns_at own) xs (old.now.trees tree)
        → Executes text params old new (Ok count) → Wrote old new × IsListed xs old.now.trees new.now.trees
    sets_by_rowid old new count xs has sound ids lists h =
        let low = low_tree schema its_table d old.now.trees sound in
        let ran = update_ran schema d.at its_table d.there text params old new count has (program_on tree parts) (update_means name columns text places u.update schema tree d low) h in
        let same = all_find params 0 id refl (old.now.trees tree) ids.integers in
        (ran.0, go low (filter (has_rowid id) (old.now.trees tree)) refl (ids.once id) same ran.1)
      where
        go : tree < 65536 → (found : List Row) → filter (has_rowid id) (old.now.trees tree) ≡ found → length found ≤ 1 → filter (finds parts.tests params) (old.now.trees tree) ≡ filter (has_rowid id) (old.now.trees tree)
            → (w : Written) × Updates (task old.step_limit schema its_table params) (program_on tree parts) params old.now.trees (Ok w) × (new.now.trees ≡ w.trees) → IsListed xs old.now.trees new.now.trees
        go low (r ∷ s ∷ more) two few same done = absurd (omega (arith, few))
        go low [] none few same (w, did, trees) =
            let db = old.now.trees in
            let done = updates_none old.step_limit schema its_table params parts params db w (uncovered schema its_table d low db) (same ∙ none) did in
            let rows : new.now.trees tree ≡ db tree = ap (λ (t : Trees). t tree) trees ∙ done.0 in
            (rw rows (sets_none row (columns_at own) key u.first u.first_shown id set change u.changes xs (db tree) lists none), rw rows ids, subst (Spares schema tree db) (sym trees) done.1)
        go low (r ∷ []) only few same (w, did, trees) =
            let db = old.now.trees in
            let it = some_found id (db tree) r only in
            let number = number_of r id (all_has _ (db tree) r ids.integers it.0) it.1 in
            let x = shows_one row (columns_at own) xs (db tree) lists r it.0 in
            let next = becomes x.0 r x.1 number in
            let put = updates_one old.step_limit schema its_table params d.alone parts params db r next.0 id w (uncovered schema its_table d low db) (same ∙ only) only next.1
            (ap id_in (ap rowid (u.made r) ∙ number)) (next.2 ∙ sym number) (λ i has unique on. absurd (none_on schema its_table d refl i has unique on)) did in
            let rows = ap (λ (t : Trees). t tree) trees ∙ put.rows in (
              rw rows (sets_one row (columns_at own) key u.first u.first_shown id set change u.changes xs (db tree) r next.0 lists only it.1 next.3 next.2),
              rw rows (rowids_stay id next.0 next.2 (db tree) ids),
              subst (Spares schema tree db) (sym trees) put.others,
            )
