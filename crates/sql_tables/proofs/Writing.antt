-- What INSERT .. ON CONFLICT DO UPDATE does to a table, in any schema in which the table has no rule but its key.
use Rattle.std.proofs.Common.{◌≡◌, ◌≢◌, ◌⊎◌, inl, inr, ℕ, ℤ, Bool, true, false, cond, List, [], ◌∷◌, ◌++◌, map, filter, drop, Some, None, Option, Ok, Err, Result, refl, sym, ap, subst, subst₂, ◌∙◌, IsTrue, IsPermutation, length, ◌≤◌, arith}
use Rattle.std.specs.List.{AllByRecursion, flat_map, list_any, list_all}
use Rattle.std.proofs.lemmas.Bool.{and_parts, cases_Bool, not-true}
use Rattle.std.proofs.lemmas.List.{length-map, nil_from_length}
use Rattle.std.proofs.lemmas.List.Sorted.{IsPermutation-map, length_permutation}
use Rattle.sqlite_value.specs.declared.value.Value.TheVariants.{Null, Int}
use Rattle.sqlite_value.specs.Order.{Row, column}
use Rattle.sqlite_trees.specs.Tree.{Trees, rowid, has_rowid, put_row, without_rowid}
use Rattle.sqlite_sql.specs.Term.{Term, Env, eval_all, holds}
use Rattle.sqlite_sql.specs.Query.{Output, IsAnswer, output}
use Rattle.sqlite.specs.Program.{overlay}
use Rattle.sqlite_schema.specs.declared.command.Conflict.TheVariants.{Abort}
use Rattle.sqlite_schema.specs.declared.command.Source.{Source}
use Rattle.sqlite_schema.specs.declared.command.Upsert.{Upsert}
use Rattle.sqlite_schema.specs.declared.program.Program.{Program}
use Rattle.sqlite_schema.specs.declared.schema.Index.{Index}
use Rattle.sqlite_schema.specs.declared.schema.Keys.TheVariants.{Enforced}
use Rattle.sqlite_schema.specs.declared.schema.Schema.{Schema}
use Rattle.sqlite_schema.specs.declared.schema.Table.{Table}
use Rattle.sqlite_rules.specs.declared.error.Rowids.TheVariants.{Chosen, Given}
use Rattle.sqlite_rules.specs.Action.{works, Writes}
use Rattle.sqlite_rules.specs.Calls.{ids_of}
use Rattle.sqlite_rules.specs.Cast.{cast_row}
use Rattle.sqlite_rules.specs.Edit.{Edit, edit_of, id_in, is_taken, are_fresh, row_at, taken_by, with_rowid, Applies, IsNoIndex}
use Rattle.sqlite_rules.specs.Keys.{AreConflicts, conflicts}
use Rattle.sqlite_rules.specs.Lists.{Has}
use Rattle.sqlite_rules.proofs.ActionLemmas.{no_works}
use Rattle.sqlite_rules.proofs.PlaceLemmas.{found_at}
use Rattle.sqlite_rules.proofs.TableLemmas.{none_to_drop, int_is, taken_is}
use Rattle.sqlite.specs.Rows.{Written, Task, Then, Gives, Edited, Counts, count_of, rowids_for, stamped, nothing, shown, Sourced, Puts, Updates, Clears, Upserts, Meets, Resolves, Tries, TriesEach, InsertsOr, Inserts}
use Rattle.sqlite.proofs.Callers.{one_permutation, one_step}
use Rattle.sqlite_trees.specs.View.{is_int}
use Rattle.sqlite_trees.proofs.ListLemmas.{map-map}
use Rattle.sql_tables.proofs.RowLists.{put_adds}
use Rattle.sql_tables.proofs.OneTable.{Parts, program_on, query_on}
use Rattle.sql_tables.proofs.Parents.{AreKept, updates_quietly}

pub same_value : {B E : Type 0} {a b : B} → ◌≡◌ {A = Result B E} (Ok a) (Ok b) → a ≡ b
same_value e = cc

-- a part that gave a value did not stop on the way
pub went : {B E R : Type 0} {b : B} {Stops : E → Type 0} → ((stop : E) × Stops stop × (Ok b ≡ Err stop)) ⊎ R → R
went (inl stopped) = absurd (let e = stopped.2 in cc)
went (inr on) = on

-- a write that sets off no action is its one step
pub settles : (schema : Schema) (db next : Trees) (edit : Edit) → ((mid : Trees) → Applies schema Enforced db edit mid → works schema Enforced 0 edit.table.tree (taken_by db edit) edit.news ≡ [])
    → Writes schema Enforced db edit (Ok next) → Applies schema Enforced db edit next
settles schema db next edit none (inl refused) = absurd (let e = refused.2 in cc)
settles schema db next edit none (inr (inl big)) = absurd (let e = big.3 in cc)
settles schema db next edit none (inr (inr ran)) = one_step schema Enforced db next edit (none ran.0 ran.1) (inr (inr ran))

-- each other table has its rows, and so has each tree that is no index
pub record Spares (schema : Schema) (tree : ℕ) (old new : Trees) : Type 0 where
  pub tables : AllByRecursion (λ t. t.tree ≢ tree → new t.tree ≡ old t.tree) schema.tables
  pub aside : (t : ℕ) → t ≢ tree → IsNoIndex schema t → new t ≡ old t

-- the table's rows are these, and each other table has its rows
pub record IsPut (schema : Schema) (table : Table) (row : Row) (id : ℤ) (old new : Trees) : Type 0 where
  pub rows : new table.tree ≡ put_row row (without_rowid id (old table.tree))
  pub others : Spares schema table.tree old new

-- the table has this row too, and each other table has its rows
pub record IsAdded (schema : Schema) (table : Table) (row : Row) (old new : Trees) : Type 0 where
  pub rows : IsPermutation (new table.tree) (row ∷ old table.tree)
  pub others : Spares schema table.tree old new

counts_nothing : (task : Task) (mid next : Trees) (counter : Option Row) (top : ℤ) → task.table.is_counted ≡ false → Counts task mid counter top (Ok next) → next ≡ mid
counts_nothing task mid next counter top uncounted h = same_value (rw uncounted at h)

chosen_rowids : (table : Table) (top : ℤ) → table.is_counted ≡ false → rowids_for table top ≡ Chosen
chosen_rowids table top uncounted = rw uncounted

matched : (p : Row → Bool) (f : Row → Env) (rows : List Row) → flat_map (λ r. cond (p r) (f r ∷ []) []) rows ≡ map f (filter p rows)
matched p f [] = refl
matched p f (r ∷ rows) = elim (cases_Bool (p r)) [ inl is ↦ rw (is, matched p f rows) | inr other ↦ rw (other, matched p f rows) ]

abbrev pub finds : List Term → Row → Row → Bool
finds tests given r = list_all (holds (given ∷ r ∷ [])) tests

-- the answer of a query: what it makes of each row that passes, in some order
pub all_answer : (tree : ℕ) (p : Parts) (db : Trees) (given : Row) (rows : List Row) → IsAnswer (query_on tree p) db given rows
    → IsPermutation (map (λ r. eval_all p.project (given ∷ r ∷ [])) (filter (finds p.tests given) (db tree))) rows
all_answer tree p db given rows a =
    let f = λ (x : Row). given ∷ x ∷ [] in
    let passing = filter (finds p.tests given) (db tree) in
    let staged : a.staged ≡ map f passing = a.grouped ∙ matched (finds p.tests given) f (db tree) in
    let kept : a.kept ≡ map (output (query_on tree p)) (map f passing) = a.distinct ∙ ap (map (output (query_on tree p))) staged in
    let first = λ (o : Output). o.1 in
    let made : map first a.kept ≡ map (λ r. eval_all p.project (given ∷ r ∷ [])) passing =
    ap (map first) kept ∙ map-map first (output (query_on tree p)) (map f passing) ∙ map-map (λ env. first (output (query_on tree p) env)) f passing in
    subst₂ IsPermutation made (sym a.shown) (IsPermutation-map first _ _ a.same)

same_few : {X : Type 0} (xs ys : List X) → length xs ≤ 1 → IsPermutation xs ys → xs ≡ ys
same_few [] ys few all = sym (nil_from_length ys (omega (arith, length_permutation [] ys all)))
same_few (x ∷ []) ys few all = sym (one_permutation x ys all)
same_few (x ∷ y ∷ more) ys few all = absurd (omega (arith, few))

module _ (limit : Option ℕ) (schema : Schema) (table : Table) (params : Row) where
  abbrev pub task : Task
  task = record { limit = limit; keys = Enforced; schema = schema; table = table; params = params }

  spared : (db : Trees) (edit : Edit) (next : Trees) → Applies schema Enforced db edit next → Spares schema edit.table.tree db next
  spared db edit next step = record { tables = step.tables; aside = step.others }

  -- what a step wrote that sets off no action
  applied : (db : Trees) (edit : Edit) (rows : List Row) (last : Option ℤ) (w : Written)
      → ((mid : Trees) → Applies schema Enforced db edit mid → works schema Enforced 0 edit.table.tree (taken_by db edit) edit.news ≡ [])
      → Then (Edited schema Enforced db edit) (λ next. Gives (record { trees = next; rows = rows; last = last })) (Ok w) → Applies schema Enforced db edit w.trees
  applied db edit rows last w quiet h =
      let gave = went h in
      subst (Applies schema Enforced db edit) (sym (ap (λ (x : Written). x.trees) (same_value gave.2))) (settles schema db gave.0 edit quiet gave.1)

  -- a row is put if no row has its rowid
  pub puts : (new : Row) → cast_row table new ≡ new → (id : ℤ) → rowid new ≡ Int id → (db : Trees) (w : Written) → Puts task new db (Ok w) → IsPut schema table new id db w.trees × (list_any (has_rowid id) (db table.tree) ≡ false)
  puts new cast id is db w h =
      let edit = edit_of db table [] Given 0 (new ∷ []) in
      let step = applied db edit _ _ w (λ mid did. no_works schema Enforced 0 table.tree edit.news) h in
      let put : w.trees table.tree ≡ put_row new (db table.tree) = step.rows ∙ ap (λ r. put_row r (db table.tree)) cast in
      let free : is_taken (db table.tree) new ≡ false = not-true _ (and_parts _ _ (subst (λ r. are_fresh (db table.tree) (r ∷ []) ≡ true) cast step.fresh)).0 in
      let none : list_any (has_rowid id) (db table.tree) ≡ false = rw is at free in
      (record { rows = put ∙ ap (put_row new) (sym (none_to_drop id (db table.tree) none)); others = spared db edit w.trees step }, none)

  -- an UPDATE writes these rows, each in place of the one with its rowid
  abbrev Rewrites : Trees → Written → List Row → Type 0
  Rewrites db w rows =
      let edit = edit_of db table (ids_of rows) Given 1 rows in
      Then (Edited schema Enforced db edit) (λ next. Gives (record { trees = next; rows = edit.news; last = None })) (Ok w)

  -- those that it makes of the rows that it finds, if there is at most one
  rewrites : (p : Parts) (given : Row) (db : Trees) (w : Written) (found : List Row)
      → overlay db [] table.tree ≡ db table.tree → filter (finds p.tests given) (db table.tree) ≡ found → length found ≤ 1
      → Updates task (program_on table.tree p) given db (Ok w) → Rewrites db w (map (λ r. eval_all p.project (given ∷ r ∷ [])) found)
  rewrites p given db w found plain is few h =
      let asked = went h in
      let make = λ (r : Row). eval_all p.project (given ∷ r ∷ []) in
      let there : filter (finds p.tests given) (overlay db [] table.tree) ≡ found = rw plain is in
      let all = subst (λ rows. IsPermutation (map make rows) asked.0) there (all_answer table.tree p (overlay db []) given asked.0 (asked.1.answer Null)) in
      subst (Rewrites db w) (sym (same_few (map make found) asked.0 (omega (arith, few, length-map found make)) all)) asked.2

  -- the one row that an UPDATE finds is replaced by one with the same keys
  pub updates_one : (alone : (other : Table) → Has schema.tables other → other.tree ≡ table.tree → other ≡ table) (p : Parts) (given : Row) (db : Trees) (r new : Row) (id : ℤ) (w : Written)
      → overlay db [] table.tree ≡ db table.tree → filter (finds p.tests given) (db table.tree) ≡ r ∷ [] → filter (has_rowid id) (db table.tree) ≡ r ∷ []
      → cast_row table (drop 1 (eval_all p.project (given ∷ r ∷ []))) ≡ new → id_in (rowid (eval_all p.project (given ∷ r ∷ []))) ≡ id
      → column new 0 ≡ column r 0 → ((i : Index) → Has schema.indexes i → i.is_unique ≡ true → i.table ≡ table.tree → AreKept r new i.columns)
      → Updates task (program_on table.tree p) given db (Ok w) → IsPut schema table new id db w.trees
  updates_one alone p given db r new id w plain only there made is same kept h =
      replaced (eval_all p.project (given ∷ r ∷ [])) made is (rewrites p given db w (r ∷ []) plain only (omega arith) h)
    where
      replaced : (row : Row) → cast_row table (drop 1 row) ≡ new → id_in (rowid row) ≡ id → Rewrites db w (row ∷ []) → IsPut schema table new id db w.trees
      replaced row made is h =
          let old : row_at (db table.tree) (id_in (rowid row)) ≡ r = ap (λ n. row_at (db table.tree) n) is ∙ sym (found_at (db table.tree) id r there) in
          let quiet = subst₂ (λ o n. works schema Enforced 0 table.tree (o ∷ []) (n ∷ []) ≡ []) (sym old) (sym made) in
          let edit = edit_of db table (ids_of (row ∷ [])) Given 1 (row ∷ []) in
          let step = applied db edit _ _ w (λ mid did. quiet (updates_quietly schema table alone r new same kept did.referred)) h in
          let put = ap (λ r. put_row r (without_rowid (id_in (rowid row)) (db table.tree))) made ∙ ap (λ n. put_row new (without_rowid n (db table.tree))) is in
          record { rows = step.rows ∙ put; others = spared db edit w.trees step }

  -- an UPDATE that finds no row changes none
  pub updates_none : (p : Parts) (given : Row) (db : Trees) (w : Written) → overlay db [] table.tree ≡ db table.tree → filter (finds p.tests given) (db table.tree) ≡ [] → Updates task (program_on table.tree p) given db (Ok w)
      → (w.trees table.tree ≡ db table.tree) × Spares schema table.tree db w.trees
  updates_none p given db w plain none h =
      let edit = edit_of db table [] Given 1 [] in
      let step = applied db edit _ _ w (λ mid did. no_works schema Enforced 0 table.tree []) (rewrites p given db w [] plain none (omega arith) h) in
      (step.rows, spared db edit w.trees step)

  -- either no row is in the way, and the new one is put, or one is, and it is updated
  abbrev pub Ends : Option (List ℕ) → Program → Row → Trees → Trees → Type 0
  Ends target q new db after =
      (((r : Row) → Has (db table.tree) r → conflicts target schema.indexes table new r ≡ true → ⊥) × (w : Written) × Puts task new db (Ok w) × (after ≡ w.trees))
      ⊎ ((r : Row) × Has (db table.tree) r × (conflicts target schema.indexes table new r ≡ true) × (w : Written) × Updates task q (params ++ rowid r ∷ shown table new) db (Ok w) × (after ≡ w.trees))

  module _ (target : Option (List ℕ)) (q : Program) where
    abbrev clause : Upsert
    clause = record { target = target; update = Some q }

    cleared : (new : Row) (db : Trees) (w : Written) (found : List Row) → Clears task Abort new db found (Ok w) → Puts task new db (Ok w)
    cleared new db w [] h = h
    cleared new db w (x ∷ more) h = h

    meets : (new : Row) (db : Trees) (w : Written) (found : List Row) → AreConflicts target schema.indexes table (db table.tree) new found → Meets task (Upserts task Abort new db []) new db clause found (Ok w) → Ends target q new db w.trees
    meets new db w [] are h = inl ((λ r has meets. are.complete r has meets), w, cleared new db w h.0 h.2, refl)
    meets new db w (there ∷ more) are h =
        let it = are.sound there (inl refl) in
        inr (it.0, it.1, it.2, w, subst (λ (x : Row). Resolves task new db x (Some q) (Ok w)) it.3 h, refl)

    tries : (new : Row) (db : Trees) (w : Written) → Tries task Abort (clause ∷ []) new db (Ok w) → Ends target q new db w.trees
    tries new db w (inl refused) = absurd (let e = refused.1 in cc)
    tries new db w (inr (Some why, bad, judged)) = absurd (let e = judged in cc)
    tries new db w (inr (None, fine, judged)) = meets new db w judged.0 judged.1 judged.2

    pub inserts : (from : Source) (source new : Row) (db : Trees) (w : Written) → table.is_counted ≡ false → with_rowid Chosen (db table.tree) (cast_row table source) ≡ new
        → ((rows : List Row) → Sourced limit (record { schema = schema; trees = db }) (stamped table params) from (Ok rows) → rows ≡ source ∷ [])
        → InsertsOr task Abort (clause ∷ []) from db (Ok w) → Ends target q new db w.trees
    inserts from source new db w uncounted made only h =
        let given = went h in
        let counter = went given.2 in
        let tried = went counter.2 in
        let counted = went tried.2 in
        let top = count_of counter.0 in
        let rows = subst (λ rows. TriesEach task Abort (clause ∷ []) rows top (nothing db) (Ok tried.0)) (only given.0 given.1) tried.1 in
        let one = went rows in
        let row : with_rowid (rowids_for table top) (db table.tree) (cast_row table source) ≡ new = rw (chosen_rowids table top uncounted) made in
        let end = tries new db one.0 (subst (λ r. Tries task Abort (clause ∷ []) r db (Ok one.0)) row one.1) in
        let next : counted.0 ≡ tried.0.0.trees = counts_nothing task tried.0.0.trees counted.0 counter.0 tried.0.1 uncounted counted.1 in
        let trees : w.trees ≡ one.0.trees = ap (λ (x : Written). x.trees) (same_value counted.2) ∙ next ∙ ap (λ (x : Written × ℤ). x.0.trees) (same_value one.2) in
        subst (Ends target q new db) (sym trees) end

  -- a row is added under a rowid that no other has
  pub adds : (from : Source) (source row : Row) (db : Trees) (w : Written) → table.is_counted ≡ false → with_rowid Chosen (db table.tree) (cast_row table source) ≡ row
      → ((rows : List Row) → Sourced limit (record { schema = schema; trees = db }) (stamped table params) from (Ok rows) → rows ≡ source ∷ [])
      → Inserts task from db (Ok w) → IsAdded schema table row db w.trees
  adds from source row db w uncounted made only h =
      let given = went h in
      let counter = went given.2 in
      let written = went counter.2 in
      let counted = went written.2 in
      let top = count_of counter.0 in
      let edit = edit_of db table [] Chosen 0 (source ∷ []) in
      let did = subst₂ (λ how rows. Edited schema Enforced db (edit_of db table [] how 0 rows) (Ok written.0)) (chosen_rowids table top uncounted) (only given.0 given.1) written.1 in
      let step = settles schema db written.0 edit (λ mid did. no_works schema Enforced 0 table.tree edit.news) did in
      let next : counted.0 ≡ written.0 = counts_nothing task written.0 counted.0 counter.0 _ uncounted counted.1 in
      let trees : w.trees ≡ written.0 = ap (λ (x : Written). x.trees) (same_value counted.2) ∙ next in
      let put : written.0 table.tree ≡ put_row row (db table.tree) = step.rows ∙ ap (λ r. put_row r (db table.tree)) made in
      let keyed : IsTrue (is_int (rowid row)) = subst (λ r. IsTrue (is_int (rowid r))) made ((and_parts _ _ step.keyed).0) in
      let fresh : is_taken (db table.tree) row ≡ false = subst (λ r. is_taken (db table.tree) r ≡ false) made (not-true _ (and_parts _ _ step.fresh).0) in
      let free : list_any (has_rowid (id_in (rowid row))) (db table.tree) ≡ false = sym (taken_is (db table.tree) row keyed) ∙ fresh in
      let added : IsPermutation (written.0 table.tree) (row ∷ db table.tree) = subst (λ rows. IsPermutation rows (row ∷ db table.tree)) (sym put) (put_adds (id_in (rowid row)) row (int_is (rowid row) keyed) (db table.tree) free) in
      subst (IsAdded schema table row db) (sym trees) (record { rows = added; others = spared db edit written.0 step })
