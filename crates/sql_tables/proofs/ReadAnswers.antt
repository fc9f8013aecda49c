-- A text that reads a table whole has an answer, over any connection that is open.
use Rattle.std.proofs.lemmas.List.Sorted.{ranks_by}
use Rattle.std.proofs.Common.{◌≡◌, ℕ, ◌<◌, Bool, true, false, List, [], ◌∷◌, filter, map, length, None, IsTrue, refl, sym, ap, subst, subst₂, ◌∙◌, is_lt, IsPermutation, leb-true, arith}
use Rattle.sqlite_value.specs.declared.value.Value.{Value}
use Rattle.sqlite_value.specs.declared.value.Value.TheVariants.{Null}
use Rattle.sqlite_value.specs.Order.{Row}
use Rattle.sqlite_sql.specs.Program.{overlay}
use Rattle.sqlite_sql.specs.Query.{IsAnswerAs, Output, end, inner, matches, output, output_cmp}
use Rattle.sqlite_sql.proofs.QueryLemmas.{output_cmp_total}
use Rattle.sqlite_sql.specs.Term.{Term, eval_all}
use Rattle.sqlite_schema.specs.declared.command.Command.{Command}
use Rattle.sqlite_schema.specs.declared.command.Command.TheVariants.{Select as Select'}
use Rattle.sqlite_schema.specs.declared.schema.Schema.{Schema}
use Rattle.sqlite_schema.specs.declared.schema.Table.{Table}
use Rattle.sqlite_resolve.specs.declared.compiled.Compiled.{Compiled}
use Rattle.sqlite_resolve.specs.Compile.{with_command}
use Rattle.sqlite_resolve.specs.Scope.{Name}
use Rattle.sqlite_catalog.specs.Listing.{IsSound}
use Rattle.sqlite_trees.specs.Tree.{Trees}
use Rattle.sqlite_trees.proofs.ListLemmas.{all_of, filter_all}
use Rattle.sqlite_typing.specs.Types.{accepts_program}
use Rattle.sqlite.specs.declared.error.Error.{Error}
use Rattle.sqlite.specs.Effect.{Database, Reads, RefusesToRead}
use Rattle.sqlite.specs.Listing.{IsSourceOf, reads_listing, understood}
use Rattle.sqlite.specs.State.{IsStatement, Shown, State}
use Rattle.sqlite.proofs.StateLemmas.{unchanged}
use Rattle.sql_tables.specs.States.{HasAnswer}
use Rattle.sql_tables.specs.Tables.{IsDeclared}
use Rattle.sql_tables.proofs.Declaring.{classes_are, low_tree, uncovered}
use Rattle.sql_tables.proofs.Meaning.{parse_of}
use Rattle.sql_tables.proofs.OneTable.{Parts, program_on, query_on, typed_as}
use Rattle.sql_tables.proofs.Orders.{Rises, sorted, in_order}
use Rattle.sql_tables.proofs.Running.{Means}
use Rattle.sql_tables.proofs.Writing.{all_answer, finds}
use Rattle.sql_tables.proofs.WholeTables.{IsRead, heads, parts as parts_of, text_means}

-- ---- the answer of a query on one table

module _ (tree : ℕ) (p : Parts) where
  abbrev below : Output → Output → Bool
  below a b = is_lt (output_cmp (query_on tree p) a b)

  ordered : (outputs : List Output) → (all : List Output) × IsPermutation outputs all × Rises below all
  ordered = in_order below ((ranks_by (output_cmp_total (query_on tree p)) (λ o. o)).one_way)

  abbrev answer : Trees → List Row
  answer db = map (λ (o : Output). o.1) (ordered (map (output (query_on tree p)) (matches db p.tests (inner tree end) ([] ∷ [])))).0

  answers : (db : Trees) (lost : Value) → IsAnswerAs lost (query_on tree p) db [] (answer db)
  answers db lost =
      let staged = matches db p.tests (inner tree end) ([] ∷ []) in
      let kept = map (output (query_on tree p)) staged in
      let all = ordered kept in
      record { staged = staged; grouped = refl; kept = kept; distinct = refl; ordered = all.0; same = all.1; sorted = sorted below all.0 all.2; shown = refl }

-- ---- a text that reads a table whole

module _ (t : Table) (text : List ℕ) (shown sorted : List Name) (project terms : List Term) (u : IsRead t text shown sorted project terms) (schema : Schema) (d : IsDeclared schema t)
    (s : State) (has : s.now.schema ≡ schema) (sound : IsSound schema s.now.trees) where
  abbrev parts : Parts
  parts = parts_of project terms

  low : t.tree < 65536
  low = low_tree schema t d s.now.trees sound

  abbrev command : Command
  command = Select' (program_on t.tree parts) (heads t text shown sorted project terms u)

  means : Means schema text command × (reads_listing schema text ≡ false)
  means = text_means t text shown sorted project terms u schema d low

  abbrev meant : Compiled
  meant = with_command (parse_of text) ([], (command, None))

  is_one : IsStatement s text [] meant
  is_one = record { is = ap (λ (x : Schema). understood x text) has ∙ means.0; whole = leb-true _ _ u.whole; given = sym (ap length u.unnamed); now = 0 }

  unlisted : reads_listing s.now.schema text ≡ false
  unlisted = ap (λ (x : Schema). reads_listing x text) has ∙ means.1

  typed : accepts_program s.now.schema [] (query_on t.tree parts) [] ≡ true
  typed = ap (λ (x : Schema). accepts_program x [] (query_on t.tree parts) []) has ∙ typed_as schema t (classes_are schema t d low) parts [] u.typed

  unrefused : (db : Database) → IsSourceOf (reads_listing s.now.schema text) s.now db → (e : Error) → ¬ RefusesToRead None command db [] e
  unrefused db from e refused =
      let same : db ≡ s.now = subst (λ (b : Bool). IsSourceOf b s.now db) unlisted from in
      let here : RefusesToRead None command s.now [] e = subst (λ (x : Database). RefusesToRead None command x [] e) same refused in
      grind (arith, here, typed)

  pub can_answer : HasAnswer text s
  can_answer = record { compiled = meant; is = is_one; timeless = refl; unrefused = unrefused }

  -- what the query shows are the rows of the tree
  module _ (show : Row → Row) (shows : (r : Row) → eval_all project ([] ∷ r ∷ []) ≡ show r) where
    all_are : IsPermutation (map show (s.now.trees t.tree)) (answer t.tree parts (overlay s.now.trees []))
    all_are =
        let db = overlay s.now.trees [] in
        let all = all_answer t.tree parts db [] _ (answers t.tree parts db Null) in
        let each = filter_all (finds [] []) (db t.tree) (all_of (λ r. finds [] [] r ≡ true) (λ r. refl) (db t.tree)) in
        let rows : filter (finds [] []) (db t.tree) ≡ s.now.trees t.tree = each ∙ uncovered schema t d low s.now.trees in
        subst₂ (λ (there : List Row) made. IsPermutation (map made there) (answer t.tree parts db)) rows (λ i r. shows r i) all

    -- there is an answer, if the connection is open
    pub answered : IsTrue s.is_open → (rows : List Row) × Shown text [] s s rows × IsPermutation (map show (s.now.trees t.tree)) rows
    unfolding Shown
    answered is_open =
        let from : IsSourceOf (reads_listing s.now.schema text) s.now s.now = subst (λ (b : Bool). IsSourceOf b s.now s.now) (sym unlisted) refl in
        let reads : Reads command s.now [] (answer t.tree parts (overlay s.now.trees [])) = record { typed = typed; answer = answers t.tree parts (overlay s.now.trees []) } in
        (answer t.tree parts (overlay s.now.trees []), (meant, is_one, (s.now, from, reads, unchanged s is_open)), all_are)
