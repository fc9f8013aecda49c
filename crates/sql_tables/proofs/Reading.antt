-- What SELECT of a whole table in order shows, and what is read from its rows.
use Rattle.std.proofs.Common.{◌≡◌, ℕ, List, [], ◌∷◌, map, refl, sym, ap, subst, ◌∙◌, is_lt, IsPermutation, Bool, flat_map, IsSortedBy}
use Rattle.sqlite_value.specs.declared.keys.Key.{Key}
use Rattle.sqlite_value.specs.declared.keys.Collation.TheVariants.{Binary}
use Rattle.sqlite_value.specs.Keys.{ascending}
use Rattle.sqlite_value.specs.Order.{Row}
use Rattle.sqlite_trees.specs.Tree.{Trees}
use Rattle.sqlite_trees.proofs.ListLemmas.{pull_back, map-map}
use Rattle.sqlite_sql.specs.Term.{Term, eval_all}
use Rattle.sqlite_sql.specs.Query.{Query, Output, IsAnswer, output, output_cmp}
use Rattle.sql_tables.proofs.OneTable.{query_on}
use Rattle.sql_tables.proofs.Orders.{Rises, rises, rises_map, sorted}
use Rattle.std.proofs.lemmas.List.Sorted.{IsPermutation-map, IsPermutation-sym}
use Rattle.sql_tables.specs.Rows.{Lists}
use Rattle.sql_tables.proofs.RowLists.{all_undone}

module _ (tree : ℕ) (project terms : List Term) (show key : Row → Row) (shows : (r : Row) → eval_all project ([] ∷ r ∷ []) ≡ show r) (sorts : (r : Row) → eval_all terms ([] ∷ r ∷ []) ≡ key (show r)) where
  -- a row that is shown, with what it is sorted by
  abbrev shown_by : Row → Output
  shown_by s = (key s, s)

  abbrev query : Query
  query = query_on tree (record { tests = []; project = project; order = map (λ t. (t, ascending Binary)) terms })

  outputs : (rows : List Row) → map (output query) (flat_map (λ r. ([] ∷ r ∷ []) ∷ []) rows) ≡ map shown_by (map show rows)
  outputs [] = refl
  outputs (r ∷ rows) = rw (all_undone (λ t. (t, ascending Binary)) (λ (k : Term × Key). k.0) (λ t. refl) terms, sorts r, shows r, outputs rows)

  -- the rows of the tree, each once, in the order
  pub answer_is : (db : Trees) (rows : List Row) → IsAnswer query db [] rows
      → IsPermutation (map show (db tree)) rows × Rises (λ a b. is_lt (output_cmp query (shown_by a) (shown_by b))) rows
  answer_is db rows a =
      let staged : map (output query) a.staged ≡ map shown_by (map show (db tree)) = ap (map (output query)) a.grouped ∙ outputs (db tree) in
      let kept : IsPermutation (map shown_by (map show (db tree))) a.ordered = subst (λ k. IsPermutation k a.ordered) (a.distinct ∙ staged) a.same in
      let back = pull_back shown_by _ a.ordered kept (map show (db tree)) refl in
      let same : rows ≡ back.0 = a.shown ∙ ap (map (λ (o : Output). o.1)) back.2 ∙ all_undone shown_by (λ o. o.1) (λ r. refl) back.0 in
      let lt = λ (a b : Output). is_lt (output_cmp query a b) in
      let shown_lt = λ (a b : Row). lt (shown_by a) (shown_by b) in
      let up = (rises_map shown_by shown_lt lt (λ a b. refl) back.0).1 (subst (Rises lt) back.2 (rises lt a.ordered a.sorted)) in
      (subst (IsPermutation (map show (db tree))) (sym same) back.1, subst (Rises shown_lt) (sym same) up)

-- ---- from the rows that it shows to the values that are read from them

module _ {X : Type 0} (show given : Row → Row) (written : X → Row) (same : (r : Row) → given (show r) ≡ show r) (lt : Row → Row → Bool) (kept : (a b : Row) → lt a b ≡ lt (given a) (given b))
    (below : X → X → Bool) (means : (x y : X) → lt (written x) (written y) ≡ below x y) where
  given_again : (rows : List Row) → map given (map show rows) ≡ map show rows
  given_again rows = map-map given show rows ∙ (λ i. map (λ r. same r i) rows)

  -- what is read is what the tree has, in order
  pub parsed : (there rows : List Row) (xs : List X) → IsPermutation (map show there) rows → Rises lt rows → map given rows ≡ map written xs → Lists written show xs there × IsSortedBy below xs
  parsed there rows xs all up is =
      let moved : IsPermutation (map show there) (map written xs) = subst (IsPermutation (map show there)) is (subst (λ front. IsPermutation front (map given rows)) (given_again there) (IsPermutation-map given _ _ all)) in
      let in_order = (rises_map written below lt (λ x y. sym (means x y)) xs).1 (subst (Rises lt) is ((rises_map given lt lt kept rows).0 up)) in
      (IsPermutation-sym _ _ moved, sorted below xs in_order)
