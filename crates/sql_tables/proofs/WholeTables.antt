-- The texts that read a table whole, whatever else the schema has.
use Rattle.std.proofs.Common.{◌≡◌, ℕ, ◌+◌, ◌<◌, nat_le, nat_lt, true, false, is_lt, List, [], ◌∷◌, length, map, ap, subst, IsPermutation, ◌∙◌, ltb-true}
use Rattle.std.specs.List.{list_all}
use Rattle.sqlite_value.specs.declared.keys.Collation.TheVariants.{Binary}
use Rattle.sqlite_value.specs.declared.value.Value.TheVariants.{Null}
use Rattle.sqlite_value.specs.Keys.{ascending}
use Rattle.sqlite_value.specs.Order.{Row}
use Rattle.sqlite_ast.specs.declared.Statement.TheVariants.{Select}
use Rattle.sqlite_sql.specs.Program.{overlay}
use Rattle.sqlite_sql.specs.Query.{output_cmp}
use Rattle.sqlite_sql.specs.Term.{Term, eval_all}
use Rattle.sqlite_schema.specs.declared.command.Command.TheVariants.{Select as Select'}
use Rattle.sqlite_schema.specs.declared.schema.Schema.{Schema}
use Rattle.sqlite_schema.specs.declared.schema.Table.{Table}
use Rattle.sqlite_resolve.specs.declared.scope.Output.{Output}
use Rattle.sqlite_resolve.specs.Compile.{first}
use Rattle.sqlite_resolve.specs.Lowering.{max_budget}
use Rattle.sqlite_resolve.specs.Scope.{Name}
use Rattle.sqlite_catalog.specs.Listing.{IsSound}
use Rattle.sqlite.specs.Listing.{reads_listing}
use Rattle.sqlite.specs.State.{State, Shown}
use Rattle.sqlite.proofs.Callers.{command_of, reads_as}
use Rattle.sql_tables.specs.Tables.{IsDeclared}
use Rattle.sql_tables.proofs.Columns.{is_shown, output_for, sorts_well, term_for}
use Rattle.sql_tables.proofs.Declaring.{classes_are, low_tree, under, uncovered}
use Rattle.sql_tables.proofs.Meaning.{IsText, base_of, parse_of, select_is}
use Rattle.sql_tables.proofs.OneTable.{Parts, program_on, program_is, query_on, is_typed}
use Rattle.sql_tables.proofs.Orders.{Rises}
use Rattle.sql_tables.proofs.Quiet.{reads, selects}
use Rattle.sql_tables.proofs.Reading.{answer_is}
use Rattle.sql_tables.proofs.Running.{Means, plain_if}
use Rattle.sql_tables.proofs.Selecting.{plain_select, select_command}

-- what it shows and sorts by
abbrev pub parts : List Term → List Term → Parts
parts project terms = record { tests = []; project = project; order = map (λ t. (t, ascending Binary)) terms }

-- The text shows the columns of the table with these names, which are these terms, in the order of those. Each field computes.
pub record IsRead (t : Table) (text : List ℕ) (shown sorted : List Name) (project terms : List Term) : Type 0 where
  pub is_text : IsText text (Select (plain_select t.name shown sorted))
  pub columns_are : list_all (is_shown t) shown ≡ true
  pub keys_are : list_all (sorts_well t (map (output_for t) shown)) sorted ≡ true
  pub few : nat_lt (length shown + length sorted + 1) max_budget ≡ true
  pub projects : map (λ (o : Output). o.term) (map (output_for t) shown) ≡ project
  pub orders : map (term_for t) sorted ≡ terms
  pub typed : is_typed t (parts project terms) [] ≡ true
  pub whole : nat_le (length text) (parse_of text).tail ≡ true
  pub unnamed : (parse_of text).names ≡ []

module _ (t : Table) (text : List ℕ) (shown sorted : List Name) (project terms : List Term) (u : IsRead t text shown sorted project terms) where
  pub reads_only : reads (first text) ≡ true
  reads_only = ap reads u.is_text.parsed ∙ ap selects u.is_text.statement

  abbrev pub heads : List Name
  heads = map (λ (o : Output). o.name) (map (output_for t) shown)

  module _ (schema : Schema) (d : IsDeclared schema t) where
    pub text_means : t.tree < 65536 → Means schema text (Select' (program_on t.tree (parts project terms)) heads) × (reads_listing schema text ≡ false)
    text_means low =
        let typed = program_is schema t (classes_are schema t d low) (parts project terms) u.typed in
        select_is schema text (plain_select t.name shown sorted) _ u.is_text
        (select_command schema d.at t d.named d.there (under schema t d low) shown u.columns_are sorted u.keys_are (ltb-true _ _ u.few) [] (base_of text) (program_on t.tree (parts project terms)) (rw (u.projects, u.orders) typed))

    -- the rows of the tree, each once, in the order
    pub rows_are : (old new : State) → old.now.schema ≡ schema → IsSound schema old.now.trees
        → (show sort_key : Row → Row) → ((r : Row) → eval_all project ([] ∷ r ∷ []) ≡ show r) → ((r : Row) → eval_all terms ([] ∷ r ∷ []) ≡ sort_key (show r))
        → (rows : List Row) → Shown text [] old new rows
        → IsPermutation (map show (old.now.trees t.tree)) rows × Rises (λ a b. is_lt (output_cmp (query_on t.tree (parts project terms)) (sort_key a, a) (sort_key b, b))) rows
    rows_are old new has sound show sort_key shows sorts rows h =
        let low = low_tree schema t d old.now.trees sound in
        let means = text_means low in
        let command = Select' (program_on t.tree (parts project terms)) heads in
        let got = reads_as text [] old new schema has command (ap command_of means.0) (plain_if schema text command means.0) means.1 rows h in
        let found = answer_is t.tree project terms show sort_key shows sorts (overlay old.now.trees []) rows (got.answer Null) in
        (subst (λ there. IsPermutation (map show there) rows) (uncovered schema t d low old.now.trees) found.0, found.1)
