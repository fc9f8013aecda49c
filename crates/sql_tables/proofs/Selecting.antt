-- What SELECT of columns of one table in the order of some means, whatever else the schema has.
use Rattle.std.proofs.Common.{◌≡◌, ℕ, ◌+◌, ◌-◌, ◌<◌, ◌^◌, negsuc, true, false, nat_lt, List, [], ◌∷◌, length, map, slice_get, Option, Some, None, Ok, arith}
use Rattle.std.specs.List.{list_all}
use Rattle.sqlite_value.specs.declared.keys.Collation.{Collation}
use Rattle.sqlite_value.specs.declared.keys.Collation.TheVariants.{Binary}
use Rattle.sqlite_value.specs.Keys.{ascending}
use Rattle.sqlite_value.specs.declared.value.Value.TheVariants.{Int}
use Rattle.sqlite_sql.specs.Term.{lit}
use Rattle.sqlite_ast.specs.declared.Expr.TheViews.{out-roll-Core, out-roll-Select, out-roll-Source}
use Rattle.sqlite_ast.specs.declared.Source.{Source, out-Source, roll-Source}
use Rattle.sqlite_ast.specs.declared.Origin.TheVariants as origin
use Rattle.sqlite_ast.specs.declared.Core.{Core, out-Core, roll-Core}
use Rattle.sqlite_ast.specs.declared.Select.{Select, out-Select, roll-Select}
use Rattle.sqlite_ast.specs.declared.Statement.TheVariants as written
use Rattle.sqlite_schema.specs.declared.command.Command.TheVariants.{Select as Select'}
use Rattle.sqlite_schema.specs.declared.program.Program.{Program}
use Rattle.sqlite_schema.specs.declared.schema.Schema.{Schema}
use Rattle.sqlite_schema.specs.declared.schema.Table.{Table}
use Rattle.sqlite_schema.specs.Names.{table_named}
use Rattle.sqlite_draft.specs.declared.join.Step.TheVariants.{Inner}
use Rattle.sqlite_draft.specs.declared.query.Draft.{Draft}
use Rattle.sqlite_resolve.specs.declared.state.Carried.{Carried}
use Rattle.sqlite_resolve.specs.declared.scope.Level.{Level}
use Rattle.sqlite_resolve.specs.declared.scope.Output.{Output}
use Rattle.sqlite_resolve.specs.Lowering.{fresh, max_budget, nothing, take_slot}
use Rattle.sqlite_resolve.specs.Scope.{Name}
use Rattle.sqlite_resolve.specs.Body as body
use Rattle.sqlite_resolve.specs.Order as order
use Rattle.sqlite_resolve.specs.Select as sel
use Rattle.sqlite_resolve.specs.Terms.{number}
use Rattle.sqlite_resolve.specs.Program as program
use Rattle.sqlite_resolve.specs.Expr.{lower}
use Rattle.sqlite_resolve.specs.Compile.{command, read}
use Rattle.sql_tables.proofs.OneTable.{draft_of}
use Rattle.sql_tables.proofs.Columns.{clear, bound, is_shown, output_for, sorts_well, term_for, shown_column, sort_column, outputs_are, sorts_are}

-- ---- what is written

abbrev pub plain_source : Name → Source
plain_source name = roll-Source (record { is_left = false; origin = origin.Table name; alias = None; on = None; using = [] })

abbrev pub plain_core : Name → List Name → Core
plain_core name shown = roll-Core (record { distinct = false; shown = map shown_column shown; from = plain_source name ∷ []; filter = None; group = []; having = None })

-- SELECT of these columns of the table, in the order of those
abbrev pub plain_select : Name → List Name → List Name → Select
plain_select name shown sorted = roll-Select (record { with = []; first = plain_core name shown; others = []; order = map sort_column sorted; limit = None; offset = None })

-- ---- what it means

module _ (schema : Schema) (at : ℕ) (table : Table) (named : table_named schema table.name ≡ Some at) (there : slice_get schema.tables at ≡ Some table) (low : nat_lt table.tree (2 ^ 31) ≡ true)
    (shown : List Name) (all_shown : list_all (is_shown table) shown ≡ true) (sorted : List Name) (all_sort : list_all (sorts_well table (map (output_for table) shown)) sorted ≡ true)
    (few : length shown + length sorted + 1 < max_budget) where
  abbrev core : Core
  core = plain_core table.name shown

  abbrev outs : List Output
  outs = map (output_for table) shown

  abbrev level_of : List Output → Level
  level_of outs = record { tables = bound schema at table there table.name ∷ []; shown = outs }

  body_is : (later : Carried) × (body.body lower (sel.outermost schema) core (fresh 1 max_budget) ≡ Ok (record { level = level_of outs; steps = Inner table.tree ∷ []; filter = [] }, clear (max_budget - length shown) later))
  unfolding body.body body.result body.bounds body.bound body.table_in take_slot body.matching body.joins body.join body.inner_join body.shared body.tests
  body_is =
      let r = outputs_are schema at table there table.name low shown all_shown [] true max_budget nothing (omega arith) in
      (r.0, rw (out-roll-Core, out-roll-Source, named, r.1, there, out-roll-Source))

  abbrev pub draft : Draft
  draft = draft_of table.tree (record { tests = []; project = map (λ o. o.term) outs; order = map (λ t. (t, ascending Binary)) (map (term_for table) sorted) })

  abbrev result : Draft × List Name × List (Option Collation)
  result = (draft, map (λ o. o.name) outs, map (λ o. o.carried.collation) outs)

  named_is : sel.named schema core (map sort_column sorted) (lit (Int (negsuc 0)), number 0) ≡ Ok result
  unfolding sel.named sel.assembled sel.ungrouped sel.parts order.keys sel.having body.tests
  named_is =
      let r = body_is in
      let o = sorts_are schema at table there table.name outs sorted all_sort false (max_budget - length shown) r.0 (omega arith) in
      rw (r.1, out-roll-Core, o.1)

  query_as : (s : Select) (source : Source) → (out-Select s).with ≡ [] → (out-Select s).others ≡ [] → (out-Core (out-Select s).first).from ≡ source ∷ [] → (out-Source source).origin ≡ origin.Table table.name
      → sel.paging schema s ≡ Ok (lit (Int (negsuc 0)), number 0) → sel.named schema (out-Select s).first (out-Select s).order (lit (Int (negsuc 0)), number 0) ≡ Ok result → program.query schema s ≡ Ok (result, [])
  unfolding program.query program.query_to program.level program.with program.whole program.alone program.single program.sources program.source program.viewing
  query_as s source lone simple from by_name page is = rw (lone, page, simple, from, by_name, is)

  query_is : program.query schema (plain_select table.name shown sorted) ≡ Ok (result, [])
  unfolding sel.paging sel.constant_or
  query_is =
      query_as (plain_select table.name shown sorted) (plain_source table.name) (rw out-roll-Select) (rw out-roll-Select)
      (rw (out-roll-Select, out-roll-Core)) (rw out-roll-Source) (rw out-roll-Select) (rw out-roll-Select named_is)

  pub select_command : (formats : List (List ℕ)) (base : ℕ) (p : Program) → program.program schema [] draft ≡ Ok p → command schema formats base (written.Select (plain_select table.name shown sorted)) ≡ Ok (Select' p (map (λ o. o.name) outs))
  unfolding command read
  select_command formats base p typed = rw (query_is, typed)
