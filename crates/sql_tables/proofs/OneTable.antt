-- Queries on the rows of one table.
use Rattle.std.proofs.Common.{◌≡◌, ℕ, pos, negsuc, Bool, true, false, List, [], ◌∷◌, Some, None, Ok}
use Rattle.sqlite_value.specs.declared.value.Value.TheVariants.{Int}
use Rattle.sqlite_value.specs.declared.keys.Key.{Key}
use Rattle.sqlite_value.specs.Order.{Row}
use Rattle.sqlite_sql.specs.Term.{Term, lit}
use Rattle.sqlite_sql.specs.Query.{Query, inner, end}
use Rattle.sqlite_schema.specs.declared.schema.Schema.{Schema}
use Rattle.sqlite_schema.specs.declared.schema.Table.{Table}
use Rattle.sqlite_schema.specs.declared.program.Program.{Program}
use Rattle.sqlite_typing.specs.Types.{accepts_program, accepts_after, row_classes, table_classes}
use Rattle.sqlite_draft.specs.declared.query.Draft.{Draft}
use Rattle.sqlite_draft.specs.declared.join.Step.TheVariants.{Inner}
use Rattle.sqlite_draft.specs.Join.{chain}
use Rattle.sqlite_resolve.specs.Terms.{number}
use Rattle.sqlite_resolve.specs.Program.{program}

-- what a query on the rows of one tree tests, shows and sorts by
pub record Parts : Type 0 where
  pub tests : List Term
  pub project : List Term
  pub order : List (Term × Key)

abbrev pub draft_of : ℕ → Parts → Draft
draft_of tree p = record { from = chain (Inner tree ∷ []); filter = p.tests; group = None; project = p.project; distinct = false; collations = []; order = p.order; limit = lit (Int (negsuc 0)); offset = number 0 }

abbrev pub query_on : ℕ → Parts → Query
query_on tree p = record {
  from = inner tree end;
  filter = p.tests;
  group = None;
  project = p.project;
  distinct = false;
  collations = [];
  order = p.order;
  limit = lit (Int (negsuc 0));
  offset = lit (Int (pos 0));
}

abbrev pub program_on : ℕ → Parts → Program
program_on tree p = record { lets = []; body = query_on tree p }

-- the kinds of the table's columns let the query pass
abbrev pub is_typed : Table → Parts → Row → Bool
is_typed table p params = accepts_after params (query_on table.tree p) (Some (row_classes table ∷ []))

module _ (schema : Schema) (table : Table) (own : table_classes schema [] table.tree ≡ Some (row_classes table)) where
  pub typed_as : (p : Parts) (params : Row) → is_typed table p params ≡ true → accepts_program schema [] (query_on table.tree p) params ≡ true
  typed_as p params typed = rw (own, typed)

  pub program_is : (p : Parts) → is_typed table p [] ≡ true → program schema [] (draft_of table.tree p) ≡ Ok (program_on table.tree p)
  unfolding program
  program_is p typed = rw (typed_as p [] typed)
