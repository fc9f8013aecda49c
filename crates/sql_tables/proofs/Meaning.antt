-- What a text means is what its parse means, whatever the schema.
use Rattle.std.proofs.Common.{arith, ◌≡◌, ℕ, ◌+◌, List, [], ◌∷◌, Option, Some, None, Ok, Err, Result, refl, false, true, length, slice_get, is_some, ◌==◌, ◌||◌}
use Rattle.sqlite_ast.specs.declared.Statement.{Statement}
use Rattle.sqlite_ast.specs.declared.Statement.TheVariants.{Select, Insert, Update, CreateTable, Empty}
use Rattle.sqlite_ast.specs.declared.CreateTable as create
use Rattle.sqlite_resolve.specs.Define as define
use Rattle.sqlite_catalog.specs.Change.{is_used}
use Rattle.std.proofs.lemmas.Bool.{cond_both}
use Rattle.sqlite_catalog.proofs.StepLemmas.{no_index, no_table, no_view}
use Rattle.std.specs.Option.{option_or}
use Rattle.sqlite_ast.specs.declared.Expr.{Expr}
use Rattle.sqlite_ast.specs.declared.Select as select
use Rattle.sqlite_ast.specs.declared.Rows.{Rows}
use Rattle.sqlite_ast.specs.declared.Rows.TheVariants.{Defaults}
use Rattle.sqlite_ast.specs.declared.Upsert.{Upsert}
use Rattle.sqlite_ast.specs.declared.Conflict.TheVariants as conflict
use Rattle.sqlite_syntax.specs.declared.statement.Parsed.{Parsed}
use Rattle.sqlite_schema.specs.declared.schema.Schema.{Schema}
use Rattle.sqlite_schema.specs.declared.schema.Table.{Table}
use Rattle.sqlite_schema.specs.declared.command.Command.{Command}
use Rattle.sqlite_schema.specs.declared.command.Command.TheVariants.{InsertOr, Insert as Insert', CreateTable as MakeTable}
use Rattle.sqlite_schema.specs.declared.command.Source.{Source}
use Rattle.sqlite_schema.specs.declared.command.Conflict.TheVariants.{Abort}
use Rattle.sqlite_schema.specs.declared.command.Upsert as command_upsert
use Rattle.sqlite_schema.specs.Names.{index_named, table_named, view_named}
use Rattle.sqlite_resolve.specs.declared.compiled.Compiled.{Compiled}
use Rattle.sqlite_resolve.specs.declared.error.CompileError.{CompileError}
use Rattle.sqlite_resolve.specs.declared.error.CompileError.TheVariants.{Exists, Misuse, Unsupported}
use Rattle.sqlite_resolve.specs.Lowering.{and_then}
use Rattle.sqlite_resolve.specs.Compile.{compiled, first, planned, meaning, returning, command, small, timed, with_command, insert_or_abort, insert_or, insert, create_table, creates, is_attached, is_reserved, new_rows, shows}
use Rattle.sqlite_resolve.specs.Given.{upserts, upsert, update, do_update, key_meant}
use Rattle.sqlite_resolve.specs.Program.{program}
use Rattle.sqlite_draft.specs.declared.query.Draft.{Draft}
use Rattle.sqlite_schema.specs.declared.program.Program.{Program}
use Rattle.sqlite.specs.Listing.{misses_table, understood, reads_listing}

abbrev pub or_nothing : Result Parsed CompileError → Parsed
or_nothing (Ok p) = p
or_nothing (Err e) = record { statement = Empty; names = []; formats = []; start = 0; end = 0; tail = 0 }

-- the parse of a text
abbrev pub parse_of : List ℕ → Parsed
parse_of text = or_nothing (first text)

abbrev pub rows_in : Statement → Rows
rows_in (Insert how name columns rows clauses shown) = rows
rows_in _ = Defaults

abbrev pub no_clause : Upsert
no_clause = record { target = []; sets = []; filter = None }

abbrev pub clause_in : Statement → Upsert
clause_in (Insert how name columns rows (clause ∷ more) shown) = clause
clause_in _ = no_clause

-- The text is this statement, which doesn't read the time.
pub record IsText (text : List ℕ) (s : Statement) : Type 0 where
  pub parsed : first text ≡ Ok (parse_of text)
  pub statement : (parse_of text).statement ≡ s
  pub timeless : (parse_of text).formats ≡ []

-- where the parameters of a text end
abbrev pub base_of : List ℕ → ℕ
base_of text = small (parse_of text).names + small []

compiled_as : (schema : Schema) (sql : List ℕ) (p : Parsed) (s : Statement) (r : Result Command CompileError) → first sql ≡ Ok p → p.statement ≡ s → p.formats ≡ [] → timed schema [] s ≡ []
    → returning schema (small p.names + small []) s ≡ Ok None → command schema [] (small p.names + small []) s ≡ r → compiled schema sql ≡ and_then r (λ k. Ok (with_command p ([], (k, None))))
unfolding compiled planned meaning
compiled_as schema sql p s r parsed is timeless untimed bare means = rw (parsed, is, timeless, untimed, bare, means) (grind arith)

understood_as : (schema : Schema) (sql : List ℕ) (r : Result Compiled CompileError) → compiled schema sql ≡ r → misses_table r ≡ false → (understood schema sql ≡ r) × (reads_listing schema sql ≡ false)
unfolding understood
understood_as schema sql r is other = (rw (is, other), rw (is, other))

-- a statement that shows no rows and doesn't read the time
means_as : (schema : Schema) (text : List ℕ) (s : Statement) (k : Command) → IsText text s → timed schema [] s ≡ [] → returning schema (base_of text) s ≡ Ok None → command schema [] (base_of text) s ≡ Ok k
    → (understood schema text ≡ Ok (with_command (parse_of text) ([], (k, None)))) × (reads_listing schema text ≡ false)
means_as schema text s k t untimed bare means = understood_as schema text _ (compiled_as schema text (parse_of text) s (Ok k) t.parsed t.statement t.timeless untimed bare means) refl

-- a SELECT
pub select_is : (schema : Schema) (text : List ℕ) (s : select.Select) (k : Command) → IsText text (Select s) → command schema [] (base_of text) (Select s) ≡ Ok k
    → (understood schema text ≡ Ok (with_command (parse_of text) ([], (k, None)))) × (reads_listing schema text ≡ false)
unfolding returning timed
select_is schema text s k t means = means_as schema text (Select s) k t refl refl means

-- an UPDATE
pub update_is : (schema : Schema) (text name : List ℕ) (sets : List (List ℕ × Expr)) (test : Option Expr) (k : Command) → IsText text (Update name sets test [])
    → command schema [] (base_of text) (Update name sets test []) ≡ Ok k → understood schema text ≡ Ok (with_command (parse_of text) ([], (k, None)))
unfolding returning shows timed
update_is schema text name sets test k t means = (means_as schema text (Update name sets test []) k t refl refl means).0

-- if no table, index or view has the name, CREATE TABLE makes one
pub create_is : (schema : Schema) (text : List ℕ) (def : create.CreateTable) (table : Table) → IsText text (CreateTable def) → is_used schema def.name ≡ false → is_reserved def.name ≡ false
    → define.table [] def ≡ Ok table → (length table.computed == length table.stamps.places) ≡ true → def.resolves ≡ false → understood schema text ≡ Ok (with_command (parse_of text) ([], (MakeTable, None)))
unfolding command create_table creates is_attached returning timed
create_is schema text def table t free own defined plain unresolved =
    let none = no_table schema def.name free in
    (means_as schema text (CreateTable def) MakeTable t refl refl (rw (no_view schema def.name free, own, no_index schema def.name free, none, defined, plain, unresolved))).0

-- an error that isn't that of a missing table
abbrev pub Stops : {X : Type 0} → Result X CompileError → Type 0
Stops r = (e : CompileError) × (r ≡ Err e) × (misses_table (Err e) ≡ false)

not_new : (name : List ℕ) (same other : Option ℕ) → (is_some same || is_some other) ≡ true → Stops (creates false name same other)
unfolding creates
not_new name same other taken = cond_both (is_reserved name) _ _ Stops (λ own. (Misuse, refl, refl))
    (λ free. cond_both (is_some other) _ _ Stops (λ some. (Exists, refl, refl))
    (λ none. cond_both (is_some same) _ _ Stops (λ some. (Exists, refl, refl)) (λ neither. absurd (grind (arith, taken, neither, none)))))

either_named : (table index view : Option ℕ) → (is_some table || is_some index || is_some view) ≡ true → (is_some (option_or table view) || is_some index) ≡ true
either_named table index view taken = grind arith

-- if a table, an index or a view has the name, CREATE TABLE is refused
create_stops : (schema : Schema) (base : ℕ) (formats : List (List ℕ)) (def : create.CreateTable) → def.if_missing ≡ false → is_used schema def.name ≡ true → Stops (command schema formats base (CreateTable def))
unfolding command create_table
create_stops schema base formats def always used =
    let taken = either_named (table_named schema def.name) (index_named schema def.name) (view_named schema def.name) used in
    let stop = not_new def.name (option_or (table_named schema def.name) (view_named schema def.name)) (index_named schema def.name) taken in
    rw always (cond_both (is_attached schema def.name) _ _ Stops (λ attached. (Unsupported, refl, refl)) (λ plain. (stop.0, rw stop.1 refl, stop.2)))

pub create_fails : (schema : Schema) (text : List ℕ) (def : create.CreateTable) → IsText text (CreateTable def) → def.if_missing ≡ false → is_used schema def.name ≡ true → (e : CompileError) × (understood schema text ≡ Err e)
unfolding returning timed
create_fails schema text def t always used =
    let stop = create_stops schema (base_of text) [] def always used in
    (stop.0, (understood_as schema text (Err stop.0) (compiled_as schema text (parse_of text) (CreateTable def) (Err stop.0) t.parsed t.statement t.timeless refl refl stop.1) stop.2).0)

module _ (schema : Schema) (at : ℕ) (table : Table) (named : table_named schema table.name ≡ Some at) (there : slice_get schema.tables at ≡ Some table) (untimed : table.stamps.formats ≡ []) where
  -- an upsert into a table of the schema
  pub upsert_is : (text : List ℕ) (rows : Rows) (clauses : List Upsert) (base : ℕ) (source : Source) (found : List command_upsert.Upsert)
      → IsText text (Insert conflict.Abort table.name [] rows clauses []) → base_of text ≡ base → (length clauses == 0) ≡ false
      → new_rows schema table base [] rows ≡ Ok source → upserts schema at table base clauses ≡ Ok found
      → understood schema text ≡ Ok (with_command (parse_of text) ([], (InsertOr at Abort source found, None)))
  unfolding command insert_or_abort insert_or returning shows timed
  upsert_is text rows clauses base source found t many some given met =
      let s = Insert conflict.Abort table.name [] rows clauses [] in
      (means_as schema text s (InsertOr at Abort source found) t (rw (named, there, untimed)) refl (rw (many, some, named, there, given, met))).0

  -- an insert into a table of the schema
  pub insert_is : (text : List ℕ) (rows : Rows) (source : Source) → IsText text (Insert conflict.Abort table.name [] rows [] []) → ((base : ℕ) → new_rows schema table base [] rows ≡ Ok source)
      → understood schema text ≡ Ok (with_command (parse_of text) ([], (Insert' at source, None)))
  unfolding command insert_or_abort insert returning shows timed
  insert_is text rows source t given =
      let s = Insert conflict.Abort table.name [] rows [] [] in
      (means_as schema text s (Insert' at source) t (rw (named, there, untimed)) refl (rw (named, there, given (base_of text)))).0

-- what one ON CONFLICT means
pub one_upsert : (schema : Schema) (at : ℕ) (table : Table) (base : ℕ) (u : Upsert) (key : Option (List ℕ)) (draft : Draft) (p : Program) → (length u.target == 0) ≡ false → (length u.sets == 0) ≡ false
    → key_meant schema table u.target ≡ Ok key → do_update schema at table base u ≡ Ok draft → program schema [] draft ≡ Ok p
    → upserts schema at table base (u ∷ []) ≡ Ok (record { target = key; update = Some p } ∷ [])
unfolding upserts upsert update
one_upsert schema at table base u key draft p aimed sets means drafted typed = rw (aimed, means, sets, drafted, typed)
