-- From a statement that ran to what it wrote.
use Rattle.std.proofs.Common.{◌≡◌, ℕ, false, List, [], ◌∷◌, Bool, true, Option, Some, None, Ok, refl, sym, ap, subst, ◌∙◌, length, slice_get, if◌then◌else◌, ◌/◌, MatchBool}
use Rattle.sqlite_value.specs.Order.{Row}
use Rattle.sqlite_trees.specs.Tree.{Trees}
use Rattle.sqlite_sql.specs.Term.{Term}
use Rattle.sqlite_schema.specs.declared.command.Command.{Command}
use Rattle.sqlite_schema.specs.declared.command.Command.TheVariants.{InsertOr, Insert, Update, CreateTable}
use Rattle.sqlite_schema.specs.declared.command.Conflict.TheVariants.{Abort}
use Rattle.sqlite_schema.specs.declared.command.Source.TheVariants.{Values}
use Rattle.sqlite_schema.specs.declared.program.Program.{Program}
use Rattle.sqlite_schema.specs.declared.schema.Schema.{Schema}
use Rattle.sqlite_schema.specs.declared.schema.Table.{Table}
use Rattle.sqlite_rules.specs.declared.error.Rowids.TheVariants.{Chosen}
use Rattle.sqlite_rules.specs.Cast.{cast_row}
use Rattle.sqlite_rules.specs.Edit.{with_rowid}
use Rattle.sqlite_resolve.specs.Compile.{table_defined_by, with_command}
use Rattle.sqlite_catalog.specs.Change.{created, next_tree, KeepsRows}
use Rattle.sqlite.specs.Does.{Tally, Does, MakesTable, OnRows, OnTable, WritesRows, lacks_sequence, sequence_text}
use Rattle.sqlite.specs.Effect.{Database, IsDatabase, SparesFrozen, value_rows}
use Rattle.sqlite.specs.Listing.{understood}
use Rattle.sqlite.specs.Rows.{Gives, Outcome, Written, stamped, Updates}
use Rattle.sqlite.specs.State.{State, mode_of, Runs, Writes, Executes, Shows}
use Rattle.sqlite.proofs.Callers.{IsPlain, command_of, statement_of, runs_as}
use Rattle.sqlite_tied.specs.Compute.{everything}
use Rattle.sql_tables.specs.Making.{first_created}
use Rattle.sql_tables.specs.Tables as tables
use Rattle.sql_tables.proofs.Meaning.{parse_of}
use Rattle.sql_tables.proofs.Writing.{Ends, IsAdded, task, inserts, adds, went, same_value}

-- what a statement that writes leaves, inside a transaction or outside of one
pub record Wrote (old new : State) : Type 0 where
  pub schema : new.now.schema ≡ old.now.schema
  pub sound : IsDatabase new.now
  pub shown : Shows old new new.now (if old.in_transaction then old.committed else new.now) old.in_transaction
  pub marks : new.marks ≡ old.marks

-- the text is this command, which shows no rows
abbrev pub Means : Schema → List ℕ → Command → Type 0
Means schema text command = understood schema text ≡ Ok (with_command (parse_of text) ([], (command, None)))

pub plain_if : (schema : Schema) (text : List ℕ) (command : Command) → Means schema text command → IsPlain (understood schema text)
plain_if schema text command means = subst IsPlain (sym means) (refl, refl)

module _ (schema : Schema) (at : ℕ) (table : Table) (there : slice_get schema.tables at ≡ Some table) (text : List ℕ) (params : Row) (old new : State) (count : ℕ) (has : old.now.schema ≡ schema) where
  -- what a command did that writes rows of the table
  ran : (command : Command) → Means schema text command
      → (Runs old new None command (statement_of text (understood schema text)) params count → Writes old new None command (statement_of text (understood schema text)) params count)
      → ((out : Outcome (Tally × Database)) → Does old.step_limit (mode_of old) params (record { schema = schema; trees = old.now.trees }) (statement_of text (understood schema text)) None command out
      → OnTable old.step_limit (mode_of old) params (record { schema = schema; trees = old.now.trees }) at (λ task. OnRows task (mode_of old) None command old.now.trees) out)
      → Executes text params old new (Ok count)
      → Wrote old new × ((w : Written) × WritesRows (task old.step_limit schema table params) old.now.trees command (Ok w) × (new.now.trees ≡ w.trees))
  ran command means writes on h =
      let w = writes (runs_as text params old new schema has command (ap command_of means) (plain_if schema text command means) count h) in
      let did = λ (s : Schema).
      Does old.step_limit (mode_of old) params (record old.now { schema = s }) (statement_of text (understood schema text)) None command (Ok (w.tally, new.now)) in
      let done = went (rw there at (on _ (subst did has w.changed))) in
      let now = ap (λ (it : Tally × Database). it.1) (same_value (went (went done.2).2).2) in (
        record { schema = ap (λ (d : Database). d.schema) now ∙ sym has; sound = w.sound; shown = w.shown; marks = w.marks },
        (done.0, done.1, ap (λ (d : Database). d.trees) now),
      )

  pub upsert_ran : (target : Option (List ℕ)) (q : Program) (terms : List Term) (width : ℕ) → Means schema text (InsertOr at Abort (Values terms width) (record { target = target; update = Some q } ∷ []))
      → (source row : Row) → table.is_counted ≡ false → value_rows (stamped table params) width (length terms / width) terms ≡ source ∷ [] → with_rowid Chosen (old.now.trees table.tree) (cast_row table source) ≡ row
      → Executes text params old new (Ok count) → Wrote old new × Ends old.step_limit schema table params target q row old.now.trees new.now.trees
  upsert_ran target q terms width means source row uncounted source_is made h =
      let did = ran (InsertOr at Abort (Values terms width) (record { target = target; update = Some q } ∷ [])) means (λ w. w) (λ out d. d) h in
      let ends = inserts old.step_limit schema table params target q (Values terms width) source row old.now.trees did.1.0 uncounted made (λ rows given. given.1 ∙ source_is) did.1.1 in
      (did.0, subst (Ends old.step_limit schema table params target q row old.now.trees) (sym did.1.2) ends)

  pub insert_ran : (terms : List Term) (width : ℕ) → Means schema text (Insert at (Values terms width)) → (source row : Row) → table.is_counted ≡ false
      → value_rows (stamped table params) width (length terms / width) terms ≡ source ∷ [] → with_rowid Chosen (old.now.trees table.tree) (cast_row table source) ≡ row
      → Executes text params old new (Ok count) → Wrote old new × IsAdded schema table row old.now.trees new.now.trees
  insert_ran terms width means source row uncounted source_is made h =
      let did = ran (Insert at (Values terms width)) means (λ w. w) (λ out d. d) h in
      let added = adds old.step_limit schema table params (Values terms width) source row old.now.trees did.1.0 uncounted made (λ rows given. given.1 ∙ source_is) did.1.1 in
      (did.0, subst (IsAdded schema table row old.now.trees) (sym did.1.2) added)

  pub update_ran : (q : Program) → Means schema text (Update at q) → Executes text params old new (Ok count)
      → Wrote old new × ((w : Written) × Updates (task old.step_limit schema table params) q params old.now.trees (Ok w) × (new.now.trees ≡ w.trees))
  update_ran q means = ran (Update at q) means (λ w. w) (λ out d. d)

counter_defined : table_defined_by sequence_text ≡ Ok (tables.counter 0)
unfolding everything
counter_defined = refl

-- the trees with a further table, which has no rows
pub record Grows (before : Schema) (old new : Trees) : Type 0 where
  pub empty : new (next_tree before) ≡ []
  pub others : KeepsRows before.tables old new

-- a text that makes this table made it, and then the counter where that was missing
pub record Created (before : Schema) (table : Table) (old new : State) : Type 0 where
  pub schema : new.now.schema ≡ first_created before table
  pub sound : IsDatabase new.now
  pub mid : Trees
  pub grows : Grows before old.now.trees mid
  pub counter : MatchBool (lacks_sequence before) (Grows (created before table) mid new.now.trees) (new.now.trees ≡ mid)
  pub frozen : SparesFrozen old.now new.now
  pub shown : Shows old new new.now (if old.in_transaction then old.committed else new.now) old.in_transaction

counter_ran : (before : Schema) (table : Table) (lacks : Bool) (mid after : Database) → mid.schema ≡ created before table → MatchBool lacks (MakesTable sequence_text mid (Ok after)) (Gives mid (Ok after))
    → (after.schema ≡ (if lacks then created (created before table) (tables.counter 0) else created before table)) × MatchBool lacks (Grows (created before table) mid.trees after.trees) (after.trees ≡ mid.trees)
counter_ran before table true mid after is made =
    let both : Ok made.table ≡ Ok (tables.counter 0) = sym made.defined ∙ counter_defined in
    let same : made.table ≡ tables.counter 0 = same_value both in (
      made.is ∙ ap (λ s. created s made.table) is ∙ ap (created (created before table)) same,
      record { empty = subst (λ s. after.trees (next_tree s) ≡ []) is made.empty; others = subst (λ (s : Schema). KeepsRows s.tables mid.trees after.trees) is made.others },
    )
counter_ran before table false mid after is made = let same : after ≡ mid = same_value made in (ap (λ (d : Database). d.schema) same ∙ is, ap (λ (d : Database). d.trees) same)

pub create_ran : (before : Schema) (table : Table) (text : List ℕ) (old new : State) (count : ℕ) → old.now.schema ≡ before → Means before text CreateTable → statement_of text (understood before text) ≡ text
    → table_defined_by text ≡ Ok table → lacks_sequence (created before table) ≡ lacks_sequence before → Executes text [] old new (Ok count) → Created before table old new
create_ran before table text old new count has means spelled defined lacks h =
    let w = subst (λ t. Writes old new None CreateTable t [] count) spelled (runs_as text [] old new before has CreateTable (ap command_of means) (plain_if before text CreateTable means) count h) in
    let all = went w.changed in
    let first = went all.1 in
    let made = first.1 in
    let both : Ok made.table ≡ Ok table = sym made.defined ∙ defined in
    let same : made.table ≡ table = same_value both in
    let schema : first.0.schema ≡ created before table = made.is ∙ ap (λ s. created s made.table) has ∙ ap (created before) same in
    let missing : lacks_sequence first.0.schema ≡ lacks_sequence before = ap lacks_sequence schema ∙ lacks in
    let counter = counter_ran before table (lacks_sequence before) first.0 all.0 schema (subst (λ b. MatchBool b (MakesTable sequence_text first.0 (Ok all.0)) (Gives first.0 (Ok all.0))) missing first.2) in
    let now : new.now ≡ all.0 = ap (λ (p : Tally × Database). p.1) (same_value all.2) in
    record {
      schema = ap (λ (d : Database). d.schema) now ∙ counter.0;
      sound = w.sound;
      mid = first.0.trees;
      grows = record {
        empty = subst (λ s. first.0.trees (next_tree s) ≡ []) has made.empty;
        others = subst (λ (s : Schema). KeepsRows s.tables old.now.trees first.0.trees) has made.others;
      };
      counter = subst (λ (d : Database). MatchBool (lacks_sequence before) (Grows (created before table) first.0.trees d.trees) (d.trees ≡ first.0.trees)) (sym now) counter.1;
      frozen = w.frozen;
      shown = w.shown;
    }
