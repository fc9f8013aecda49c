-- A statement within a transaction fails for a cause of the store that the connection shows, or for one that is no failure of the store.
use Rattle.std.proofs.Common.{◌≡◌, ◌≢◌, inl, inr, ℕ, ℤ, Bool, true, false, List, [], ◌∷◌, Option, Some, None, slice_get, Ok, Err, MatchBool, refl, sym, ap, ◌∙◌, true≢false, ◌⊎◌, Result, option_to_list, arith}
use Rattle.sqlite_value.specs.Order.{Row}
use Rattle.sqlite_trees.specs.Tree.{Trees}
use Rattle.sqlite_trees.specs.declared.error.StoreError.{StoreError}
use Rattle.sqlite_trees.specs.declared.error.StoreError.TheVariants.{OutOfMemory, Unstorable}
use Rattle.sqlite_schema.specs.declared.schema.Among.{Among}
use Rattle.sqlite_schema.specs.declared.schema.Schema.{Schema}
use Rattle.sqlite_schema.specs.declared.schema.Table.{Table}
use Rattle.sqlite_schema.specs.declared.command.Command.{Command}
use Rattle.sqlite_schema.specs.declared.command.Command.TheVariants.{Insert, InsertOr, Update, Delete, CreateTable, CreateIndex, DropTable, DropIndex, CreateView, DropView}
use Rattle.sqlite_schema.specs.declared.command.Conflict.{Conflict}
use Rattle.sqlite_schema.specs.declared.command.Conflict.TheVariants.{Abort, Ignore, Replace}
use Rattle.sqlite_schema.specs.declared.command.Returning.{Returning}
use Rattle.sqlite_schema.specs.declared.command.Source.{Source}
use Rattle.sqlite_schema.specs.declared.command.Upsert.{Upsert}
use Rattle.sqlite_schema.specs.declared.program.Program.{Program}
use Rattle.sqlite_rules.specs.declared.error.Refusal.{Refusal}
use Rattle.sqlite_rules.specs.Cast.{cast_row}
use Rattle.sqlite_rules.specs.Calls.{ids_of}
use Rattle.sqlite_rules.specs.Edit.{Edit, edit_of, with_rowid}
use Rattle.sqlite_rules.specs.declared.error.Rowids.TheVariants.{Given}
use Rattle.sqlite_schema.specs.Rules.{Refers}
use Rattle.sqlite_catalog.specs.declared.error.Refusal as alter
use Rattle.sqlite.specs.declared.error.ErrorCode.TheVariants as code
use Rattle.sqlite.specs.declared.error.Error.{Error}
use Rattle.sqlite.specs.declared.error.Error.TheVariants.{SqliteFailure, InvalidQuery, ExecuteReturnedResults}
use Rattle.sqlite.specs.declared.run.Mode.{Mode}
use Rattle.sqlite.specs.Does.{AtPlace, Concludes, Counted, Defines, Does, Drops, Empties, HoldWithout, Leaves, MakesIndex, MakesTable, MakesView, OnRows, OnTable, Redefines, Returns, Shows, Tally, Tested, Uncounts, UncountsIn, WritesRows}
use Rattle.sqlite.specs.Effect.{Database, IsNoText, RefusesToAlter, edit_error}
use Rattle.sqlite.specs.Rows.{Clears, Counter, CounterIn, Counts, CountsIn, Edited, Gives, Inserts, InsertsOr, Judged, Meets, Outcome, Part, Puts, Queried, Refuses, Resolves, Sourced, Task, Then, Tries, TriesEach, Updates, Upserts, Written, mended, rowids_for, counting}
use Rattle.sqlite.specs.State.{store_error, State, ExecutesIn, ExecutesInside, Fails, HasCause, IsNoStatement, IsNotRun, IsUnchanged, RunsCommand, mode_of, shows_rows, text_of}
use Rattle.std.specs.Prelude.{⊤}
use Rattle.sqlite_resolve.specs.declared.compiled.Compiled.{Compiled}
use Rattle.sqlite.specs.Clock.{timed}

-- ---- errors

abbrev of_store : Error → Bool
of_store (SqliteFailure code.OutOfMemory) = true
of_store (SqliteFailure code.SystemIoFailure) = true
of_store (SqliteFailure code.DatabaseCorrupt) = true
of_store (SqliteFailure code.DiskFull) = true
of_store (SqliteFailure code.Closed) = true
of_store (SqliteFailure code.TooBig) = true
of_store _ = false

-- an error that is no failure of the store
abbrev pub IsPlain : Error → Type 0
IsPlain e = of_store e ≡ false

of_its_own : (cause : StoreError) → of_store (store_error cause) ≡ true
of_its_own cause = grind arith

pub not_of_store : (e : Error) (cause : StoreError) → IsPlain e → e ≢ store_error cause
not_of_store e cause plain same = true≢false (sym (ap of_store same ∙ of_its_own cause) ∙ plain)

-- ---- parts of a statement

-- its refusals are plain
pub record IsPlainPart {A : Type 0} (P : Part A) : Type 0 where
  pub plain : (e : Error) → P (Err (Some e)) → IsPlain e

gives : {A : Type 0} (a : A) → IsPlainPart (Gives a)
gives {A} a = record { plain = λ e h. absurd (let same : ◌≡◌ {A = Outcome A} (Err (Some e)) (Ok a) = h in cc) }

refuses : {A : Type 0} (d : Error) → IsPlain d → IsPlainPart {A = A} (Refuses d)
refuses d plain = record { plain = λ e h. grind (arith, h, plain) }

then : {A B : Type 0} (First : Part A) (Next : A → Part B) → IsPlainPart First → ((a : A) → IsPlainPart (Next a)) → IsPlainPart (Then First Next)
then {A} First Next first next = record { plain = λ e h. grind (arith, h, first.plain, λ (a : A). (next a).plain) }

either : {A : Type 0} (P Q : Part A) (b : Bool) → IsPlainPart P → IsPlainPart Q → IsPlainPart (λ out. MatchBool b (P out) (Q out))
either P Q true p q = record { plain = λ e h. p.plain e h }
either P Q false p q = record { plain = λ e h. q.plain e h }

perhaps : {X A : Type 0} (P : Option X → Part A) (o : Option X) → IsPlainPart (P None) → ((x : X) → IsPlainPart (P (Some x))) → IsPlainPart (P o)
perhaps P None none some = none
perhaps P (Some x) none some = some x

-- ---- what is asked

queried : (limit : Option ℕ) (db : Database) (p : Program) (params : Row) → IsPlainPart (Queried limit db p params)
queried limit db p params = record { plain = λ e h. grind (arith, h) }

sourced : (limit : Option ℕ) (db : Database) (params : Row) (from : Source) → IsPlainPart (Sourced limit db params from)
sourced limit db params from = record { plain = λ e h. grind (arith, h) }

edited : (schema : Schema) (keys : _) (db : Trees) (edit : Edit) → IsPlainPart (Edited schema keys db edit)
edited schema keys db edit = record { plain = λ e h. grind (arith, h.2) }

tested : (mode : Mode) (Holds : Among → Type 0) → IsPlainPart (Tested mode Holds)
tested mode Holds = record { plain = λ e h. grind (arith, h.1) }

counted : (limit : Option ℕ) (rows : List Row) → IsPlainPart (Counted limit rows)
counted limit rows = record { plain = λ e h. grind (arith, h.1) }

-- a text that makes a table, an index or a view
makes : (text : List ℕ) (Why : alter.Refusal → Type 0) (Makes : Part Database)
    → ((e : Error) → Makes (Err (Some e)) → IsNoText text e ⊎ RefusesToAlter Why e) → IsPlainPart Makes
makes text Why Makes because = record { plain = λ e h. grind (arith, because e h) }

makes_table : (text : List ℕ) (db : Database) → IsPlainPart (MakesTable text db)
makes_table text db = makes text _ _ (λ e h. h)

leaves : (schema : Schema) (db : Trees) (Refused : Error → Type 0) → ((e : Error) → Refused e → IsPlain e) → IsPlainPart (Leaves schema db Refused)
leaves schema db Refused plain = record { plain = λ e h. plain e h }

defines : (mode : Mode) (Makes : Part Database) → IsPlainPart Makes → IsPlainPart (Defines mode Makes)
defines mode Makes makes = then _ _ makes (λ after. gives _)

at_place : {X A : Type 0} (P : X → Part A) (place : Option X) → ((x : X) → IsPlainPart (P x)) → IsPlainPart (AtPlace P place)
at_place P place = perhaps (AtPlace P) place (refuses InvalidQuery refl)

-- ---- rows

module _ (task : Task) where
  counter : (db : Trees) → IsPlainPart (Counter task db)
  counter db = either _ _ _ (perhaps (CounterIn task db) _ (refuses InvalidQuery refl) (λ counters. gives _)) (gives _)

  counts : (db : Trees) (row : Option Row) (top : ℤ) → IsPlainPart (Counts task db row top)
  counts db row top =
      let counted = λ (counters : Table). edited task.schema task.keys db (counting db task.table counters top row) in
      either _ _ _ (perhaps (CountsIn task db row top) _ (refuses InvalidQuery refl) counted) (gives _)

  updates : (q : Program) (given : Row) (db : Trees) → IsPlainPart (Updates task q given db)
  updates q given db = then _ _ (queried _ _ _ _) (λ rows. then _ _ (edited _ _ _ _) (λ next. gives _))

  inserts : (from : Source) (db : Trees) → IsPlainPart (Inserts task from db)
  inserts from db = then _ _ (sourced _ _ _ _) (λ rows. then _ _ (counter db) (λ row. then _ _ (edited _ _ _ _) (λ mid. then _ _ (counts mid row _) (λ next. gives _))))

  puts : (new : Row) (db : Trees) → IsPlainPart (Puts task new db)
  puts new db = then _ _ (edited _ _ _ _) (λ next. gives _)

  clears : (way : Conflict) (new : Row) (db : Trees) (found : List Row) → IsPlainPart (Clears task way new db found)
  clears Ignore new db (x ∷ more) = gives _
  clears Replace new db (x ∷ more) = then _ _ (edited _ _ _ _) (puts new)
  clears Abort new db (x ∷ more) = puts new db
  clears way new db [] = puts new db

  meets : (Otherwise : Part Written) (new : Row) (db : Trees) (clause : Upsert) (found : List Row) → IsPlainPart Otherwise → IsPlainPart (Meets task Otherwise new db clause found)
  meets Otherwise new db clause [] plain = plain
  meets Otherwise new db clause (there ∷ more) plain = perhaps (Resolves task new db there) clause.update (gives _) (λ q. updates q _ db)

  upserts : (way : Conflict) (new : Row) (db : Trees) (clauses : List Upsert) → IsPlainPart (Upserts task way new db clauses)
  upserts way new db [] = record { plain = λ e h. (clears way new db h.0).plain e h.2 }
  upserts way new db (clause ∷ more) = record { plain = λ e h. (meets _ new db clause h.0 (upserts way new db more)).plain e h.2 }

  tries : (way : Conflict) (clauses : List Upsert) (new : Row) (db : Trees) → IsPlainPart (Tries task way clauses new db)
  tries way clauses new db =
      let refused = λ (r : Refusal). either _ _ _ (gives _) (refuses (edit_error r) (grind arith)) in
      let judged = λ (verdict : Option Refusal). perhaps (Judged task way clauses new db) verdict (upserts way new db clauses) refused in
      record { plain = λ e h. grind (arith, h, λ (verdict : Option Refusal). (judged verdict).plain e) }

  tries_each : (way : Conflict) (clauses : List Upsert) (rows : List Row) (top : ℤ) (done : Written) → IsPlainPart (TriesEach task way clauses rows top done)
  tries_each way clauses [] top done = gives _
  tries_each way clauses (source ∷ more) top done =
      then _ _ (tries way clauses (with_rowid (rowids_for task.table top) (done.trees task.table.tree) (cast_row task.table (mended way task.table source))) done.trees)
      (λ one. tries_each way clauses more _ _)

  inserts_or : (way : Conflict) (clauses : List Upsert) (from : Source) (db : Trees) → IsPlainPart (InsertsOr task way clauses from db)
  inserts_or way clauses from db = then _ _ (sourced _ _ _ _) (λ rows. then _ _ (counter db) (λ row. then _ _ (tries_each way clauses rows _ _) (λ done. then _ _ (counts done.0.trees row done.1) (λ next. gives _))))

  -- ---- what is shown and noted

  shows : (what : Returning) (now : Trees) (rows : List Row) → IsPlainPart (Shows task what now rows)
  shows what now [] = gives _
  shows what now (row ∷ more) = then _ _ (sourced _ _ _ _) (λ first. then _ _ (shows what now more) (λ others. gives _))

  returns : (w : Written) (what : Option Returning) → IsPlainPart (Returns task w what)
  returns w what = perhaps (Returns task w) what (gives _) (λ what. then _ _ (shows what _ _) (λ rows. then _ _ (counted _ rows) (λ within. gives _)))

  concludes : (mode : Mode) (returning : Option Returning) (w : Written) → IsPlainPart (Concludes task mode returning w)
  concludes mode returning w = then _ _ (tested mode (λ among. Refers among task.schema w.trees)) (λ in_doubt. then _ _ (returns w returning) (λ rows. gives _))

  empties : (db : Trees) → IsPlainPart (Empties task db)
  empties db = either _ _ _ (edited task.schema task.keys db (edit_of db task.table (ids_of (db task.table.tree)) Given 0 [])) (gives _)

  uncounts : (db : Trees) → IsPlainPart (Uncounts task db)
  uncounts db = perhaps (UncountsIn task db) _ (gives _) (λ counters. then _ _ (counter db) (λ row.
      edited task.schema task.keys db (edit_of db counters (ids_of (option_to_list row)) Given 0 [])))

  drops : (mode : Mode) (db : Trees) → IsPlainPart (Drops task mode db)
  drops mode db = then _ _ (empties db) (λ emptied. then _ _ (uncounts emptied) (λ now.
      then _ _ (tested mode (HoldWithout task now)) (λ in_doubt. then _ _ (leaves _ _ _ (λ e none. absurd none)) (λ after. gives _))))

  writes_rows : (db : Trees) (command : Command) → IsPlainPart (WritesRows task db command)
  writes_rows db (Insert at from) = inserts from db
  writes_rows db (InsertOr at way from clauses) = inserts_or way clauses from db
  writes_rows db (Update at q) = updates q task.params db
  writes_rows db (Delete at q) = then _ _ (queried _ _ _ _) (λ rows. then _ _ (edited _ _ _ _) (λ next. gives _))
  writes_rows db _ = refuses InvalidQuery refl

  on_rows : (mode : Mode) (returning : Option Returning) (command : Command) (db : Trees) → IsPlainPart (OnRows task mode returning command db)
  on_rows mode returning command db = then _ _ (writes_rows db command) (concludes mode returning)

-- ---- commands

module _ (limit : Option ℕ) (mode : Mode) (params : Row) (db : Database) where
  on_table : (at : ℕ) (P : Task → Part (Tally × Database)) → ((task : Task) → IsPlainPart (P task)) → IsPlainPart (OnTable limit mode params db at P)
  on_table at P plain = at_place _ (slice_get db.schema.tables at) (λ table. plain _)

  redefines : (text : List ℕ) (command : Command) → IsPlainPart (Redefines limit mode params db text command)
  redefines text CreateTable = defines mode _ (then _ _ (makes_table text db) (λ after. either _ _ _ (makes_table _ after) (gives _)))
  redefines text (CreateIndex at) = on_table at _ (λ task. defines mode _ (makes text _ (MakesIndex text db task.table) (λ e h. h)))
  redefines text CreateView = defines mode _ (makes text _ (MakesView text db) (λ e h. h))
  redefines text (DropTable at) = on_table at _ (λ task. drops task mode db.trees)
  redefines text (DropIndex at) = at_place _ (slice_get db.schema.indexes at) (λ index. defines mode _ (leaves _ _ _ (λ e refused. grind (arith, refused))))
  redefines text (DropView at) = at_place _ (slice_get db.schema.views at) (λ view. defines mode _ (leaves _ _ _ (λ e aside. grind (arith, aside))))
  redefines text _ = refuses InvalidQuery refl

  does : (text : List ℕ) (returning : Option Returning) (command : Command) → IsPlainPart (Does limit mode params db text returning command)
  does text returning (Insert at from) = on_table at _ (λ task. on_rows task mode returning (Insert at from) db.trees)
  does text returning (InsertOr at way from clauses) = on_table at _ (λ task. on_rows task mode returning (InsertOr at way from clauses) db.trees)
  does text returning (Update at q) = on_table at _ (λ task. on_rows task mode returning (Update at q) db.trees)
  does text returning (Delete at q) = on_table at _ (λ task. on_rows task mode returning (Delete at q) db.trees)
  does text returning command = either _ _ _ (refuses InvalidQuery refl) (redefines text command)

-- ---- failures

-- the error is that of a cause that the connection shows, or of a value that is too big
abbrev pub IsCaused : State → State → Error → Type 0
IsCaused old new e = (cause : StoreError) × (e ≡ store_error cause) × HasCause old new ⊤ cause

weaker : (old new : State) (U : Type 0) (cause : StoreError) → HasCause old new U cause → HasCause old new ⊤ cause
weaker old new U OutOfMemory h = tt
weaker old new U Unstorable h = tt
weaker old new U cause h = h

pub fails_so : (old new : State) (U : Type 0) (e : Error) → Fails old new U e → IsCaused old new e
fails_so old new U e h = (h.0, h.1, weaker old new U h.0 h.2)

module _ (text : List ℕ) (params : Row) (old new : State) (e : Error) where
  no_statement : IsNoStatement old text params e → IsPlain e
  no_statement h = grind (arith, h)

  alone : (shows : Bool) (c : Compiled) (given : Row)
      → MatchBool shows ((◌≡◌ {A = Result ℕ Error} (Err e) (Err ExecuteReturnedResults)) × IsUnchanged old new) (RunsCommand old new text c given (Err e)) → IsPlain e ⊎ IsCaused old new e
  alone true c given h = inl (grind (arith, h.0))
  alone false c given (inl (inl misplaced, quiet)) = inl (grind (arith, misplaced))
  alone false c given (inl (inr refused, quiet)) = inl ((does old.step_limit (mode_of old) given old.now (text_of text c) c.returning c.command).plain e refused.1)
  alone false c given (inr failed) = inr (fails_so old new _ e failed)

  pub answered : ExecutesInside 0 text params old new (Err e) → IsPlain e ⊎ IsCaused old new e
  unfolding ExecutesIn IsNotRun
  answered (inl (inl (inl none), undone)) = inl (no_statement none.0)
  answered (inl (inl (inr failed), undone)) = inr (fails_so old new ⊥ e failed)
  answered (inl (inr ran, undone)) = alone (shows_rows false ran.0) ran.0 (timed params ran.0.formats ran.1.now) ran.2
  answered (inr late) = inl (grind (arith, late.1))
