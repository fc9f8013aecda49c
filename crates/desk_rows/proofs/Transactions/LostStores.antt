-- An error that is reported as lost comes with a failure that the connection counts, or it was too big.
use Rattle.std.proofs.Common.{◌≡◌, ◌≢◌, ◌⊎◌, inl, inr, ℕ, ◌≤◌, List, [], ◌∷◌, map, Option, arith, refl, sym, subst, ◌∙◌, true≢false}
use Rattle.std.specs.Prelude.{⊤}
use Rattle.sqlite_disk.specs.Disk.{MoreFaults}
use Rattle.sqlite_trees.specs.Tree.{Trees}
use Rattle.sqlite_trees.specs.declared.error.StoreError.{StoreError}
use Rattle.sqlite_trees.specs.declared.error.StoreError.TheVariants.{OutOfMemory, Io, Corrupt, Full, Broken, Unstorable}
use Rattle.sqlite_trees.specs.declared.store.Store.{Ghosts}
use Rattle.sqlite.specs.declared.error.Error.{Error}
use Rattle.sqlite.specs.Held.{Held, state}
use Rattle.sqlite.specs.State.{HasCause, HasCleanDisk, State, Survives, store_error}
use Rattle.desk_parts.specs.declared.file_table.FileTable.{FileTable}
use Rattle.desk_parts.specs.declared.file_table.FileTable.TheVariants as tables
use Rattle.desk_parts.specs.declared.put.Put.{Put}
use Rattle.desk_parts.specs.Puts.{PutRow, RowPut, put_of}
use Rattle.sql_tables.proofs.Refusals.{IsCaused, answered, fails_so, not_of_store}
use Rattle.desk_rows.specs.Failing.{FailsToPut, Putting, after_tables, at_commit, at_put, of_first_row, of_items}
use Rattle.desk_rows.specs.Fault.{CountsLoss}
use Rattle.desk_rows.specs.Making.{creation, first_row}
use Rattle.desk_rows.specs.Puts.{NotPut, statement}
use Rattle.desk_rows.specs.Statements.{FailsWith, RunInTurn, Statement, Stops}

-- ---- one error

pub memory_alone : (cause : StoreError) → cause ≢ OutOfMemory → store_error cause ≢ store_error OutOfMemory
memory_alone OutOfMemory other same = other refl
memory_alone cause other same = absurd (cc)

caused : (old new : State) (e : Error) → IsCaused old new e → CountsLoss old new e
caused old new e why is_open reported = go why.0 why.1 why.2
  where
    go : (cause : StoreError) → e ≡ store_error cause → HasCause old new ⊤ cause → MoreFaults old.faults new.faults ⊎ (e ≡ store_error Unstorable)
    go OutOfMemory same h = absurd (memory_alone reported.0 reported.1 (sym reported.2 ∙ same))
    go Io same h = inl h
    go Corrupt same h = inl h
    go Full same h = inl h
    go Broken same h = absurd (true≢false (sym is_open ∙ h))
    go Unstorable same h = inr same

failed : (it : Statement) (old new : State) (e : Error) → FailsWith it old new e → CountsLoss old new e
failed it old new e why is_open reported = elim (answered it.text it.params old new e why) [
  | inl plain ↦ absurd (not_of_store e reported.0 plain reported.2)
  | inr cause ↦ caused old new e cause is_open reported
]

not_put : (it : RowPut) (old new : State) (e : Error) → NotPut it old new e → CountsLoss old new e
not_put it old new e (inl why) = failed (statement it) old new e why
not_put it old new e (inr none) = λ is_open reported. absurd (memory_alone reported.0 reported.1 (sym reported.2 ∙ none.1))

-- ---- in turn

pub more_after : (a b c : ℕ) → a ≤ b → MoreFaults b c → MoreFaults a c
more_after a b c up more = omega (arith, up, more)

more_before : (a b c : ℕ) → MoreFaults a b → b ≤ c → MoreFaults a c
more_before a b c more up = omega (arith, more, up)

-- what is said once the disk is clean
abbrev pub Loss : State → State → Error → Type 0
Loss old new e = HasCleanDisk new → CountsLoss old new e

-- failures are only ever added
abbrev Goes : State → State → Type 0
Goes old new = (HasCleanDisk new → HasCleanDisk old) × (old.faults ≤ new.faults)

goes : (old new : State) (P : Trees → Type 0) → Survives old new P → Goes old new
goes old new P ran = (λ clean. omega (arith, clean, ran.clean), ran.counts)

goes_then : (a b c : State) → Goes a b → Goes b c → Goes a c
goes_then a b c first later = (λ clean. first.0 (later.0 clean), omega (arith, first.1, later.1))

later_loss : (a b c : State) (e : Error) (P : Trees → Type 0) → Survives a b P → Goes b c → Loss b c e → Loss a c e
later_loss a b c e P first later loss clean is_open reported = elim (first.closes (later.0 clean) is_open) [
  | inl still ↦ elim (loss clean still reported) [ inl more ↦ inl (more_after a.faults b.faults c.faults first.counts more) | inr big ↦ inr big ]
  | inr more ↦ inl (more_before a.faults b.faults c.faults more later.1)
]

early_loss : (a b c : State) (e : Error) → Loss a b e → Goes b c → Loss a c e
early_loss a b c e loss later clean is_open reported = elim (loss (later.0 clean) is_open reported) [
  | inl more ↦ inl (more_before a.faults b.faults c.faults more later.1)
  | inr big ↦ inr big
]

module _ {S : Type 0} (g : Ghosts S) where
  in_turn : (its : List Statement) (old mid : Held S) (new : State) (e : Error) → RunInTurn g its old mid → Goes (state g mid) new → Loss (state g mid) new e → Goes (state g old) new × Loss (state g old) new e
  in_turn [] old mid new e same left loss = subst (λ h. Goes (state g h) new × Loss (state g h) new e) same (left, loss)
  in_turn (it ∷ its) old mid new e ran left loss =
      let more = in_turn its ran.0 mid new e ran.3 left loss in (
        goes_then (state g old) (state g ran.0) new (goes (state g old) (state g ran.0) _ ran.2) more.0,
        later_loss (state g old) (state g ran.0) new e _ ran.2 more.0 more.1,
      )

  stops_lost : (done : List Statement) (Why : State → State → Error → Type 0) (old : Held S) (new : State) (e : Error) → ((a b : State) → Why a b e → CountsLoss a b e) → Stops g done Why old new e → Loss (state g old) new e
  stops_lost done Why old new e lost stops =
      (in_turn done old stops.before new e stops.ran (goes (state g stops.before) new _ stops.left) (λ clean. lost (state g stops.before) new stops.failed)).1

  -- ---- a change

  abbrev pub StopsLost : Putting S → Type 1
  StopsLost putting = (old : Held S) (new : State) (e : Error) → putting.stops old new e → Loss (state g old) new e

  pub items_lost : {I : Type 0} (gives : I → Option Put → I → Type 0) (it : I) → StopsLost (of_items g gives it)
  items_lost gives it old new e stopped =
      let next = put_of stopped.1 in
      stops_lost (map statement (map put_of stopped.0)) (NotPut next) old new e (λ a b. not_put next a b e) stopped.4.stops

  pub first_row_lost : StopsLost (of_first_row g)
  first_row_lost old new e stopped clean = failed (statement (PutRow tables.Book first_row)) (state g old) new e stopped

  pub put_lost : (putting : Putting S) → StopsLost putting → (old : Held S) (new : State) (e : Error) → FailsToPut g putting old new e → Loss (state g old) new e
  put_lost putting stops old new e (at_put last ran stopped left) = early_loss (state g old) (state g last) new e (stops old (state g last) e stopped) (goes _ _ _ left)
  put_lost putting stops old new e (at_commit last ran put left why) =
      later_loss (state g old) (state g last) new e _ ran (goes _ _ _ left) (λ clean. caused (state g last) new e (fails_so (state g last) new ⊥ e why))

  pub tables_lost : (tables : List FileTable) (putting : Putting S) → StopsLost putting → StopsLost (after_tables g tables putting)
  tables_lost tables putting stops old new e (inl stopped) =
      stops_lost (map creation stopped.done) (FailsWith (creation stopped.next)) old new e (λ a b. failed (creation stopped.next) a b e) stopped.stops
  tables_lost tables putting stops old new e (inr it) =
      later_loss (state g old) (state g it.0) new e _ it.1 (goes (state g it.0) new _ it.3) (stops it.0 new e it.4)
