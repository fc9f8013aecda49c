-- Statements that run in turn within a transaction.
use Rattle.std.specs.Prelude.{◌≡◌, ℕ, true, List, [], ◌∷◌, Ok, Err}
use Rattle.sqlite_value.specs.Order.{Row}
use Rattle.sqlite_trees.specs.declared.store.Store.{Ghosts}
use Rattle.sqlite_trees.specs.Tree.{Trees}
use Rattle.sqlite.specs.declared.error.Error.{Error}
use Rattle.sqlite.specs.Held.{Held, state}
use Rattle.sqlite.specs.State.{State, ExecutesInside, Survives}

-- a statement: its text and its parameters
pub record Statement : Type 0 where
  pub text : List ℕ
  pub params : Row

-- the statement ran
abbrev pub Ran : Statement → State → State → Type 0
Ran it old new = (count : ℕ) × ExecutesInside 0 it.text it.params old new (Ok count)

-- the database answered the error to the statement
abbrev pub FailsWith : Statement → State → State → Error → Type 0
FailsWith it old new e = ExecutesInside 0 it.text it.params old new (Err e)

-- These ran in turn. Each left the limit on steps as it was, and a crash leaves nothing new.
abbrev pub RunInTurn : {S : Type 0} → Ghosts S → List Statement → Held S → Held S → Type 0
RunInTurn g [] old new = new ≡ old
RunInTurn {S} g (it ∷ more) old new = (mid : Held S) × Ran it (state g old) (state g mid)
    × Survives (state g old) (state g mid) (λ _. ⊥) × RunInTurn g more mid new

-- These ran in turn, and what came next failed so.
pub record Stops {S : Type 0} (g : Ghosts S) (done : List Statement) (Fails : State → State → Error → Type 0)
    (old : Held S) (new : State) (e : Error) : Type 0 where
  pub before : Held S
  pub ran : RunInTurn g done old before
  pub failed : Fails (state g before) new e
  pub left : Survives (state g before) new (λ _. ⊥)

-- a connection on which a transaction begins
abbrev pub with_transaction : {S : Type 0} → Held S → Held S
with_transaction old = record old { in_transaction = true }

-- These ran in turn in a transaction of their own, and this is what a connection shows by them, or
-- what a crash leaves.
abbrev pub AreRun : {S : Type 0} → Ghosts S → List Statement → Held S → State → Type 0
AreRun {S} g its old new =
    (last : Held S) × RunInTurn g its (with_transaction old) last × (new.now ≡ (state g last).now)

-- They ran so, and these are trees that a crash leaves.
abbrev pub IsLeftBy : {S : Type 0} → Ghosts S → List Statement → Held S → Trees → Type 0
IsLeftBy {S} g its old db =
    (last : Held S) × RunInTurn g its (with_transaction old) last × (db ≡ (state g last).now.trees)
