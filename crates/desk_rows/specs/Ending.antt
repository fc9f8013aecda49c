-- How a transaction ends: what ran in it is committed, or undone.
use Rattle.std.specs.Prelude.{◌≡◌, ◌⊎◌, true, Result, Err, IfErr, IsOk, OnErr, OnOk}
use Rattle.sqlite.specs.declared.error.Error.{Error}
use Rattle.sqlite.specs.State.{State, Survives}
use Rattle.sqlite.specs.Steps.{FailsToCommit}
use Rattle.sql_tables.specs.States.{IsCommitted, IsSettled, IsUndone}

-- What ran is committed, and a crash leaves just that; or it failed, or the commit does, and all of
-- it is undone.
pub record Ends {V : Type 0} (ran result : Result V Error) (old new : State) : Type 0 where
  pub committed : OnOk result (IsOk ran × (new.now ≡ old.now) × IsCommitted new × IsSettled new)
  pub undone : OnOk ran (old.in_transaction ≡ true) → OnErr result (IsUndone old new)
  pub reported : IfErr result (λ e.
      ((ran ≡ Err e) × Survives old new (λ _. ⊥)) ⊎ (IsOk ran × FailsToCommit old new e))
