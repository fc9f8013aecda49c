-- What holds once a transaction has ended, of what ran in it.
use Rattle.std.proofs.Common.{◌≡◌, [], inl, inr, true, false, sym, subst, ◌∙◌, arith, true≢false, Result, Ok, Err, IfErr, IsOk, IsTrue, OnOk}
use Rattle.std.proofs.lemmas.Result.{IfErr-at_err}
use Rattle.sqlite_trees.specs.Tree.{Trees}
use Rattle.sqlite_trees.specs.declared.store.Store.{Ghosts}
use Rattle.sqlite.specs.declared.error.Error.{Error}
use Rattle.sqlite.specs.Held.{Held, state}
use Rattle.sqlite.specs.State.{Fails, HasCleanDisk, IsRolledBack, KeepsCounts, Shows, State, Survives}
use Rattle.sqlite.specs.Steps.{FailsToCommit}
use Rattle.sqlite.proofs.Callers.{survives_begin}
use Rattle.sqlite.proofs.StateLemmas.{survives_then, survives_weaker}
use Rattle.sql_tables.specs.States.{IsCommitted, IsSettled, IsUndone}
use Rattle.desk_rows.specs.Ending.{Ends}
use Rattle.desk_rows.specs.Failing.{FailsToPut, Putting, at_commit, at_put}
use Rattle.desk_rows.specs.Statements.{with_transaction}

-- what is rolled back is undone
rolled_back : (old new : State) → IsRolledBack old new → IsUndone old new
rolled_back old new back = (
  record { was_open = back.was_open; committed = λ is_open. (back.undone is_open).1 },
  λ is_open. (back.undone is_open).0 ∙ sym (back.undone is_open).1,
)

-- a commit of a transaction that goes on fails only with the store
commit_fails : (last new : State) (e : Error) → FailsToCommit last new e → last.in_transaction ≡ true → Fails last new ⊥ e
commit_fails last new e (inl failed) was = failed
commit_fails last new e (inr late) was = absurd (true≢false (sym was ∙ late.1))

on_ok : {V : Type 0} {P : Type 0} (r : Result V Error) → IsOk r → OnOk r P → P
on_ok (Ok v) is h = h
on_ok (Err e) is h = absurd (true≢false (sym is))

-- what ran well is committed, or the commit fails
pub commit_ends : {V : Type 0} (ran result : Result V Error) (old new : State) → IsOk ran → (IsCommitted new → IsSettled new)
    → OnOk result (IsTrue old.in_transaction × Shows old new old.now old.now false × KeepsCounts old new × (new.marks ≡ []))
    → IfErr result (FailsToCommit old new) → Ends ran result old new
commit_ends ran (Ok w) old new done settled ok err =
    let is : IsCommitted new = (ok.1.is_open, ok.1.committed_is ∙ sym ok.1.now_is) in
    record { committed = (done, ok.1.now_is, is, settled is); undone = λ inside. tt; reported = tt }
commit_ends ran (Err e) old new done settled ok err = record {
  committed = tt;
  undone = λ inside. rolled_back old new (commit_fails old new e err (on_ok ran done inside)).3;
  reported = inr (done, err);
}

-- at `Ok` the connection shows what ran
pub shows_what_ran : {V : Type 0} {P Q : Type 0} (ran result : Result V Error) (old new : State) → Ends ran result old new → OnOk ran P → (new.now ≡ old.now → P → Q) → OnOk result Q
shows_what_ran ran (Ok w) old new ends held f = f ends.committed.1 (on_ok ran ends.committed.0 held)
shows_what_ran ran (Err e) old new ends held f = tt

module _ {S : Type 0} (g : Ghosts S) where
  -- a crash leaves nothing new but what ran
  pub leaves_what_ran : {V : Type 0} (ran : Result V Error) (old last : Held S) (new : State) (P : Trees → Type 0) → Survives (state g (with_transaction old)) (state g last) (λ _. ⊥)
      → Survives (state g last) new (λ db. IsOk ran × (db ≡ (state g last).now.trees)) → (HasCleanDisk (state g last) → OnOk ran (P (state g last).now.trees))
      → Survives (state g old) new P
  leaves_what_ran ran old last new P inside ended held =
      survives_then (state g old) (state g last) new _ _ P (λ _ db none. absurd none)
      (λ clean db is. subst P (sym is.1) (on_ok ran is.0 (held (omega (arith, clean, ended.clean))))) (survives_begin g old (state g last) _ inside) ended

  -- what ran failed and was undone, or the store failed at the commit
  pub fails_to_put : {V : Type 0} (putting : Putting S) (ran result : Result V Error) (old last : Held S) (new : State) → Ends ran result (state g last) new → Survives (state g old) (state g last) (λ _. ⊥)
      → Survives (state g last) new (λ db. IsOk ran × (db ≡ (state g last).now.trees)) → OnOk ran (putting.puts old last) → OnOk ran ((state g last).in_transaction ≡ true)
      → IfErr ran (putting.stops old (state g last)) → IfErr result (FailsToPut g putting old new)
  fails_to_put putting ran (Ok w) old last new ends kept ended put inside stopped = tt
  fails_to_put putting ran (Err e) old last new ends kept ended put inside stopped = elim ends.reported [
    | inl it ↦ at_put last kept (IfErr-at_err (putting.stops old (state g last)) it.0 stopped) it.1
    | inr it ↦ at_commit last kept (on_ok ran it.0 put) (survives_weaker (state g last) new _ _ (λ _ db is. is.1) ended) (commit_fails (state g last) new e it.1 (on_ok ran it.0 inside))
  ]
