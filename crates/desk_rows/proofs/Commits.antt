-- What a transaction comes to, by what ran in it and how it ended.
use Rattle.std.proofs.Common.{◌≡◌, ◌∙◌, arith, refl, subst, sym, true, Err, IfErr, IsOk, IsTrue, Ok, OnOk, Result}
use Rattle.std.proofs.lemmas.Result.{on_ok_weaker}
use Rattle.sqlite_trees.specs.declared.store.Store.{Ghosts}
use Rattle.sqlite.specs.declared.error.Error.{Error}
use Rattle.sqlite.specs.Held.{Held, state}
use Rattle.sqlite.specs.State.{HasCleanDisk, KeepsCommit, State, Survives}
use Rattle.sqlite.proofs.Callers.{survives_begin}
use Rattle.sqlite.proofs.StateLemmas.{survives_then}
use Rattle.sql_tables.specs.States.{IsUndone, ShowsAsBefore}
use Rattle.desk_rows.specs.Commits.{Commits, Work}
use Rattle.desk_rows.specs.Ending.{Ends}
use Rattle.desk_rows.specs.Failing.{FailsToPut, Putting, at_commit, at_put}
use Rattle.desk_rows.specs.Fault.{IsReportedAs}
use Rattle.desk_rows.specs.Statements.{with_transaction}
use Rattle.desk_rows.specs.declared.fault.DatabaseFault.TheVariants.{Refused}
use Rattle.desk_rows.proofs.Transactions.Ending.{fails_to_put, leaves_what_ran, shows_what_ran}
use Rattle.desk_rows.proofs.Transactions.LostStores.{StopsLost, put_lost}

module _ {S : Type 0} (g : Ghosts S) (old : Held S) where
  -- after a refusal a crash leaves nothing new
  refused : (putting : Putting S) (new : State) (e : Error) → FailsToPut g putting (with_transaction old) new e → IsReportedAs e Refused → Survives (state g old) new (λ _. ⊥)
  refused putting new e (at_put last within stops left) reported =
      survives_begin g old new _ (survives_then (state g (with_transaction old)) (state g last) new _ _ _ (λ _ db none. none) (λ _ db none. none) within left)
  refused putting new e (at_commit last within puts left why) reported = absurd (reported why.0 why.1)

  module _ (last : Held S) (new : State) (kept : KeepsCommit (state g (with_transaction old)) (state g last)) where
    undone_since : IsUndone (state g last) new → IsUndone (state g old) new
    undone_since undone = (
      record {
        was_open = λ is_open. kept.was_open (undone.0.was_open is_open);
        committed = λ is_open. undone.0.committed is_open ∙ kept.committed (undone.0.was_open is_open);
      },
      undone.1,
    )

    module _ (settled : IsTrue (state g old).is_open → (state g old).now ≡ (state g old).committed) where
      shows_as_before : IsUndone (state g last) new → ShowsAsBefore (state g old) new
      shows_as_before undone is_open =
          let was = undone.0.was_open is_open in
          undone.1 is_open ∙ (undone.0.committed is_open ∙ (kept.committed was ∙ sym (settled (kept.was_open was))))

      ends_so : {V : Type 0} (work : Work S) → StopsLost g work.putting → (ran result : Result V Error) → Ends ran result (state g last) new → HasCleanDisk new
          → Survives (state g (with_transaction old)) (state g last) (λ _. ⊥) → Survives (state g last) new (λ db. IsOk ran × (db ≡ (state g last).now.trees))
          → OnOk ran (work.putting.puts (with_transaction old) last) → OnOk ran ((state g last).in_transaction ≡ true) → IfErr ran (work.putting.stops (with_transaction old) (state g last))
          → (new.now ≡ (state g last).now → work.putting.puts (with_transaction old) last → work.Shown old new) → Commits g work old new result
      ends_so work lost ran (Ok w) ends clean within ended put inside stopped shown =
          record { shown = shows_what_ran ran (Ok w) (state g last) new ends put shown; committed = ends.committed.2; settled = ends.committed.3 }
      ends_so work lost ran (Err e) ends clean within ended put inside stopped shown =
          let why = fails_to_put g work.putting ran (Err e) (with_transaction old) last new ends within ended put inside stopped in
          record {
            fails = why;
            lost = put_lost g work.putting lost (with_transaction old) new e why clean;
            undone = undone_since (ends.undone inside);
            as_before = shows_as_before (ends.undone inside);
            refused = refused work.putting new e why;
          }

-- a transaction of its own, that begins so, in which this work ran, and which ended
module _ {S V : Type 0} (g : Ghosts S) (work : Work S) (old first last : Held S) (begun : first ≡ with_transaction old) (ran result : Result V Error) (new : State)
    (within : Survives (state g first) (state g last) (λ _. ⊥)) (ended : Survives (state g last) new (λ db. IsOk ran × (db ≡ (state g last).now.trees)))
    (put : HasCleanDisk (state g last) → OnOk ran (work.putting.puts first last)) (shows : (s : State) → s.now ≡ (state g last).now → work.putting.puts (with_transaction old) last → work.Shown old s) where
  survives : Survives (state g (with_transaction old)) (state g last) (λ _. ⊥)
  survives = subst (λ h. Survives (state g h) (state g last) (λ _. ⊥)) begun within

  was_put : HasCleanDisk (state g last) → OnOk ran (work.putting.puts (with_transaction old) last)
  was_put clean = subst (λ h. OnOk ran (work.putting.puts h last)) begun (put clean)

  -- it is done or given up, and a crash leaves what was before or what its work leaves
  pub comes_to : StopsLost g work.putting → (IsTrue (state g old).is_open → (state g old).now ≡ (state g old).committed)
      → (HasCleanDisk (state g last) → KeepsCommit (state g first) (state g last))
      → (HasCleanDisk (state g last) → (state g first).in_transaction ≡ true → OnOk ran ((state g last).in_transaction ≡ true))
      → (HasCleanDisk (state g last) → (state g first).in_transaction ≡ true → IfErr ran (work.putting.stops first (state g last)))
      → (HasCleanDisk new → Ends ran result (state g last) new) → ((s : State) → work.Shown old s → work.Left old s.now.trees)
      → (HasCleanDisk new → Commits g work old new result) × Survives (state g old) new (work.Left old)
  comes_to lost settled kept inside stopped ends left = (
    (λ clean.
        let early : HasCleanDisk (state g last) = omega (arith, clean, ended.clean) in
        ends_so g old last new (subst (λ h. KeepsCommit (state g h) (state g last)) begun (kept early)) settled work lost ran result
        (ends clean) clean survives ended (was_put early)
        (subst (λ h. (state g h).in_transaction ≡ true → OnOk ran ((state g last).in_transaction ≡ true)) begun (inside early) refl)
        (subst (λ h. (state g h).in_transaction ≡ true → IfErr ran (work.putting.stops h (state g last))) begun (stopped early) refl) (shows new)),
    leaves_what_ran g ran old last new (work.Left old) survives ended
        (λ clean. on_ok_weaker ran (λ it. left (state g last) (shows (state g last) refl it)) (was_put clean)),
  )
