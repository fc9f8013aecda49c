-- Statements that ran in turn within a transaction.
use Rattle.std.proofs.Common.{List, [], ◌∷◌, ◌++◌, map, refl, sym, ap, subst}
use Rattle.std.proofs.lemmas.List.{map_push}
use Rattle.sqlite_trees.specs.declared.store.Store.{Ghosts}
use Rattle.sqlite.specs.Held.{Held, state}
use Rattle.sqlite.specs.Effect.{Database}
use Rattle.sqlite.specs.State.{State, Survives}
use Rattle.desk_rows.specs.Statements.{AreRun, IsLeftBy, Ran, RunInTurn, Statement}

module _ {S : Type 0} (g : Ghosts S) where
  -- some ran, and then others
  pub run_then : (first later : List Statement) (old mid new : Held S) → RunInTurn g first old mid → RunInTurn g later mid new → RunInTurn g (first ++ later) old new
  run_then [] later old mid new done more = subst (λ h. RunInTurn g later h new) done more
  run_then (it ∷ its) later old mid new done more = (done.0, done.1, done.2, run_then its later done.0 mid new done.3 more)

  -- one ran alone
  pub one_ran : (it : Statement) (old new : Held S) → Ran it (state g old) (state g new) → Survives (state g old) (state g new) (λ _. ⊥) → RunInTurn g (it ∷ []) old new
  one_ran it old new ran kept = (new, ran, kept, refl)

  -- one more ran, which stands for this
  pub one_more_ran : {A : Type 0} (said : A → Statement) (xs : List A) (x : A) (old mid new : Held S) → RunInTurn g (map said xs) old mid → Ran (said x) (state g mid) (state g new)
      → Survives (state g mid) (state g new) (λ _. ⊥) → RunInTurn g (map said (xs ++ x ∷ [])) old new
  one_more_ran said xs x old mid new done ran kept =
      subst (λ its. RunInTurn g its old new) (sym (map_push said xs x)) (run_then (map said xs) (said x ∷ []) old mid new done (one_ran (said x) mid new ran kept))

  -- what a connection shows by statements that ran is what a crash leaves by them
  pub is_left : (its : List Statement) (old : Held S) (new : State) → AreRun g its old new → IsLeftBy g its old new.now.trees
  is_left its old new run = (run.0, run.1, ap (λ (d : Database). d.trees) run.2)
