-- Why a command is lost.
use Rattle.std.proofs.Common.{inl, inr, map}
use Rattle.sqlite_trees.specs.declared.store.Store.{Ghosts}
use Rattle.sqlite.specs.Held.{Held, state}
use Rattle.sqlite.specs.State.{State}
use Rattle.sqlite.proofs.StateLemmas.{survives_then}
use Rattle.desk_model.specs.Book.{Book}
use Rattle.desk_book.specs.Changes.{change_puts}
use Rattle.desk_parts.specs.Puts.{LendsFirst, put_of}
use Rattle.desk_rows.specs.Failing.{FailsToPut, at_commit, at_put, of_items}
use Rattle.desk_rows.specs.Layout.{Layout}
use Rattle.desk_rows.specs.Puts.{statement}
use Rattle.desk_rows.specs.Statements.{with_transaction}
use Rattle.desk_store.specs.Keeping.{MayServe}
use Rattle.desk_session.specs.Service.{LosesCommand}
use Rattle.desk_session.specs.TurnSteps.{LosesChange}

-- a command whose change isn't kept, where the file showed the book so far, is lost for this cause
pub loses-command : {S : Type 0} (g : Ghosts S) (start book : Book) (old : State) (before : Held S) (new : State)
    → ((l : Layout) → MayServe l start old → MayServe l book (state g before)) → LosesChange g book before new → LosesCommand g start book old new
loses-command {S} g start book old before new serves lost = by lost.fails.fails
  where
    by : FailsToPut g (of_items g LendsFirst (change_puts book lost.change)) (with_transaction before) new lost.error → LosesCommand g start book old new
    by (at_put mid quiet (lent, next, rest, yields, stops) later) = record {
      before = before;
      serves = serves;
      done = map statement (map put_of lent);
      inside = stops.stops.before;
      ran = stops.stops.ran;
      error = lost.error;
      fails = inl (
        elim stops.stops.failed [ inl failed ↦ inl (statement (put_of next), mid, failed) | inr none ↦ inr none.1 ],
        survives_then _ _ _ _ _ _ (λ _ _ none. none) (λ _ _ none. none) stops.stops.left later,
      );
      as_before = lost.as_before;
    }
    by (at_commit mid quiet puts kept fails) = record {
      before = before;
      serves = serves;
      done = map statement (map put_of puts.0);
      inside = mid;
      ran = puts.2.1;
      error = lost.error;
      fails = inr (fails, kept);
      as_before = lost.as_before;
    }
