-- What is found of a book after a session, and what a session begins with.
use Rattle.std.proofs.Common.{IsTrue, inl, ◌≡◌, ◌∙◌, ◌≤◌, Bool, false, List, [], ◌∷◌, ◌++◌, length, refl, sym, ap, subst, arith}
use Rattle.std.specs.Prelude.{Ok, Result}
use Rattle.std.specs.List.{All}
use Rattle.std.proofs.lemmas.List.Elements.{All-cons, All-nil}
use Rattle.sqlite_trees.specs.Tree.{Trees}
use Rattle.sqlite_trees.specs.declared.store.Store.{Ghosts}
use Rattle.sqlite.specs.Held.{Held, state}
use Rattle.sqlite.specs.State.{IsLive, State}
use Rattle.sqlite.specs.State.{Opens as IsOpenedAnew}
use Rattle.sql_tables.specs.States.{IsSettled, Leaves}
use Rattle.desk_model.specs.Book.{Book}
use Rattle.desk_store.specs.Keeping.{HasNewTables, LeavesBook, MayServe}
use Rattle.desk_store.proofs.StoppedOpenings.{still_shown}
use Rattle.desk_store.proofs.Reopening.{finds_such, holds_new, keeps, second_format}
use Rattle.desk_rows.specs.Contents.{Contents}
use Rattle.desk_store.specs.Formats.{named}
use Rattle.desk_store.specs.Found.{HasNone}
use Rattle.desk_rows.specs.Layout.{Layout}
use Rattle.desk_rows.specs.Making.{new_layout}
use Rattle.desk_store.specs.Completing.{with_missing_tables}
use Rattle.desk_store.specs.Opened.{FindsBook, HoldsEither, OpensBook, Stands, StopsOpening}
use Rattle.desk_store.specs.Reopened.{IsKeptThere}
use Rattle.desk_store.specs.declared.fault.OpenFault.{OpenFault}
use Rattle.desk_rows.specs.States.{IsFile, ShowsContents}
use Rattle.desk_session.specs.declared.session.Ended.{Ended}
use Rattle.desk_session.specs.declared.session.Ended.TheVariants as ended
use Rattle.desk_session.specs.Service.{EndsAs, HoldsGiven, IsFoundAfter, MayLack}
use Rattle.desk_session.specs.Reopened.{IsKeptBook}
use Rattle.desk_session.specs.Session.{EndsLost, GivenCommand, GivesCommands, HoldsAcknowledged, IsSession, Turn}
use Rattle.desk_session.proofs.TurnsTaken.{shows-still}

-- ---- a command that was lost is the last one, and wasn't acknowledged

abbrev IsUnacknowledged : GivenCommand → Type 0
IsUnacknowledged one = one.acknowledged ≡ false

-- the last of what was given wasn't acknowledged
record LastLost (given : List GivenCommand) : Type 0 where
  front : List GivenCommand
  one : GivenCommand
  is : given ≡ front ++ one ∷ []
  lost : IsUnacknowledged one

with_first : (first front : List GivenCommand) (one : GivenCommand) → first ++ (front ++ one ∷ []) ≡ (first ++ front) ++ one ∷ []
with_first [] front one = refl
with_first (x ∷ first) front one = ap (λ (xs : List GivenCommand). x ∷ xs) (with_first first front one)

with_none : (first : List GivenCommand) → first ++ [] ≡ first
with_none [] = refl
with_none (x ∷ first) = ap (λ (xs : List GivenCommand). x ∷ xs) (with_none first)

last_lost : (turns : List Turn) (book last : Book) (given : List GivenCommand) → IsSession book turns given last → EndsLost turns → LastLost given
last_lost [] book last given session none = absurd none
last_lost (turn ∷ []) book last given (next, answered, on, (first, others, gives, is, rest)) lost =
    let it = subst (λ (answer : _). GivesCommands turn answer first) lost gives in
    record {
      front = [];
      one = record { command = it.0; acknowledged = false };
      is = is ∙ ap (λ (xs : List GivenCommand). first ++ xs) rest.0 ∙ with_none first ∙ it.2;
      lost = refl;
    }
last_lost (turn ∷ second ∷ turns) book last given (next, answered, on, (first, others, gives, is, rest)) lost =
    let later = last_lost (second ∷ turns) next last others rest lost in
    record {
      front = first ++ later.front;
      one = later.one;
      is = is ∙ ap (λ (xs : List GivenCommand). first ++ xs) later.is ∙ with_first first later.front later.one;
      lost = later.lost;
    }

none_left : (ks missing : List GivenCommand) → ks ++ missing ≡ [] → missing ≡ []
none_left [] missing is = is
none_left (k ∷ ks) missing is = absurd (cc is)

last_of : (kept missing front : List GivenCommand) (one : GivenCommand) → kept ++ missing ≡ front ++ one ∷ [] → length missing ≤ 1 → IsUnacknowledged one → All IsUnacknowledged missing
last_of [] missing [] one is few lost = subst (All IsUnacknowledged) (sym is) (All-cons IsUnacknowledged one [] lost (All-nil IsUnacknowledged))
last_of [] missing (f ∷ []) one is few lost =
    let count : length missing ≡ 2 = ap length is in absurd (omega (arith, count, few))
last_of [] missing (f ∷ g ∷ front) one is few lost =
    let count : length missing ≡ length (f ∷ g ∷ (front ++ one ∷ [])) = ap length is in absurd (omega (arith, count, few))
last_of (k ∷ kept) missing [] one is few lost =
    let rest : kept ++ missing ≡ [] = cc is in
    subst (All IsUnacknowledged) (sym (none_left kept missing rest)) (All-nil IsUnacknowledged)
last_of (k ∷ kept) missing (f ∷ front) one is few lost =
    let rest : kept ++ missing ≡ front ++ one ∷ [] = cc is in
    last_of kept missing front one rest few lost

missing_lost : (end : Ended) (turns : List Turn) (book last : Book) (given kept missing : List GivenCommand) → IsSession book turns given last → EndsAs end turns
    → given ≡ kept ++ missing → MayLack end missing → All IsUnacknowledged missing
missing_lost ended.Done turns book last given kept missing session ends is lacks = subst (All IsUnacknowledged) (sym lacks) (All-nil IsUnacknowledged)
missing_lost ended.Input turns book last given kept missing session ends is lacks = subst (All IsUnacknowledged) (sym lacks) (All-nil IsUnacknowledged)
missing_lost ended.Output turns book last given kept missing session ends is lacks = subst (All IsUnacknowledged) (sym lacks) (All-nil IsUnacknowledged)
missing_lost ended.Lost turns book last given kept missing session ends is lacks =
    let it = last_lost turns book last given session ends in
    last_of kept missing it.front it.one (sym is ∙ it.is) lacks it.lost

-- ---- what is found after a session

pub is_found : (l : Layout) (book held : Book) (end : Ended) (turns : List Turn) (given : List GivenCommand) (db : Trees) (s : State)
    → HasNewTables l → IsSession book turns given held → EndsAs end turns → HoldsGiven l book end given db
    → ((c : Contents) → IsFile l c db → ShowsContents l c s) → IsFoundAfter l book turns given s
is_found l book held end turns given db s tables session ends holds shows = record {
  kept = holds.kept;
  holds = record { lost = holds.missing; front = holds.front; unacknowledged = missing_lost end turns book held given holds.kept holds.missing session ends holds.front holds.lacks };
  next = holds.next;
  after = holds.after;
  stands = (
    (named, second_format l holds.holds.0 db tables holds.holds.1),
    (holds.holds.0, shows holds.holds.0 holds.holds.1, holds.holds.2),
  );
}

-- ---- what a session begins with

module _ {S : Type 0} (g : Ghosts S) (make : Bool) (book : Book) (old : Held S) (new : State) (opens : OpensBook g make old new (Ok book)) where
  pub begins_again : (l : Layout) → Stands l book (state g old) → Leaves (HoldsEither l book) (state g old) → MayServe (with_missing_tables l) book new
  begins_again l (of, (c, shows, rows)) leaves =
      let opened = opens.stands.opened l c of shows in
      record { tables = opened.tables; shows = (opened.shows.0, opened.shows.1.0, opened.shows.2); leaves = opened.leaves leaves }

  pub begins_opened : (l : Layout) → Stands l book (state g old) → LeavesBook l book (state g old) → MayServe (with_missing_tables l) book new
  begins_opened l stands leaves = begins_again l stands (λ db left. inl (leaves db left))

  pub begins_made : HasNone (state g old).now.schema → MayServe (new_layout (state g old).now.schema) book new
  begins_made none = (opens.stands.made none).kept

-- a book that stands in what a connection shows stands where another shows the same
stands_still : (l : Layout) (book : Book) (old new : State) → new.now ≡ old.now → Stands l book old → Stands l book new
stands_still l book old new same (of, shows) = (of, shows-still l book old new same shows)

pub begins_after_a_stop : {S : Type 0} (g : Ghosts S) (make : Bool) (book : Book) (first old : Held S) (new : State) (fault : OpenFault) → StopsOpening g first (state g old) fault
    → (state g first).now ≡ (state g first).committed → IsTrue (state g old).is_open → (l : Layout) → Stands l book (state g first) → Leaves (HoldsEither l book) (state g old)
    → OpensBook g make old new (Ok book) → MayServe (with_missing_tables l) book new
begins_after_a_stop g make book first old new fault stops same opened l stands leaves opens =
    begins_again g make book old new opens l (stands_still l book (state g first) (state g old) (still_shown g first (state g old) fault same stops opened) stands) leaves

-- ---- what opening finds after a session

module _ {S : Type 0} (g : Ghosts S) (make : Bool) (next : Held S) (after : State) (anew : IsOpenedAnew (state g next)) (live : IsLive (state g next)) (l : Layout) (tables : HasNewTables l)
    (book : Book) (end : Ended) (given : List GivenCommand) (holds : HoldsGiven l book end given (state g next).committed.trees) where
  pub finds_kept : (held : Book) (turns : List Turn) → IsSession book turns given held → EndsAs end turns → (result : Result Book OpenFault) → OpensBook g make next after result
      → FindsBook (IsKeptBook book turns given) result
  finds_kept held turns session ends =
      let lost : HoldsAcknowledged (record { turns = turns; given = given; kept = holds.kept }) =
      record { lost = holds.missing; front = holds.front; unacknowledged = missing_lost end turns book held given holds.kept holds.missing session ends holds.front holds.lacks } in
      finds_such g make next after anew live (IsKeptBook book turns given) holds.next (holds.kept, lost, holds.after)
      (holds_new l holds.next (state g next).committed.trees tables holds.holds)

  pub begins_found : IsSettled (state g next) → (found : Book) → OpensBook g make next after (Ok found) → IsKeptThere found after
  begins_found settled found opens =
      keeps g make next after anew live holds.next found (holds_new l holds.next (state g next).committed.trees tables holds.holds) settled opens
