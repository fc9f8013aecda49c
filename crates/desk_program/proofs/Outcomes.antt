-- Where no book or no table is found, where a session ends early, and what a refusal leaves.
use Rattle.std.proofs.Common.{◌≡◌, ◌⊎◌, ℕ, Bool, true, false, List, refl, ap, subst, inl, inr}
use Rattle.std.specs.Prelude.{IsErrAnd, MatchResult, Result, Ok, Err}
use Rattle.sqlite_trees.specs.View.{IsQuiet, IsRolledBack}
use Rattle.sqlite.specs.Held.{Held}
use Rattle.desk_model.specs.Book.{Book}
use Rattle.desk_brf.specs.PageLayout.{Layout}
use Rattle.desk_ends.specs.declared.ends.Sink.{Ghosts as Sink}
use Rattle.desk_ends.specs.declared.ends.Source.{Ghosts as Source}
use Rattle.desk_session.specs.declared.session.Ended.{Ended}
use Rattle.desk_session.specs.declared.session.Ended.TheVariants as ended
use Rattle.desk_words.specs.declared.action.Action.{Action}
use Rattle.desk_words.specs.declared.action.Action.TheVariants.{New, Session, Export, Translate, Check}
use Rattle.desk_program.specs.Books.{Checks, Exports, ExportsFrom, FindsNone, Holds, IsClosed, Makes, Outcome, Place, after_session}
use Rattle.desk_program.specs.Fault.{FaultAt}
use Rattle.desk_program.specs.Program.{CarriesOut, Files, Translates, place_of}
use Rattle.desk_program.specs.Shelf.{FileState}
use Rattle.desk_program.specs.declared.fault.ProgramFault.{ProgramFault}
use Rattle.desk_program.specs.declared.fault.ProgramFault.TheVariants as faults
use Rattle.desk_program.specs.declared.stop.Stop.{Stop}
use Rattle.desk_program.specs.declared.stop.Stop.TheVariants.{Refused, Ends}

-- ---- no book was found

module _ {D : Type 0} (at : Place D) (make : Bool) where
  pub none-unconnected : {T : Type 0} (result : Result T Stop) (P : T → Type 0) (fault : ProgramFault) → at.Refuses make fault
      → IsErrAnd result (λ stop. stop ≡ Refused fault) → MatchResult result P (FindsNone at make)
  none-unconnected (Ok it) P fault of is = absurd is
  none-unconnected (Err stop) P fault of is = FindsNone.unconnected fault of is

module _ {D K : Type 0} (at : Place D) (sink : Sink K) (old : K) (stop : Stop) where
  pub Makes-none : (outcome : Outcome) → FindsNone at true stop → IsErrAnd outcome (λ reported. reported ≡ stop)
      → Makes at sink old old outcome
  Makes-none (Ok unit) none is = absurd is
  Makes-none (Err reported) none is = Makes.none stop none refl (ap Err is)

  pub Checks-none : (outcome : Outcome) → FindsNone at false stop → IsErrAnd outcome (λ reported. reported ≡ stop)
      → Checks at sink old old outcome
  Checks-none (Ok unit) none is = absurd is
  Checks-none (Err reported) none is = Checks.none stop none refl (ap Err is)

  pub ExportsFrom-none : (layout : Layout) (number : ℕ) (outcome : Outcome) → FindsNone at false stop
      → IsErrAnd outcome (λ reported. reported ≡ stop) → ExportsFrom at sink old old layout number outcome
  ExportsFrom-none layout number (Ok unit) none is = absurd is
  ExportsFrom-none layout number (Err reported) none is = ExportsFrom.none stop none refl (ap Err is)

  pub Holds-none : {S : Type 0} (source : Source S) (old_source : S) (outcome : Outcome) → FindsNone at false stop
      → IsErrAnd outcome (λ reported. reported ≡ stop) → Holds at source old_source old_source sink old old outcome
  Holds-none source old_source (Ok unit) none is = absurd is
  Holds-none source old_source (Err reported) none is = Holds.none stop none refl refl (ap Err is)

-- a connection that was handed back, whose database was closed
pub closed-as : {D : Type 0} (at : Place D) (held last : Held D) (left : D) → held ≡ last → at.Closes left
    → IsRolledBack (at.store.view held.store) (at.store.view left)
    → IsQuiet at.store.view at.store.faults at.store.recovers at.store.is_shielded held.store left → IsClosed at last
closed-as {D} at held last left same closes undone quiet = (
  left,
  closes,
  subst (λ (it : Held D). IsRolledBack (at.store.view it.store) (at.store.view left)) same undone,
  λ db here. subst (λ (it : Held D). at.store.recovers it.store db) same (quiet.outcomes db here),
)

-- a table that is refused
pub Translates-refused : {S K : Type 0} (CanFail : Type 0) (shelf : List ℕ → FileState) (source : Source S) (old_source : S)
    (sink : Sink K) (old : K) (path : List ℕ) (outcome : Outcome) (fault : ProgramFault) → FaultAt CanFail shelf path fault
    → IsErrAnd outcome (λ stop. stop ≡ Refused fault)
    → Translates CanFail shelf source old_source old_source sink old old path outcome
Translates-refused CanFail shelf source old_source sink old path (Ok unit) fault at is = absurd is
Translates-refused CanFail shelf source old_source sink old path (Err stop) fault at is = rw is (at, refl, refl)

-- a session whose source or sink failed
pub after_session-ends : (how : Ended) → (how ≡ ended.Input) ⊎ (how ≡ ended.Output) → Err Ends ≡ after_session how
after_session-ends how is = elim is [ inl input ↦ rw input refl | inr output ↦ rw output refl ]

-- ---- what a refusal leaves

module _ {K : Type 0} (sink : Sink K) (old new : K) where
  Exports-refused : (book : Book) (layout : Layout) (number : ℕ) (fault : ProgramFault)
      → Exports sink old new book layout number (Err (Refused fault)) → new ≡ old
  Exports-refused book layout number (faults.Table fault) exports = absurd exports
  Exports-refused book layout number faults.NoMemory exports = absurd exports
  Exports-refused book layout number faults.NotABook exports = absurd exports
  Exports-refused book layout number (faults.Damaged table id) exports = absurd exports
  Exports-refused book layout number faults.NewerFormat exports = absurd exports
  Exports-refused book layout number (faults.NotSixDots paragraph cell) exports = exports.0
  Exports-refused book layout number faults.NoVolume exports = exports.0
  Exports-refused book layout number faults.BadLayout exports = absurd exports
  Exports-refused book layout number faults.File exports = absurd exports
  Exports-refused book layout number (faults.Taken version) exports = absurd exports

  module _ {D : Type 0} (at : Place D) (fault : ProgramFault) where
    Makes-refused : Makes at sink old new (Err (Refused fault)) → new ≡ old
    Makes-refused (Makes.none stop none same is) = same
    Makes-refused (Makes.taken book finds some same is) = same
    Makes-refused (Makes.made book finds empty says) = absurd says

    Checks-refused : Checks at sink old new (Err (Refused fault)) → new ≡ old
    Checks-refused (Checks.none stop none same is) = same
    Checks-refused (Checks.found book finds says) = absurd says

    ExportsFrom-refused : (layout : Layout) (number : ℕ)
        → ExportsFrom at sink old new layout number (Err (Refused fault)) → new ≡ old
    ExportsFrom-refused layout number (ExportsFrom.none stop none same is) = same
    ExportsFrom-refused layout number (ExportsFrom.found book finds exports) =
        Exports-refused book layout number fault exports

    Holds-refused : {S : Type 0} (source : Source S) (old_source new_source : S)
        → Holds at source old_source new_source sink old new (Err (Refused fault))
        → (new_source ≡ old_source) × (new ≡ old)
    Holds-refused source old_source new_source (Holds.none stop none same_source same is) = (same_source, same)
    Holds-refused source old_source new_source (Holds.held book last opened left how opens served cause closed is) =
        absurd (ends how is)
      where
        ends : (how : Ended) → Err (Refused fault) ≡ after_session how → ⊥
        ends ended.Done e = cc
        ends ended.Input e = cc
        ends ended.Output e = cc
        ends ended.Lost e = cc

-- an action that is refused reads and writes nothing
pub CarriesOut-refused : {D S K : Type 0} (files : Files D) (source : Source S) (old_source new_source : S)
    (sink : Sink K) (old new : K) (action : Action) (fault : ProgramFault)
    → CarriesOut files source old_source new_source sink old new action (Err (Refused fault))
    → (new_source ≡ old_source) × (new ≡ old)
CarriesOut-refused files source old_source new_source sink old new (New path) fault carried =
    (carried.1, Makes-refused sink old new (place_of files path.now) fault carried.0)
CarriesOut-refused files source old_source new_source sink old new (Session path) fault carried =
    Holds-refused sink old new (place_of files path.now) fault source old_source new_source carried
CarriesOut-refused files source old_source new_source sink old new (Export path volume width lines) fault carried =
    elim carried.1 [
      | inl bad ↦ (carried.0, bad.1)
      | inr it ↦ (carried.0, ExportsFrom-refused sink old new (place_of files path.now) fault _ volume it.1)
    ]
CarriesOut-refused files source old_source new_source sink old new (Translate path) fault carried = (carried.1, carried.2)
CarriesOut-refused files source old_source new_source sink old new (Check path) fault carried =
    (carried.1, Checks-refused sink old new (place_of files path.now) fault carried.0)
