-- What is done with the book in a file, and why it isn't.
use Rattle.std.specs.Prelude.{◌≡◌, ◌≢◌, ℕ, Bool, true, false, List, [], ◌∷◌, ◌++◌, codes, decimal, Result, Ok, Err}
use Rattle.std.specs.Io.KnownBytes.{Appends}
use Rattle.sqlite_trees.specs.Tree.{Trees}
use Rattle.sqlite_trees.specs.View.{IsRolledBack}
use Rattle.sqlite_trees.specs.declared.store.Store.{Ghosts as Database}
use Rattle.sqlite.specs.Held.{Held, state}
use Rattle.sqlite.specs.State.{HasCleanDisk}
use Rattle.desk_model.specs.Book.{Book}
use Rattle.desk_brf.specs.PageLayout.{Layout}
use Rattle.desk_brf.specs.Volume.{IsFirstEightDot, IsVolume}
use Rattle.desk_brf.specs.Volumes.{volume_of}
use Rattle.desk_brf.specs.declared.volume.ExportFault.{ExportFault}
use Rattle.desk_brf.specs.declared.volume.ExportFault.TheVariants as export
use Rattle.desk_ends.specs.declared.ends.Sink.{Ghosts as Sink}
use Rattle.desk_ends.specs.declared.ends.Source.{Ghosts as Source}
use Rattle.desk_ends.specs.Sending.{HasFlushed, Sends}
use Rattle.desk_session.specs.Service.{LosesCommand, Serves, ends_of}
use Rattle.desk_session.specs.declared.session.Ended.{Ended}
use Rattle.desk_session.specs.declared.session.Ended.TheVariants.{Done, Input, Output, Lost as LostChange}
use Rattle.desk_store.specs.Opened.{OpensFile}
use Rattle.desk_store.specs.declared.fault.OpenFault.{OpenFault}
use Rattle.desk_store.specs.declared.fault.OpenFault.TheVariants as opening
use Rattle.desk_program.specs.Fault.{IsOfDatabase}
use Rattle.desk_program.specs.Shelf.{FileState}
use Rattle.desk_program.specs.declared.shelf.Shelf.{Ghosts as Shelf}
use Rattle.desk_program.specs.declared.fault.ProgramFault.{ProgramFault}
use Rattle.desk_program.specs.declared.fault.ProgramFault.TheVariants as faults
use Rattle.desk_program.specs.declared.stop.Stop.{Stop}
use Rattle.desk_program.specs.declared.stop.Stop.TheVariants.{Refused, Lost, Ends}

-- what became of an action
abbrev pub Outcome : Type 0
Outcome = Result (Unit {0}) Stop

-- ---- why it stops

-- by what opening the book answers
abbrev pub stop_of : OpenFault → Stop
stop_of opening.NotABook = Refused faults.NotABook
stop_of (opening.Damaged table id) = Refused (faults.Damaged table id)
stop_of opening.NewerFormat = Refused faults.NewerFormat
stop_of opening.Lost = Lost
stop_of opening.NoMemory = Refused faults.NoMemory

-- by what the export of a volume answers
abbrev pub stopped_by : ExportFault → Stop
stopped_by export.NoVolume = Refused faults.NoVolume
stopped_by (export.NotSixDots paragraph cell) = Refused (faults.NotSixDots paragraph cell)
stopped_by export.Write = Ends

-- by how a session ended
abbrev pub after_session : Ended → Outcome
after_session Done = Ok tt
after_session Input = Err Ends
after_session Output = Err Ends
after_session LostChange = Err Lost

-- ---- the book

-- What is known of the database that a path names: the connections to it and the faults of
-- connecting, where it is made if it isn't there, and where it isn't; and which database was
-- closed.
pub record Place (D : Type 0) : Type 1 where
  pub store : Database D
  pub Connects : Bool → Held D → Type 0
  pub Closes : D → Type 0
  pub Refuses : Bool → ProgramFault → Type 0

-- by these connections and what was closed, by whether a file that is there may not open, and by
-- what stands at the path
abbrev pub place : {D : Type 0} → Database D → (Bool → Held D → Type 0) → (D → Type 0) → Type 0 → FileState → Place D
place store Connects Closes CanFail shelved =
    record { store = store; Connects = Connects; Closes = Closes; Refuses = IsOfDatabase CanFail shelved }

-- by a shelf, the connections of a desk and what it closes
abbrev pub place_at : {F File D : Type 0} → Shelf F File → Database D → (F → List ℕ → Bool → Held D → Type 0)
    → (F → D → Type 0) → F → List ℕ → Place D
place_at shelf store Connects Closes desk path =
    place store (Connects desk path) (Closes desk) shelf.can_fail (shelf.at desk path)

-- A connection was made, and this book was opened on it, or made; that is what it came to.
pub record Opening {D : Type 0} (at : Place D) (make : Bool) (last : Held D) (book : Book) : Type 0 where
  pub first : Held D
  pub connected : at.Connects make first
  pub opens : OpensFile at.store make first (state at.store last) (Ok book)

-- The database of this connection was closed, without what wasn't committed, and whatever a crash
-- leaves of it then it could have left before.
abbrev pub IsClosed : {D : Type 0} → Place D → Held D → Type 0
IsClosed {D} at last =
    (left : D) × at.Closes left × IsRolledBack (at.store.view last.store) (at.store.view left)
    × ((db : Trees) → at.store.recovers left db → (state at.store last).may_leave db)

-- this book was found, or made, and its database was closed as it was then
abbrev pub Finds : {D : Type 0} → Place D → Bool → Book → Type 0
Finds {D} at make book = (last : Held D) × Opening at make last book × IsClosed at last

-- no book was found: no connection was made, or no book was opened on it, and its database was
-- closed as it was then
pub data FindsNone {D : Type 0} (at : Place D) (make : Bool) (stop : Stop) : Type 0 where
  unconnected : (fault : ProgramFault) → at.Refuses make fault → stop ≡ Refused fault → FindsNone at make stop
  unopened : (first last : Held D) (fault : OpenFault) → at.Connects make first
      → OpensFile at.store make first (state at.store last) (Err fault) → IsClosed at last → stop ≡ stop_of fault
      → FindsNone at make stop

-- ---- what goes to the sink

-- the text went out and was passed on, or the sink failed, and no more than a beginning of it went
-- out
abbrev pub Says : {K : Type 0} → Sink K → K → K → List ℕ → Outcome → Type 0
Says sink old new text (Ok unit) = Sends sink old new text true × HasFlushed sink new
Says sink old new text (Err (Refused fault)) = ⊥
Says sink old new text (Err Lost) = ⊥
Says sink old new text (Err Ends) = ((whole : Bool) × Sends sink old new text whole) × sink.can_fail

-- the line that shows a version
abbrev pub version_line : ℕ → List ℕ
version_line version = codes "ok " ++ decimal version ++ 10 ∷ []

-- ---- the actions

-- A book without a version is found, or an empty one is made, and this is reported. One that has a
-- version stays, and is reported.
pub data Makes {D K : Type 0} (at : Place D) (sink : Sink K) (old new : K)
    (outcome : Outcome) : Type 0 where
  none : (stop : Stop) → FindsNone at true stop → new ≡ old → outcome ≡ Err stop
      → Makes at sink old new outcome
  taken : (book : Book) → Finds at true book → book.version ≢ 0 → new ≡ old
      → outcome ≡ Err (Refused (faults.Taken book.version)) → Makes at sink old new outcome
  made : (book : Book) → Finds at true book → book.version ≡ 0
      → Says sink old new (version_line 0) outcome → Makes at sink old new outcome

-- the version of the book is shown
pub data Checks {D K : Type 0} (at : Place D) (sink : Sink K) (old new : K)
    (outcome : Outcome) : Type 0 where
  none : (stop : Stop) → FindsNone at false stop → new ≡ old → outcome ≡ Err stop
      → Checks at sink old new outcome
  found : (book : Book) → Finds at false book
      → Says sink old new (version_line book.version) outcome → Checks at sink old new outcome

-- A session is held on the book, from the connection as it was opened to what the session left,
-- which is closed. The loss of a command is put down to an error.
pub data Holds {D S K : Type 0} (at : Place D) (source : Source S) (old_source new_source : S)
    (sink : Sink K) (old new : K) (outcome : Outcome) : Type 0 where
  none : (stop : Stop) → FindsNone at false stop → new_source ≡ old_source → new ≡ old
      → outcome ≡ Err stop → Holds at source old_source new_source sink old new outcome
  held : (book last : Book) (opened left : Held D) (ended : Ended)
      → Opening at false opened book
      → Serves book last ended (ends_of source old_source new_source sink old new
      (state at.store opened) (state at.store left))
      → (HasCleanDisk (state at.store left) → ended ≡ LostChange
      → LosesCommand at.store book last (state at.store opened) (state at.store left))
      → IsClosed at left
      → outcome ≡ after_session ended → Holds at source old_source new_source sink old new outcome

-- A volume of a book goes out, as it is exported, and is passed on. It is refused with nothing
-- written, or the sink failed and a beginning of it went out.
abbrev pub Exports : {K : Type 0} → Sink K → K → K → Book → Layout → ℕ → Outcome → Type 0
Exports sink old new book layout number (Ok unit) =
    (bytes : List ℕ) × (pages : ℕ) × IsVolume book layout number bytes pages
    × Appends (sink.contents old) (sink.contents new) bytes × HasFlushed sink new
Exports sink old new book layout number (Err (Refused (faults.Table fault))) = ⊥
Exports sink old new book layout number (Err (Refused faults.NoMemory)) = ⊥
Exports sink old new book layout number (Err (Refused faults.NotABook)) = ⊥
Exports sink old new book layout number (Err (Refused (faults.Damaged table id))) = ⊥
Exports sink old new book layout number (Err (Refused faults.NewerFormat)) = ⊥
Exports sink old new book layout number (Err (Refused (faults.NotSixDots paragraph cell))) =
    (new ≡ old) × IsFirstEightDot book (volume_of book number) paragraph cell
Exports sink old new book layout number (Err (Refused faults.NoVolume)) =
    (new ≡ old) × (volume_of book number ≡ [])
Exports sink old new book layout number (Err (Refused faults.BadLayout)) = ⊥
Exports sink old new book layout number (Err (Refused faults.File)) = ⊥
Exports sink old new book layout number (Err (Refused (faults.Taken version))) = ⊥
Exports sink old new book layout number (Err Lost) = ⊥
Exports sink old new book layout number (Err Ends) =
    (bytes : List ℕ) × (pages : ℕ) × (out : List ℕ) × (rest : List ℕ)
    × IsVolume book layout number bytes pages × (out ++ rest ≡ bytes)
    × Appends (sink.contents old) (sink.contents new) out × sink.can_fail

-- a volume of the book that is found is exported
pub data ExportsFrom {D K : Type 0} (at : Place D) (sink : Sink K) (old new : K)
    (layout : Layout) (number : ℕ) (outcome : Outcome) : Type 0 where
  none : (stop : Stop) → FindsNone at false stop → new ≡ old → outcome ≡ Err stop
      → ExportsFrom at sink old new layout number outcome
  found : (book : Book) → Finds at false book
      → Exports sink old new book layout number outcome
      → ExportsFrom at sink old new layout number outcome
