-- What the program does with its words and its ends.
use Rattle.std.specs.Prelude.{◌≡◌, ◌≢◌, ℕ, ◌⊎◌, List, [], Bool, Ok, Err, map, ⊤}
use Rattle.std.specs.Borrow.{Bor}
use Rattle.sqlite_trees.specs.declared.store.Store.{Ghosts as Database}
use Rattle.sqlite.specs.Held.{Held}
use Rattle.desk_brf.specs.PageLayout.{IsLayout}
use Rattle.desk_ends.specs.declared.ends.Sink.{Ghosts as Sink}
use Rattle.desk_ends.specs.declared.ends.Source.{Ghosts as Source}
use Rattle.desk_ends.specs.Sending.{Sends}
use Rattle.desk_words.specs.Subcommands.{whole}
use Rattle.desk_words.specs.Words.{AskForHelp, NamesWithinLimits}
use Rattle.desk_words.specs.declared.action.Action.{Action}
use Rattle.desk_words.specs.declared.action.Action.TheVariants.{New, Session, Export, Translate, Check}
use Rattle.louis_table.specs.Meaning.{Meaning}
use Rattle.louis_table.specs.Table.{Means}
use Rattle.desk_program.specs.declared.fault.ProgramFault.TheVariants as faults
use Rattle.desk_program.specs.declared.stop.Stop.{Stop}
use Rattle.desk_program.specs.declared.stop.Stop.TheVariants.{Refused, Lost, Ends}
use Rattle.desk_program.specs.Books.{Checks, ExportsFrom, Holds, Makes, Outcome, Place, Says, place}
use Rattle.desk_program.specs.Fault.{TextAt, FaultAt}
use Rattle.desk_translate.specs.Run.{AnswersAll, RanShort}
use Rattle.desk_program.specs.Shelf.{FileState}
use Rattle.desk_program.specs.declared.shelf.Shelf.{Ghosts as Shelf}

-- ---- the words

-- the bytes of each word
abbrev pub texts_of : List (Bor (List ℕ)) → List (List ℕ)
texts_of words = map (λ word. word.now) words

-- ---- what is reported

-- the text is shown, or a beginning of it if showing it can fail
abbrev pub ReportsText : {E : Type 0} → Sink E → E → E → List ℕ → Type 0
ReportsText errors old new text = (whole : Bool) × Sends errors old new text whole

-- something failed, and nothing is refused
abbrev pub IsFailure : Stop → Type 0
IsFailure (Refused fault) = ⊥
IsFailure Lost = ⊤
IsFailure Ends = ⊤

-- ---- translating

-- the table that the word names has this meaning
abbrev pub TableAt : (List ℕ → FileState) → List ℕ → Meaning → Type 0
TableAt shelf path meaning = (text : List ℕ) × TextAt shelf path text × Means text meaning

-- each line is answered by the table that the word names, which may be refused
abbrev pub Translates : {S K : Type 0} → Type 0 → (List ℕ → FileState) → Source S → S → S → Sink K → K → K
    → List ℕ → Outcome → Type 0
Translates CanFail shelf source old_source new_source sink old new path (Ok unit) =
    (meaning : Meaning) × TableAt shelf path meaning
    × AnswersAll source old_source new_source sink old new meaning
Translates CanFail shelf source old_source new_source sink old new path (Err (Refused fault)) =
    FaultAt CanFail shelf path fault × (new_source ≡ old_source) × (new ≡ old)
Translates CanFail shelf source old_source new_source sink old new path (Err Lost) = ⊥
Translates CanFail shelf source old_source new_source sink old new path (Err Ends) =
    (meaning : Meaning) × TableAt shelf path meaning
    × RanShort source old_source new_source sink old new meaning

-- ---- an action

-- What stands at a path, whether a file that is there may not open and whether one may not be read,
-- the connections to the database at a path, which may be made if it isn't there, and which
-- database was closed.
pub record Files (D : Type 0) : Type 1 where
  pub at : List ℕ → FileState
  pub OpenFails : Type 0
  pub ReadFails : Type 0
  pub store : Database D
  pub Connects : List ℕ → Bool → Held D → Type 0
  pub Closes : D → Type 0

-- by a shelf, the connections of a desk and what it closes
abbrev pub files_of : {F File D : Type 0} → Shelf F File → Source File → Database D
    → (F → List ℕ → Bool → Held D → Type 0) → (F → D → Type 0) → F → Files D
files_of shelf file store Connects Closes desk = record {
  at = shelf.at desk;
  OpenFails = shelf.can_fail;
  ReadFails = file.can_fail;
  store = store;
  Connects = Connects desk;
  Closes = Closes desk;
}

-- what is known of the database at a path
abbrev pub place_of : {D : Type 0} → Files D → List ℕ → Place D
place_of files path = place files.store (files.Connects path) files.Closes files.OpenFails (files.at path)

-- the action was carried out so
abbrev pub CarriesOut : {D S K : Type 0} → Files D → Source S → S → S → Sink K → K → K → Action → Outcome → Type 0
CarriesOut files source old_source new_source sink old new (New path) outcome =
    Makes (place_of files path.now) sink old new outcome × (new_source ≡ old_source)
CarriesOut files source old_source new_source sink old new (Session path) outcome =
    Holds (place_of files path.now) source old_source new_source sink old new outcome
CarriesOut files source old_source new_source sink old new (Export path volume width lines) outcome =
    (new_source ≡ old_source)
    × (((¬ IsLayout width lines) × (new ≡ old) × (outcome ≡ Err (Refused faults.BadLayout)))
    ⊎ (IsLayout width lines × ExportsFrom (place_of files path.now) sink old new
    (record { width = width; lines = lines }) volume outcome))
CarriesOut files source old_source new_source sink old new (Translate path) outcome =
    Translates (files.OpenFails ⊎ files.ReadFails) files.at source old_source new_source sink old new path.now outcome
CarriesOut files source old_source new_source sink old new (Check path) outcome =
    Checks (place_of files path.now) sink old new outcome × (new_source ≡ old_source)

-- the words ask for help, which is a text that isn't empty and is shown, or for an action, which is
-- carried out
pub data Does {D S K : Type 0} (files : Files D) (source : Source S) (old_source new_source : S)
    (sink : Sink K) (old new : K) (words : List (List ℕ)) (outcome : Outcome) : Type 0 where
  help : AskForHelp whole words → (text : List ℕ) → text ≢ [] → Says sink old new text outcome
      → new_source ≡ old_source → Does files source old_source new_source sink old new words outcome
  action : (action : Action) → NamesWithinLimits whole words action
      → CarriesOut files source old_source new_source sink old new action outcome
      → Does files source old_source new_source sink old new words outcome
