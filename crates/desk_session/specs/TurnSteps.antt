-- One turn of a session. Only private functions and proofs need these words.
use Rattle.std.specs.Prelude.{◌≡◌, ℕ, Bool, true, false, IsTrue, List, Option}
use Rattle.std.specs.Io.KnownBytes.{Appends}
use Rattle.sqlite_trees.specs.declared.store.Store.{Ghosts}
use Rattle.sqlite.specs.declared.error.Error.{Error}
use Rattle.sqlite.specs.Held.{Held, state}
use Rattle.sqlite.specs.State.{HasCleanDisk, State}
use Rattle.desk_model.specs.declared.command.Command.{Command}
use Rattle.sql_tables.specs.States.{ShowsAsBefore}
use Rattle.desk_model.specs.Book.{Book}
use Rattle.desk_model.specs.Refusals.{IsAccepted}
use Rattle.desk_model.specs.NextBook.{Makes}
use Rattle.std.specs.Prelude.{None}
use Rattle.desk_ends.specs.Ends.{IsFlushed}
use Rattle.desk_line.specs.declared.answer.Answer.{Answer}
use Rattle.desk_line.specs.declared.answer.Answer.TheVariants.{Done, Refused, Asked, Syntax, NoMemory, Lost}
use Rattle.desk_line.specs.Answered.{IsAnswered}
use Rattle.desk_line.specs.ReplyLines.{IsReply}
use Rattle.desk_book.specs.Changes.{Change}
use Rattle.desk_store.specs.Keeping.{FailsToKeep, LeadsTo, LeavesEither, MayServe, ShowsBook}
use Rattle.desk_rows.specs.Layout.{Layout}
use Rattle.desk_session.specs.Service.{IsPart}
use Rattle.desk_session.specs.Session.{IsCommand}

-- A command was lost: whatever a crash leaves holds the book, or the next one that the command
-- makes, and a connection that is still open shows the book.
pub record LeavesLost (l : Layout) (request : List ℕ) (book : Book) (s : State) : Type 0 where
  pub command : Command
  pub made : Book
  pub asked : IsCommand request command
  pub accepted : IsAccepted book None command
  pub makes : Makes book command made
  pub leaves : LeavesEither l book made s
  pub shows : IsTrue s.is_open → ShowsBook l book s

-- Why a command was lost: keeping a change that leads on from the book failed. A connection that is
-- still open shows what it showed before.
pub record LosesChange {S : Type 0} (g : Ghosts S) (book : Book) (old : Held S) (new : State) : Type 0 where
  pub change : Change
  pub next : Book
  pub leads : LeadsTo book change next
  pub error : Error
  pub fails : FailsToKeep g book change old new error
  pub as_before : ShowsAsBefore (state g old) new

-- what the file is after a request was answered so, and this is the book after it
abbrev pub LeftBy : Layout → List ℕ → (book next : Book) → Answer → State → Type 0
LeftBy l request book next (Done number) s = MayServe l next s
LeftBy l request book next (Refused refusal) s = MayServe l next s
LeftBy l request book next (Asked query) s = MayServe l next s
LeftBy l request book next Syntax s = MayServe l next s
LeftBy l request book next NoMemory s = MayServe l next s
LeftBy l request book next Lost s = LeavesLost l request book s

-- a request was answered so, and the file is as it is then
pub record TakesTurn (request : List ℕ) (book next : Book) (answer : Answer) (old new : State) : Type 0 where
  pub answered : IsAnswered request book next answer
  pub clean : HasCleanDisk new → HasCleanDisk old
  pub left : HasCleanDisk new → (l : Layout) → MayServe l book old → LeftBy l request book next answer new

-- A reply, or a beginning of it, was written. At true it was taken, and is flushed.
pub record SendsReply (CanFail : Type 0) (old new flushed : Option (List ℕ)) (book : Book) (answer : Answer)
    (whole : Bool) : Type 0 where
  pub taken : Bool
  pub reply : List ℕ
  pub piece : List ℕ
  pub is : IsReply book answer reply
  pub part : IsPart taken piece reply
  pub appends : Appends old new piece
  pub all : whole ≡ true → (taken ≡ true) × IsFlushed new flushed
  pub fails : whole ≡ false → CanFail
