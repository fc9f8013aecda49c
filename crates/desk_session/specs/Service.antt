-- What a session over two ends and a file does, and how it ends.
use Rattle.std.specs.Prelude.{◌≡◌, ◌≢◌, ◌⊎◌, ℕ, ◌≤◌, Bool, true, false, IsTrue, List, [], ◌++◌, length, map, Option}
use Rattle.std.specs.Io.KnownBytes.{Appends, Consumes, IsAtEnd}
use Rattle.std.specs.List.{AllByRecursion}
use Rattle.sqlite_trees.specs.Tree.{Trees}
use Rattle.sqlite_trees.specs.declared.error.StoreError.TheVariants.{OutOfMemory}
use Rattle.sqlite_trees.specs.declared.store.Store.{Ghosts}
use Rattle.sqlite.specs.declared.error.Error.{Error}
use Rattle.sqlite.specs.Held.{Held, state}
use Rattle.sqlite.specs.State.{Fails, HasCleanDisk, State, Survives, store_error}
use Rattle.sql_tables.specs.States.{Leaves}
use Rattle.desk_model.specs.After.{After}
use Rattle.desk_model.specs.Book.{Book}
use Rattle.desk_ends.specs.declared.ends.Sink.{Ghosts as Sink}
use Rattle.desk_ends.specs.declared.ends.Source.{Ghosts as Source}
use Rattle.desk_ends.specs.Ends.{IsFlushed}
use Rattle.desk_ends.specs.Limits.{most_input}
use Rattle.desk_line.specs.ReplyLines.{IsReply}
use Rattle.desk_line.specs.Request.{Requests, WholeRequests}
use Rattle.desk_store.specs.Keeping.{HoldsBook, MayServe, ShowsBook}
use Rattle.desk_rows.specs.Layout.{Layout}
use Rattle.desk_rows.specs.Statements.{FailsWith, RunInTurn, Statement, with_transaction}
use Rattle.desk_store.specs.Opened.{Stands}
use Rattle.desk_session.specs.declared.session.Ended.{Ended}
use Rattle.desk_session.specs.declared.session.Ended.TheVariants.{Done, Input, Output, Lost}
use Rattle.desk_session.specs.Requests.{FirstRequests}
use Rattle.desk_session.specs.Session.{EndsLost, GivenCommand, HoldsAcknowledged, IsSession}
use Rattle.desk_session.specs.Session.{MayGoOn, Turn, TurnsFrom, commands_of}

-- ---- over what it is held

-- The two ends of a session and its file. Of the ends, as far as they report it: what was left to
-- read before the session and is left after it, what was written before it and is written after it,
-- and what of this is flushed; and whether a read or a write can fail. Of the file: what the
-- connection showed before it and shows after it.
pub record SessionEnds : Type 1 where
  pub unread : Option (List ℕ)
  pub left : Option (List ℕ)
  pub ReadsFail : Type 0
  pub before : Option (List ℕ)
  pub written : Option (List ℕ)
  pub flushed : Option (List ℕ)
  pub WritesFail : Type 0
  pub old : State
  pub new : State

-- a source and a sink as they report it, before and after
abbrev pub ends_of : {R W : Type 0} → Source R → R → R → Sink W → W → W → State → State → SessionEnds
ends_of source read_old read_new sink write_old write_new old new = record {
  unread = source.remaining read_old;
  left = source.remaining read_new;
  ReadsFail = source.can_fail;
  before = sink.contents write_old;
  written = sink.contents write_new;
  flushed = sink.flushed write_new;
  WritesFail = sink.can_fail;
  old = old;
  new = new;
}

-- ---- what is read

-- Each request of the bytes that were read was answered: all at the end of the input, and all whole
-- ones before a failed read. Where the session ended otherwise, the first of them were.
abbrev pub AreRequests : Ended → (AtEnd : Type 0) → (read : List ℕ) → List (List ℕ) → Type 0
AreRequests Done AtEnd read requests = AtEnd × Requests read requests
AreRequests Input AtEnd read requests = WholeRequests read requests
AreRequests Output AtEnd read requests = FirstRequests AtEnd read requests
AreRequests Lost AtEnd read requests = FirstRequests AtEnd read requests

-- ---- what is written

-- of a reply that was taken, all went out, and of another one a beginning, but not all
abbrev pub IsPart : (taken : Bool) → (piece reply : List ℕ) → Type 0
IsPart true piece reply = piece ≡ reply
IsPart false piece reply = (rest : List ℕ) × (rest ≢ []) × (piece ++ rest ≡ reply)

-- what goes out of the reply to a request, on the book after it
abbrev pub GoesOut : Turn → Book → List ℕ → Type 0
GoesOut turn next piece =
    (reply : List ℕ) × IsReply next turn.answer reply × IsPart turn.taken piece reply

-- What is written in a session from one book to another: the replies one after another.
abbrev pub IsWritten : Book → List Turn → List ℕ → Book → Type 0
IsWritten = TurnsFrom GoesOut

-- ---- how it ends

-- each reply was taken and no command was lost; or a write failed, but no command was lost; or one
-- was lost
abbrev pub EndsAs : Ended → List Turn → Type 0
EndsAs Done turns = AllByRecursion MayGoOn turns
EndsAs Input turns = AllByRecursion MayGoOn turns
EndsAs Output turns = ¬ EndsLost turns
EndsAs Lost turns = EndsLost turns

-- it ends early only where so many bytes were read, where an end can fail, or where a command was
-- lost
abbrev pub IsHonest : Ended → (read : ℕ) → SessionEnds → Type 0
IsHonest Done read ends = Unit {0}
IsHonest Input read ends = ends.ReadsFail ⊎ (most_input ≤ read)
IsHonest Output read ends = ends.WritesFail
IsHonest Lost read ends = Unit {0}

-- All replies are flushed, unless a write or a flush failed. If a command was lost, the writer has
-- taken the whole reply to each request, including the one that reports the loss, and all are
-- flushed, or the writer can fail.
abbrev pub EndsFlushed : Ended → List Turn → SessionEnds → Type 0
EndsFlushed Done turns ends = (turns ≡ []) ⊎ IsFlushed ends.written ends.flushed
EndsFlushed Input turns ends = (turns ≡ []) ⊎ IsFlushed ends.written ends.flushed
EndsFlushed Output turns ends = Unit {0}
EndsFlushed Lost turns ends =
    (AllByRecursion (λ turn. turn.taken ≡ true) turns × IsFlushed ends.written ends.flushed) ⊎ ends.WritesFail

-- ---- what is in the file

-- what of the given commands a file may lack: none, or the last one where that was lost
abbrev pub MayLack : Ended → List GivenCommand → Type 0
MayLack Done missing = missing ≡ []
MayLack Input missing = missing ≡ []
MayLack Output missing = missing ≡ []
MayLack Lost missing = length missing ≤ 1

-- the trees are a file of the book that the given commands make from the first one, except what it
-- may lack
pub record HoldsGiven (l : Layout) (book : Book) (ended : Ended) (given : List GivenCommand) (db : Trees)
    : Type 0 where
  pub kept : List GivenCommand
  pub missing : List GivenCommand
  pub front : given ≡ kept ++ missing
  pub lacks : MayLack ended missing
  pub next : Book
  pub after : After book (commands_of kept) next
  pub holds : HoldsBook l next db

-- The connection shows the last book; after a loss, if the connection is still open. Whatever a
-- crash leaves holds the given commands.
pub record IsLeft (l : Layout) (book last : Book) (ended : Ended) (given : List GivenCommand) (s : State)
    : Type 0 where
  pub shows : (ended ≢ Lost) ⊎ IsTrue s.is_open → ShowsBook l last s
  pub leaves : Leaves (HoldsGiven l book ended given) s

-- ---- to which error the loss of a command is put down

-- In a transaction that began on a connection some statements ran in turn. Then the database
-- answered the error to the next one, or it is that of a failed allocation, and a crash leaves
-- nothing new; or the database answered it to the commit, and a crash leaves nothing new but what
-- the statements made. If the file showed the book and kept it before the session, it showed and
-- kept the last book when that transaction began, and a connection that is still open shows what it
-- showed then.
pub record LosesCommand {S : Type 0} (g : Ghosts S) (book last : Book) (old : State) (new : State) : Type 0 where
  pub before : Held S
  pub serves : (l : Layout) → MayServe l book old → MayServe l last (state g before)
  pub done : List Statement
  pub inside : Held S
  pub ran : RunInTurn g done (with_transaction before) inside
  pub error : Error
  pub fails : ((((it : Statement) × (after : Held S) × FailsWith it (state g inside) (state g after) error)
      ⊎ (error ≡ store_error OutOfMemory)) × Survives (state g inside) new (λ _. ⊥))
      ⊎ (Fails (state g inside) new ⊥ error
      × Survives (state g inside) new (λ db. db ≡ (state g inside).now.trees))
  pub as_before : IsTrue new.is_open → new.now ≡ (state g before).now

-- ---- the whole

-- A session from one book to another, over ends and a file. There is one list of turns, and of what
-- these gave, that fits what was read, what was written, the book at the end, and the file.
pub record Serves (book last : Book) (ended : Ended) (over : SessionEnds) : Type 0 where
  pub read : List ℕ
  pub output : List ℕ
  pub turns : List Turn
  pub given : List GivenCommand
  pub consumes : Consumes over.unread over.left read
  pub requests : AreRequests ended (IsAtEnd over.left) read (map (λ turn. turn.request) turns)
  pub session : IsSession book turns given last
  pub written : IsWritten book turns output last
  pub appends : Appends over.before over.written output
  pub ends : EndsAs ended turns
  pub honest : IsHonest ended (length read) over
  pub flushed : EndsFlushed ended turns over
  pub left : HasCleanDisk over.new → (l : Layout) → MayServe l book over.old
      → IsLeft l book last ended given over.new

-- What a session left in its file is found there: the book after the first of the given commands,
-- with all that were acknowledged and at most one more.
pub record IsFoundAfter (l : Layout) (book : Book) (turns : List Turn) (given : List GivenCommand) (s : State)
    : Type 0 where
  pub kept : List GivenCommand
  pub holds : HoldsAcknowledged (record { turns = turns; given = given; kept = kept })
  pub next : Book
  pub after : After book (commands_of kept) next
  pub stands : Stands l next s
