-- Sessions: what was asked of a book, what became of it, and which of the commands a file has to
-- keep.
use Rattle.std.specs.Prelude.{◌≡◌, ◌≢◌, ◌⊎◌, ◌≤◌, ℕ, Bool, true, false, List, [], ◌∷◌, ◌++◌, length, map, Option}
use Rattle.std.specs.List.{All, flat_map}
use Rattle.desk_model.specs.declared.command.Command.{Command}
use Rattle.desk_model.specs.After.{After}
use Rattle.desk_model.specs.Book.{Book}
use Rattle.desk_line.specs.declared.answer.Answer.{Answer}
use Rattle.desk_line.specs.declared.answer.Answer.TheVariants.{Done, Refused, Asked, Syntax, NoMemory, Lost}
use Rattle.desk_line.specs.declared.request.Request.TheVariants.{Do}
use Rattle.desk_line.specs.Answered.{IsAnswered}
use Rattle.desk_line.specs.Request.{Reads}

-- a request that was read, what was answered to it, and whether the writer has taken the whole
-- reply
pub record Turn : Type 0 where
  pub request : List ℕ
  pub answer : Answer
  pub taken : Bool

-- a command that a session gave to its book, and whether it was acknowledged
pub record GivenCommand : Type 0 where
  pub command : Command
  pub acknowledged : Bool

-- the request is this command
abbrev pub IsCommand : List ℕ → Command → Type 0
IsCommand request command = (expect : Option ℕ) × Reads request (Do command expect)

-- What a request gives by its answer: an accepted command is acknowledged once its whole `ok` line
-- is taken; one that the store lost is given too, but never acknowledged. Refused commands, those
-- for which an allocation failed, queries and what isn't a request give nothing.
abbrev pub GivesCommands : Turn → Answer → List GivenCommand → Type 0
GivesCommands turn (Done number) given =
    (command : Command) × IsCommand turn.request command
    × (given ≡ record { command = command; acknowledged = turn.taken } ∷ [])
GivesCommands turn Lost given =
    (command : Command) × IsCommand turn.request command
    × (given ≡ record { command = command; acknowledged = false } ∷ [])
GivesCommands turn (Refused refusal) given = given ≡ []
GivesCommands turn (Asked query) given = given ≡ []
GivesCommands turn Syntax given = given ≡ []
GivesCommands turn NoMemory given = given ≡ []

-- a reply that isn't taken whole, and a store that is lost, end the session
pub record MayGoOn (turn : Turn) : Type 0 where
  pub taken : turn.taken ≡ true
  pub held : turn.answer ≢ Lost

-- The turns of a session that began with this book: each request is answered on the book that the
-- turns before it made, and all but the last turn go on. Each adds something, by the book after it,
-- to what all of them make, and this book is held at the end.
abbrev pub TurnsFrom : {X : Type 0} → (Turn → Book → List X → Type 0)
    → Book → List Turn → List X → Book → Type 0
TurnsFrom Adds book [] made last = (made ≡ []) × (last ≡ book)
TurnsFrom {X} Adds book (turn ∷ turns) made last =
    (next : Book) × IsAnswered turn.request book next turn.answer
    × ((turns ≡ []) ⊎ MayGoOn turn)
    × ((first others : List X) × Adds turn next first × (made ≡ first ++ others)
    × TurnsFrom Adds next turns others last)

-- These commands were given by the turns. The book at the end is without a command that was lost.
abbrev pub IsSession : Book → List Turn → List GivenCommand → Book → Type 0
IsSession = TurnsFrom (λ turn next given. GivesCommands turn turn.answer given)

-- the commands of what was given
abbrev pub commands_of : List GivenCommand → List Command
commands_of given = map (λ one. one.command) given

-- the last turn is one whose command the store failed to keep
abbrev pub EndsLost : List Turn → Type 0
EndsLost [] = ⊥
EndsLost (turn ∷ []) = turn.answer ≡ Lost
EndsLost (turn ∷ next ∷ turns) = EndsLost (next ∷ turns)

-- The book held at the end of a session has all that was given, but where the last command was
-- lost: without that one.
pub record IsHeld (book : Book) (turns : List Turn) (given : List GivenCommand) (last : Book) : Type 0 where
  pub held : List GivenCommand
  pub lost : List GivenCommand
  pub front : given ≡ held ++ lost
  pub which : ((¬ EndsLost turns) × (lost ≡ [])) ⊎ (EndsLost turns × (length lost ≡ 1))
  pub after : After book (commands_of held) last

-- all of these were acknowledged, except the last one at most
pub record AllButOne (given : List GivenCommand) : Type 0 where
  pub sure : List GivenCommand
  pub more : List GivenCommand
  pub front : given ≡ sure ++ more
  pub all : All (λ one. one.acknowledged ≡ true) sure
  pub one : length more ≤ 1

-- a session, the commands that it gave, and the first of these, which its file kept
pub record SessionRecord : Type 0 where
  pub turns : List Turn
  pub given : List GivenCommand
  pub kept : List GivenCommand

-- what was kept is a front of what was given that holds all that was acknowledged
pub record HoldsAcknowledged (lived : SessionRecord) : Type 0 where
  pub lost : List GivenCommand
  pub front : lived.given ≡ lived.kept ++ lost
  pub unacknowledged : All (λ one. one.acknowledged ≡ false) lost

-- Sessions one after another, the first of which begins with this book. After each the book is
-- found that its kept commands make of the one it began with, and the one after it begins with
-- that. The last book is found after all of them.
abbrev pub IsLife : Book → List SessionRecord → Book → Type 0
IsLife book [] found = found ≡ book
IsLife book (lived ∷ later) found =
    ((last : Book) × IsSession book lived.turns lived.given last) × HoldsAcknowledged lived
    × ((next : Book) × After book (commands_of lived.kept) next × IsLife next later found)

-- the commands that all these sessions kept, in order
abbrev pub kept_commands : List SessionRecord → List Command
kept_commands sessions = flat_map (λ lived. commands_of lived.kept) sessions

-- the turn gave this: it was done, and its reply was taken or not, or the store failed to keep it
pub data IsGivenBy (turn : Turn) (one : GivenCommand) : Type 0 where
  done : (number : Option ℕ) → turn.answer ≡ Done number → IsCommand turn.request one.command
      → one.acknowledged ≡ turn.taken → IsGivenBy turn one
  lost : turn.answer ≡ Lost → IsCommand turn.request one.command → one.acknowledged ≡ false
      → IsGivenBy turn one
