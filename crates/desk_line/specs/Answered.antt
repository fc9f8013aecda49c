-- What is answered to a request, and the reply to it.
use Rattle.std.specs.Prelude.{◌≡◌, ℕ, List, Option}
use Rattle.desk_model.specs.declared.command.Command.{Command}
use Rattle.desk_model.specs.declared.refusal.Refusal.{Refusal}
use Rattle.desk_model.specs.declared.refusal.Refusal.TheVariants as refusals
use Rattle.desk_model.specs.Book.{Book}
use Rattle.desk_model.specs.Judging.{MayLackMemory}
use Rattle.desk_model.specs.Named.{number_of}
use Rattle.desk_model.specs.Refusals.{IsAccepted, IsRefused}
use Rattle.desk_model.specs.NextBook.{Makes}
use Rattle.desk_line.specs.declared.answer.Answer.{Answer}
use Rattle.desk_line.specs.declared.answer.Answer.TheVariants as answers
use Rattle.desk_line.specs.declared.request.Query.{Query}
use Rattle.desk_line.specs.declared.request.Request.TheVariants.{Do, Ask}
use Rattle.desk_line.specs.ReplyLines.{IsReply}
use Rattle.desk_line.specs.Request.{AsksForMemory, IsNoRequest, Reads}

-- a request of these bytes to a book is answered so, and this is the book after it: the next one
-- with a command's own number if it is accepted, and else the same, also if the store failed to
-- keep what the command makes. An allocation may fail while the lines after a command's head line
-- are read, whatever they are, or while the command is planned
pub data IsAnswered (bytes : List ℕ) (book next : Book) (answer : Answer) : Type 0 where
  accepted : (command : Command) (expect : Option ℕ) → Reads bytes (Do command expect) → IsAccepted book expect command
      → Makes book command next → answer ≡ answers.Done (number_of book command) → IsAnswered bytes book next answer
  refused : (command : Command) (expect : Option ℕ) (refusal : Refusal) → Reads bytes (Do command expect)
      → IsRefused book expect command refusal → next ≡ book → answer ≡ answers.Refused refusal
      → IsAnswered bytes book next answer
  asked : (query : Query) → Reads bytes (Ask query) → next ≡ book → answer ≡ answers.Asked query
      → IsAnswered bytes book next answer
  no_request : IsNoRequest bytes → next ≡ book → answer ≡ answers.Syntax → IsAnswered bytes book next answer
  unread : AsksForMemory bytes → next ≡ book → answer ≡ answers.NoMemory → IsAnswered bytes book next answer
  unplanned : (command : Command) (expect : Option ℕ) → Reads bytes (Do command expect)
      → MayLackMemory book expect command
      → next ≡ book → answer ≡ answers.Refused refusals.NoMemory → IsAnswered bytes book next answer
  lost : (command : Command) (expect : Option ℕ) (made : Book) → Reads bytes (Do command expect)
      → IsAccepted book expect command
      → Makes book command made → next ≡ book → answer ≡ answers.Lost → IsAnswered bytes book next answer

-- this text is replied to a request of these bytes to a book, and this is the book after it
pub record Replies (bytes : List ℕ) (book next : Book) (text : List ℕ) : Type 0 where
  pub answer : Answer
  pub answered : IsAnswered bytes book next answer
  pub reply : IsReply next answer text
