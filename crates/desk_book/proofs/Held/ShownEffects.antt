-- What is so of an effect on a book, of the parts that are held of it.
use Rattle.std.proofs.Common.{◌≡◌, ℕ, List, None, subst, sym}
use Rattle.desk_book.specs.declared.change.Effect.{Effect}
use Rattle.desk_memory.specs.declared.marks.HeldMark.{HeldMark}
use Rattle.desk_model.specs.declared.command.Command.{Command}
use Rattle.desk_model.specs.Book.{Book}
use Rattle.desk_book.specs.Changes.{IsEffect}
use Rattle.desk_memory.specs.Held.{HeldParagraphs, HeldTables, IsHeld, book_held}
use Rattle.desk_model.specs.Refusals.{IsAccepted}
use Rattle.desk_model.specs.NextBook.{Makes}

-- it is one on the book that is held
pub as_held : (version : ℕ) (tables : HeldTables) (paragraphs : HeldParagraphs) (marks : List HeldMark) (book : Book)
    → book_held version tables paragraphs marks ≡ book → IsHeld version tables paragraphs marks
    → (at : ℕ) (effect : Effect) (next : Book) → IsEffect book at effect next → IsEffect (book_held version tables paragraphs marks) at effect next
as_held version tables paragraphs marks book is facts at effect next given = subst (λ (b : Book). IsEffect b at effect next) (sym is) given

-- its command is accepted, and makes the next book
module _ {book next : Book} {at : ℕ} {effect : Effect} (here : IsEffect book at effect next) {command : Command} (same : here.command ≡ command) where
  pub makes-by : Makes book command next
  makes-by = subst (λ (c : Command). Makes book c next) same here.makes

  pub accepted-by : IsAccepted book None command
  accepted-by = subst (λ (c : Command). IsAccepted book None c) same here.accepted
