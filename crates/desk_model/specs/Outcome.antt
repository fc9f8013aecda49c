-- What comes of a command.
use Rattle.std.specs.Prelude.{◌≡◌, ℕ, ◌⊎◌, Option}
use Rattle.desk_model.specs.declared.command.Command.{Command}
use Rattle.desk_model.specs.declared.refusal.Refusal.{Refusal}
use Rattle.desk_model.specs.Book.{Book}
use Rattle.desk_model.specs.Refusals.{IsAccepted, IsRefused}
use Rattle.desk_model.specs.NextBook.{Makes}

-- just one refusal is reported of the command
pub record HasOneRefusal (book : Book) (expect : Option ℕ) (command : Command) : Type 0 where
  pub refusal : Refusal
  pub reported : IsRefused book expect command refusal
  pub only : (other : Refusal) → IsRefused book expect command other → other ≡ refusal

-- no refusal holds of the command, and it makes just one book
pub record MakesOneBook (book : Book) (expect : Option ℕ) (command : Command) : Type 0 where
  pub accepted : IsAccepted book expect command
  pub next : Book
  pub makes : Makes book command next
  pub only : (other : Book) → Makes book command other → other ≡ next

-- the command is refused in one way, or makes one book
abbrev pub HasOneOutcome : Book → Option ℕ → Command → Type 0
HasOneOutcome book expect command =
    HasOneRefusal book expect command ⊎ MakesOneBook book expect command
