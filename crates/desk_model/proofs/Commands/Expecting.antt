-- Commands for which a version is expected.
use Rattle.std.proofs.Common.{◌≡◌, ℕ, ◌+◌, Option, None, ap, arith}
use Rattle.desk_model.specs.declared.command.Command.{Command}
use Rattle.desk_model.specs.declared.command.Command.TheVariants.{Table, Undo, Mark}
use Rattle.desk_model.specs.declared.refusal.Refusal.{Refusal}
use Rattle.desk_model.specs.declared.refusal.Refusal.TheVariants.{Moved}
use Rattle.desk_model.specs.Book.{Book}
use Rattle.desk_model.specs.Refusals.{Holds, IsAccepted, IsMoved, IsRefused}
use Rattle.desk_model.specs.NextBook.{Makes}

pub moved : (book : Book) (expect : Option ℕ) (command : Command) (version : ℕ) → IsMoved book expect version → IsRefused book expect command (Moved version)
moved book expect command version is = record { holds = is; first = λ other h. omega arith }

-- if the book has the expected version, a command is checked as without one
module _ (book : Book) (expect : Option ℕ) (command : Command) (same : (version : ℕ) → ¬ IsMoved book expect version) where
  holds-unexpected : (refusal : Refusal) → Holds book expect command refusal → Holds book None command refusal
  holds-unexpected (Moved version) h = absurd (same version h)
  holds-unexpected other h = h

  pub holds-expected : (refusal : Refusal) → Holds book None command refusal → Holds book expect command refusal
  holds-expected (Moved version) h = cc h.given
  holds-expected other h = h

  pub accepted-expected : IsAccepted book None command → IsAccepted book expect command
  accepted-expected accepted refusal h = accepted refusal (holds-unexpected refusal h)

-- ---- what an accepted command makes

pub version-made : (book : Book) (command : Command) (next : Book) → Makes book command next → next.version ≡ book.version + 1
version-made book (Table name text) next is = ap (λ (b : Book). b.version) is
version-made book (Undo id) next (n, r, newest, is) = ap (λ (b : Book). b.version) is
version-made book (Mark id cell count note) next (start, end, marked, is) = ap (λ (b : Book). b.version) is
version-made book command next is = ap (λ (b : Book). b.version) is
