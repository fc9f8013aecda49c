-- The checks of a command, one rank after the other.
use Rattle.std.specs.Prelude.{◌≡◌, ℕ, ◌≤◌, Option, Some}
use Rattle.desk_model.specs.declared.command.Command.{Command}
use Rattle.desk_model.specs.declared.refusal.Refusal.{Refusal}
use Rattle.desk_model.specs.Book.{Book}
use Rattle.desk_model.specs.Named.{named_by}
use Rattle.desk_model.specs.Refusals.{Holds}
use Rattle.desk_model.specs.Ranks.{rank}

-- no refusal of a rank below n holds
abbrev pub Passes : Book → Option ℕ → Command → ℕ → Type 0
Passes book expect command n = (other : Refusal) → Holds book expect command other → n ≤ rank other

-- an allocation for the command may have failed: it allocates, and no refusal holds that is checked
-- before
pub record MayLackMemory (book : Book) (expect : Option ℕ) (command : Command) : Type 0 where
  pub from : ℕ
  pub asks : (named_by command).rank_after_asking ≡ Some from
  pub passes : Passes book expect command from
