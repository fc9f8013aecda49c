-- Books after commands.
use Rattle.std.specs.Prelude.{◌≡◌, List, [], ◌∷◌, None}
use Rattle.desk_model.specs.declared.command.Command.{Command}
use Rattle.desk_model.specs.Book.{Book}
use Rattle.desk_model.specs.Refusals.{IsAccepted}
use Rattle.desk_model.specs.NextBook.{Makes}

-- the commands, accepted one after the other from this book on, lead to the other book
abbrev pub After : Book → List Command → Book → Type 0
After book [] last = last ≡ book
After book (command ∷ commands) last =
    IsAccepted book None command × ((next : Book) × Makes book command next × After next commands last)
