-- Books after one list of commands and later another.
use Rattle.std.proofs.Common.{◌↔◌, List, [], ◌∷◌, ◌++◌, refl, subst}
use Rattle.desk_model.specs.declared.command.Command.{Command}
use Rattle.desk_model.specs.After.{After}
use Rattle.desk_model.specs.Book.{Book}

After-split : (u v : List Command) (book last : Book) → After book (u ++ v) last → (middle : Book) × After book u middle × After middle v last
After-split [] v book last h = (book, refl, h)
After-split (command ∷ u) v book last (accepted, later) =
    let rest = After-split u v later.0 last later.2 in
    (rest.0, (accepted, (later.0, later.1, rest.1)), rest.2)

After-joined : (u v : List Command) (book middle last : Book) → After book u middle → After middle v last → After book (u ++ v) last
After-joined [] v book middle last e h = subst (λ (b : Book). After b v last) e h
After-joined (command ∷ u) v book middle last (accepted, later) g = (accepted, (later.0, later.1, After-joined u v later.0 middle last later.2 g))

pub After-append : (book last : Book) (u v : List Command) → After book (u ++ v) last ↔ ((middle : Book) × After book u middle × After middle v last)
After-append book last u v = (After-split u v book last, λ h. After-joined u v book h.0 last h.1 h.2)
