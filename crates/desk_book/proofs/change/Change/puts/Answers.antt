use Rattle.std.proofs.Common.{◌≡◌, ℕ, ◌+◌, ◌∷◌, List, Option, ap, refl, subst, sym, ◌∙◌}
use Rattle.desk_book.specs.declared.change.Effect.{Effect}
use Rattle.desk_model.specs.declared.command.Command.{Command}
use Rattle.desk_parts.specs.Puts.{RowPut}
use Rattle.desk_model.specs.Book.{Book}
use Rattle.desk_model.specs.Loans.{AreLent, LeadTo}
use Rattle.desk_book.specs.ChangePuts.{effect_puts, version_put}
use Rattle.desk_book.specs.Changes.{Carries, Change, change_by, change_puts, puts-change_by}
use Rattle.desk_book.proofs.RowPuts.LentRows.{change-lent}
use Rattle.desk_book.proofs.RowPuts.PutsLead.{change-leads}
use Rattle.desk_book.proofs.Held.Settled.{IsEffect-carried}
use Rattle.desk_model.proofs.Commands.Expecting.{version-made}
use Rattle.desk_book.proofs.change.Change.puts.Goals as goal

-- a change gives its book the version after this one
next-version : (book : Book) (command : Command) (next : Book) (version : ℕ) (number : Option ℕ) (effect : Effect) (change : Change)
    → change_by version number effect ≡ change → Carries book command next change → book.version + 1 ≡ version
next-version book command next version number effect change is carries =
    let made = IsEffect-carried book command next version number effect effect change is refl carries in
    sym (version-made book made.command next made.makes) ∙ sym made.at

pub returns-clause-these : goal.returns-clause-these
returns-clause-these c =
    let book = c.args.book.now in
    let inside = c.self.inside in
    let version = ap (λ (n : ℕ). n + 1) c.version.ensures.version ∙ next-version book c.requires.0 c.requires.1 inside.version inside.number inside.effect c.args.self.now c.self.view_is c.requires.2 in
    c.puts.ensures ∙ (ap (λ (n : ℕ). version_put n ∷ effect_puts book inside.effect) version
    ∙ (sym (puts-change_by book inside.version inside.number inside.effect) ∙ ap (change_puts book) c.self.view_is))

pub returns-clause-leads : goal.returns-clause-leads
returns-clause-leads c command next carries =
    subst (λ (puts : List RowPut). LeadTo c.args.book.now puts next) (sym (returns-clause-these c))
    (change-leads c.args.book.now next command c.args.self.now c.version.ensures.sound carries)

pub returns-clause-lent : goal.returns-clause-lent
returns-clause-lent c command next carries =
    subst (AreLent c.args.book.now next command) (sym (returns-clause-these c))
    (change-lent c.args.book.now next command c.version.ensures.sound c.args.self.now carries)

pub puts-requires-clause-does : goal.puts-requires-clause-does
puts-requires-clause-does c =
    let made = IsEffect-carried c.args.book.now c.requires.0 c.requires.1 c.self.inside.version c.self.inside.number c.self.inside.effect c.self.inside.effect c.args.self.now c.self.view_is refl c.requires.2 in
    (made.command, c.requires.1, made.does)
