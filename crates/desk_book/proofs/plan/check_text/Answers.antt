use Rattle.std.proofs.Common.{◌≡◌, Some, None, refl, sym, ap, ◌∙◌}
use Rattle.std.specs.List.{position}
use Rattle.desk_model.specs.BookTexts.{is_barred}
use Rattle.desk_model.proofs.Commands.TextTests.{IsUnbarred-position, IsFirstBarred-position}
use Rattle.desk_book.proofs.plan.check_text.Goals as goal

pub returns-in-Some-clause-barred : goal.returns-in-Some-clause-barred
returns-in-Some-clause-barred c =
    let found : position is_barred c.args.text.now ≡ Some c.in-Some.place = ap (position is_barred) (sym c.as_str.ensures) ∙ sym c.in-Some.ensures in
    (c.in-Some.place, refl, IsFirstBarred-position c.args.text.now c.in-Some.place found)

pub returns-in-None-clause-unbarred : goal.returns-in-None-clause-unbarred
returns-in-None-clause-unbarred c =
    let none : position is_barred c.args.text.now ≡ None = ap (position is_barred) (sym c.as_str.ensures) ∙ sym c.in-None.ensures in
    IsUnbarred-position c.args.text.now none
