use Rattle.std.proofs.Common.{◌≡◌, ◌+◌, ℕ, sym, ap, ◌∙◌}
use Rattle.desk_model.specs.Book.{Book}
use Rattle.desk_book.specs.Changes.{Carries-change_by}
use Rattle.desk_model.proofs.Commands.Expecting.{accepted-expected, version-made}
use Rattle.desk_book.proofs.book.Book.plan.Goals as goal

pub returns-clause-accepted : goal.returns-clause-accepted
returns-clause-accepted c =
    let book = c.args.self.now in
    let planned = c.in_ok-effect.ensures.planned in
    let is : c.self.inside.version ≡ book.version = ap (λ (b : Book). b.version) c.self.view_is in (
      accepted-expected book c.args.expect c.args.command.now c.in_ok-check_expected.ensures.same planned.0,
      (
        planned.1.0,
        Carries-change_by book c.args.command.now planned.1.0 _ _ _ planned.0 planned.2 planned.1.1
            (ap (λ (n : ℕ). n + 1) is ∙ sym (version-made book c.args.command.now planned.1.0 planned.1.1)) c.number.ensures planned.1.2,
      ),
    )
