use Rattle.std.proofs.Common.{true, refl}
use Rattle.desk_model.specs.declared.command.Command.TheVariants.{Strike}
use Rattle.desk_model.specs.Book.{Paragraph}
use Rattle.desk_model.specs.Ranks.{rank}
use Rattle.desk_model.specs.declared.refusal.Refusal.TheVariants.{NoTable, NotStruck, Struck}
use Rattle.desk_model.proofs.Commands.Ranks.{to_rank}
use Rattle.desk_book.proofs.Plans.FlagPlanning.{flags_planned}
use Rattle.desk_book.proofs.Plans.Planning.{past_named, past_struck}
use Rattle.desk_book.proofs.book.Book.plan_strike.Goals as goal

pub returns-clause-planned : goal.returns-clause-planned
returns-clause-planned c =
    let held = c.in_ok-paragraph.ensures.found in
    let named = to_rank c.args.self.now (Strike c.args.id) (rank NoTable) (rank Struck) refl (past_named c.args.self.now (Strike c.args.id) c.args.id _ held refl refl) in
    flags_planned c.args.self.now (Strike c.args.id) c.args.id _ held (λ (p : Paragraph). record p { struck = true }) refl (tt, tt, tt) refl
    (rank NotStruck) (past_struck c.args.self.now (Strike c.args.id) c.args.id _ held named refl c.if-paragraph.false) refl refl c.in_ok-check_version.ensures.left _ _ _ refl
