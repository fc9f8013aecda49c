use Rattle.std.proofs.Common.{refl}
use Rattle.desk_model.specs.declared.command.Command.TheVariants.{Volume}
use Rattle.desk_model.specs.Book.{Paragraph}
use Rattle.desk_model.specs.Ranks.{rank}
use Rattle.desk_model.specs.declared.refusal.Refusal.TheVariants.{NoTable}
use Rattle.desk_book.proofs.Plans.FlagPlanning.{flags_planned}
use Rattle.desk_book.proofs.Plans.Planning.{past_named}
use Rattle.desk_book.proofs.book.Book.plan_volume.Goals as goal

pub returns-clause-planned : goal.returns-clause-planned
returns-clause-planned c =
    let held = c.in_ok-paragraph.ensures.found in
    flags_planned c.args.self.now (Volume c.args.id c.args.begins) c.args.id _ held (λ (p : Paragraph). record p { begins_volume = c.args.begins }) refl (tt, tt, tt) refl
    (rank NoTable) (past_named c.args.self.now (Volume c.args.id c.args.begins) c.args.id _ held refl refl) refl refl c.in_ok-check_version.ensures.left _ _ _ refl
