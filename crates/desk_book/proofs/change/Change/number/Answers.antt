use Rattle.std.proofs.Common.{ap, sym, ◌∙◌}
use Rattle.desk_book.specs.Changes.{Change, number-change_by}
use Rattle.desk_book.proofs.change.Change.number.Goals as goal

pub returns : goal.returns
returns c = sym (number-change_by _ _ _) ∙ ap (λ (change : Change). change.number) c.self.view_is
