use Rattle.std.proofs.Common.{ap, sym, ◌∙◌}
use Rattle.desk_line.specs.Fields.{fields_in_rest}
use Rattle.desk_line.specs.ReadingSteps.{first_and_others}
use Rattle.desk_line.proofs.fields.Fields.split.Goals as goal

pub returns : goal.returns
returns c = sym (ap first_and_others (sym c.self.view_is ∙ (ap fields_in_rest c.in_ok-self.was ∙ c.split_line.ensures)))
