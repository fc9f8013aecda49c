use Rattle.desk_model.proofs.Commands.Histories.{After-append}
use Rattle.desk_model.proofs.laws.histories_in_parts.Goals as goal

pub returns : goal.returns
returns c = After-append
