use Rattle.desk_model.proofs.Commands.SomeOutcome.{one_after, one_outcome}
use Rattle.desk_model.proofs.laws.one_outcome.Goals as goal

pub returns : goal.returns
returns c = record { command = one_outcome; commands = λ book last other commands. one_after commands book last other }
