use Rattle.desk_model.proofs.Commands.Undone.{RestoresPrint-undo}
use Rattle.desk_model.proofs.laws.undo_restores_the_print.Goals as goal

pub returns : goal.returns
returns c = λ book next id sound accepted makes. RestoresPrint-undo book next id sound makes
