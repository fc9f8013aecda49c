use Rattle.cell_core.proofs.DigitsAreDots.{same_from_dots}
use Rattle.cell_core.proofs.laws.one_set_of_dots.Goals as goal

pub returns : goal.returns
returns c = same_from_dots
