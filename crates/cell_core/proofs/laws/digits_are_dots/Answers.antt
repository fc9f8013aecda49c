use Rattle.cell_core.proofs.DigitsAreDots.{digits_are_dots}
use Rattle.cell_core.proofs.laws.digits_are_dots.Goals as goal

pub returns : goal.returns
returns c = digits_are_dots
