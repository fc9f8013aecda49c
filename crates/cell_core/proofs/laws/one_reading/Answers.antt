use Rattle.cell_core.proofs.DotsLaws.{same_from_Dots}
use Rattle.cell_core.proofs.laws.one_reading.Goals as goal

pub returns : goal.returns
returns c = same_from_Dots
