use Rattle.desk_brf.proofs.WholeWords.{nothing_lost}
use Rattle.desk_brf.proofs.laws.whole_placing.Goals as goal

pub returns : goal.returns
returns c = nothing_lost
