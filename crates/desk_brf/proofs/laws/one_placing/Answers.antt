use Rattle.desk_brf.proofs.ExistLemmas.{one_placing}
use Rattle.desk_brf.proofs.laws.one_placing.Goals as goal

pub returns : goal.returns
returns c = one_placing
