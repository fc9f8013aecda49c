use Rattle.desk_line.proofs.CutLaws.{cut-one, cut-some}
use Rattle.desk_line.proofs.laws.one_cut.Goals as goal

pub returns-clause-some : goal.returns-clause-some
returns-clause-some c = cut-some

pub returns-clause-one : goal.returns-clause-one
returns-clause-one c = cut-one
