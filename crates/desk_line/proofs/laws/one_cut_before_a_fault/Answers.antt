use Rattle.desk_line.proofs.CutLaws.{whole-cut-first, whole-cut-one, whole-cut-some}
use Rattle.desk_line.proofs.laws.one_cut_before_a_fault.Goals as goal

pub returns-clause-some : goal.returns-clause-some
returns-clause-some c = whole-cut-some

pub returns-clause-one : goal.returns-clause-one
returns-clause-one c = whole-cut-one

pub returns-clause-first : goal.returns-clause-first
returns-clause-first c = whole-cut-first
