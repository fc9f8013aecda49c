use Rattle.desk_ends.proofs.OneLine.{fed-first, lone-line}
use Rattle.desk_ends.proofs.laws.first_line.Goals as goal

pub returns : goal.returns
returns c = record { fed = fed-first; last = lone-line }
