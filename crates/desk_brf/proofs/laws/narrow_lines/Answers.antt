use Rattle.desk_brf.proofs.EachLine.{each_line}
use Rattle.desk_brf.proofs.laws.narrow_lines.Goals as goal

pub returns : goal.returns
returns c = each_line
