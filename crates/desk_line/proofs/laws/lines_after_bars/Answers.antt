use Rattle.desk_line.proofs.ReplyLines.{after-bars}
use Rattle.desk_line.proofs.laws.lines_after_bars.Goals as goal

pub returns : goal.returns
returns c = after-bars
