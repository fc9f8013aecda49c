use Rattle.std.proofs.Common.{refl}
use Rattle.desk_line.specs.Request.{said, unsaid}
use Rattle.desk_line.proofs.read.lines_after.Goals as goal

pub returns-in-Some : goal.returns-in-Some
returns-in-Some c = said c.in-Some.head c.in-Some.ensures c.lines_after.ensures

pub returns-in-None : goal.returns-in-None
returns-in-None c = unsaid c.in-None.ensures refl
