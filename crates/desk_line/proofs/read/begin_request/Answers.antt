use Rattle.std.proofs.Common.{sym}
use Rattle.desk_line.proofs.HeadLaws.{head-read}
use Rattle.desk_line.proofs.RequestLaws.{head-unsaid}
use Rattle.desk_line.proofs.read.begin_request.Goals as goal

pub returns-in_err-head : goal.returns-in_err-head
returns-in_err-head c = rw c.from_residual.ensures (head-unsaid c.args.line.now (sym c.in_err-head.ensures))

pub returns : goal.returns
returns c = head-read c.args.line.now c.in_ok-head.head (sym c.in_ok-head.ensures)
