use Rattle.desk_line.proofs.RequestLaws.{first-head, first-none}
use Rattle.desk_line.proofs.read.read_request.Goals as goal

pub returns : goal.returns
returns c =
    c.finish.ensures.reads c.args.bytes.now
    (first-head c.args.bytes.now c.split_line.result.0.now c.split_line.result.1.now c.in_ok-begin_request.field-0 c.split_line.ensures.line c.split_line.ensures.rest c.in_ok-begin_request.ensures)

pub returns-in_err-begin_request : goal.returns-in_err-begin_request
returns-in_err-begin_request c =
    rw c.from_residual.ensures (first-none c.args.bytes.now c.split_line.result.0.now c.split_line.ensures.line c.in_err-begin_request.ensures)
