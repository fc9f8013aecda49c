use Rattle.desk_line.proofs.RequestLaws.{one-request}
use Rattle.desk_line.proofs.laws.one_request.Goals as goal

pub returns : goal.returns
returns c = one-request
