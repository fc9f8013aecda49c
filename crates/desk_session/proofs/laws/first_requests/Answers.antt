use Rattle.desk_session.proofs.RequestCuts.{FirstRequests-first}
use Rattle.desk_session.proofs.laws.first_requests.Goals as goal

pub returns : goal.returns
returns c = FirstRequests-first
