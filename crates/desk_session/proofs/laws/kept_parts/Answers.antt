use Rattle.desk_session.proofs.Sessions.{IsSession-kept}
use Rattle.desk_session.proofs.laws.kept_parts.Goals as goal

pub returns : goal.returns
returns c = λ book last turns given. IsSession-kept turns book given last
