use Rattle.desk_session.proofs.Sessions.{IsSession-done, IsSession-given}
use Rattle.desk_session.proofs.laws.given_commands.Goals as goal

pub returns : goal.returns
returns c = record {
  given = λ book last turns given. IsSession-given turns book given last;
  done = λ book last turns given. IsSession-done turns book given last;
}
