use Rattle.desk_session.proofs.Sessions.{IsSession-held}
use Rattle.desk_session.proofs.laws.held_books.Goals as goal

pub returns : goal.returns
returns c = λ book last turns given. IsSession-held turns book given last
