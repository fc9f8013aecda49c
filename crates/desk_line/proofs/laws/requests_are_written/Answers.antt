use Rattle.desk_line.proofs.Writing.{request_text-reads}
use Rattle.desk_line.proofs.laws.requests_are_written.Goals as goal

pub returns : goal.returns
returns c = request_text-reads
