use Rattle.std.proofs.Common.{rules}
use Rattle.desk_model.proofs.refusal.Refusal.code.Goals as goal

pub returns-in-TooLong : goal.returns-in-TooLong
returns-in-TooLong c = search rules
