use Rattle.std.proofs.Common.{rules}
use Rattle.desk_model.proofs.refusal.Limit.number.Goals as goal

pub returns-in-Version : goal.returns-in-Version
returns-in-Version c = search rules
