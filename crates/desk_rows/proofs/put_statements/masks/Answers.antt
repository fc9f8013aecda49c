use Rattle.std.proofs.Common.{rules}
use Rattle.desk_rows.proofs.put_statements.masks.Goals as goal

pub returns : goal.returns
returns c = search rules
