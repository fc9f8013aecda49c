use Rattle.std.proofs.Common.{rules}
use Rattle.desk_rows.proofs.table.table_name.Goals as goal

pub returns-in-NamedCorr : goal.returns-in-NamedCorr
returns-in-NamedCorr c = search rules
