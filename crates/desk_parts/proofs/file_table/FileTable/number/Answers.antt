use Rattle.std.proofs.Common.{rules}
use Rattle.desk_parts.proofs.file_table.FileTable.number.Goals as goal

pub returns-in-NamedCorr : goal.returns-in-NamedCorr
returns-in-NamedCorr c = search rules
