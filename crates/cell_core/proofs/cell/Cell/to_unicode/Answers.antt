use Rattle.std.proofs.Common.{rules}
use Rattle.cell_core.proofs.cell.Cell.to_unicode.Goals as goal

pub returns : goal.returns
returns c = search rules
