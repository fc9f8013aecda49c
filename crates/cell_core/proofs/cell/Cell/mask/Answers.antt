use Rattle.std.proofs.Common.{rules}
use Rattle.cell_core.proofs.cell.Cell.mask.Goals as goal

pub returns : goal.returns
returns c = search rules
