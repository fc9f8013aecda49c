use Rattle.std.proofs.Common.{rules}
use Rattle.cell_core.proofs.cells.Sequence.from_vec.Goals as goal

pub returns : goal.returns
returns g c = search rules
