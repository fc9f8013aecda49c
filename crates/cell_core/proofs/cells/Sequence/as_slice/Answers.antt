use Rattle.std.proofs.Common.{rules}
use Rattle.cell_core.proofs.cells.Sequence.as_slice.Goals as goal

pub returns : goal.returns
returns g c = search rules
