use Rattle.cell_core.proofs.MaskLaws.{bit_or-shifted}
use Rattle.cell_core.proofs.cell.Cell.with_dot.Goals as goal

pub returns : goal.returns
returns c = rw c.self.view_is (bit_or-shifted c.args.self c.args.k c.requires.first c.requires.last c.requires.apart)
