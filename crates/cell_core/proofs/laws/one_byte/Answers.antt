use Rattle.cell_core.proofs.AsciiLaws.{same_byte, byte_cell}
use Rattle.cell_core.proofs.laws.one_byte.Goals as goal

pub returns : goal.returns
returns c = record { one = same_byte; some = byte_cell }
