use Rattle.louis_table.proofs.CellLaws.{has_cells}
use Rattle.louis_table.proofs.laws.cells.Goals as goal

pub returns : goal.returns
returns c = has_cells
