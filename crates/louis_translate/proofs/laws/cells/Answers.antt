use Rattle.std.proofs.Common.{rules}
use Rattle.louis_table.proofs.CellLaws.{has_cells}
use Rattle.louis_translate.proofs.CellCounts.{some_cells, output_within}
use Rattle.louis_translate.proofs.laws.cells.Goals as goal

pub returns-clause-choices : goal.returns-clause-choices
returns-clause-choices c = search (rules, some_cells, has_cells)

pub returns-clause-outputs : goal.returns-clause-outputs
returns-clause-outputs c = search (rules, output_within, has_cells)
