use Rattle.std.proofs.Common.{rules}
use Rattle.louis_table.proofs.StepLaws.{cells_in-read, cells_in-unread}
use Rattle.louis_table.proofs.dots.read_cells.Goals as goal

pub returns-in-Ok : goal.returns-in-Ok
returns-in-Ok c = search (rules, cells_in-read)

pub returns-in-Err-Bad : goal.returns-in-Err-Bad
returns-in-Err-Bad c = search (rules, cells_in-unread)

pub returns-in-Err-TooMany : goal.returns-in-Err-TooMany
returns-in-Err-TooMany c = search (rules, cells_in-read)
