use Rattle.std.proofs.Common.{◌≡◌}
use Rattle.desk_book.specs.ChangePuts.{cells_from}
use Rattle.desk_book.proofs.puts.first_cells.Given as goal

-- there are no new cells before the index
abbrev pub invariant-loop-index : goal.invariant-loop-index
invariant-loop-index l = cells_from l.from l.cells ≡ cells_from l.index l.cells
