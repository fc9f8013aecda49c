use Rattle.std.proofs.Common.{◌++◌, drop}
use Rattle.desk_ends.specs.Cells.{text_of}
use Rattle.desk_ends.proofs.Sending.{Sending}
use Rattle.desk_ends.proofs.cells.put_each.Given as goal

abbrev pub invariant-loop-cell : goal.invariant-loop-cell
invariant-loop-cell g l =
    Sending (g.K.Sink.contents l.initial.sink) (g.K.Sink.contents l.sink) l.block (text_of (drop l.cell-index l.cells)) (l.initial.block ++ text_of l.cells)
