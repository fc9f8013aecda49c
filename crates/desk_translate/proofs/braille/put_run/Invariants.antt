use Rattle.std.proofs.Common.{◌≡◌, ◌++◌, List, [], length, flat_map}
use Rattle.louis_translate.specs.Items.{PieceItem, made_cells}
use Rattle.desk_ends.specs.Cells.{text_of}
use Rattle.desk_ends.proofs.Sending.{Sending}
use Rattle.desk_translate.proofs.braille.put_run.Given as goal

-- the cells of what was taken went after the block
abbrev pub invariant-loop-cell : goal.invariant-loop-cell
invariant-loop-cell g l = record {
  taken : List PieceItem;
  parts : l.initial.pieces ≡ taken ++ l.pieces;
  sending : Sending (g.K.Sink.contents l.initial.sink) (g.K.Sink.contents l.sink) l.block [] (l.initial.block ++ text_of (flat_map made_cells taken));
}

abbrev pub decreases-loop-cell : goal.decreases-loop-cell
decreases-loop-cell g l = length l.pieces
