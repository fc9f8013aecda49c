use Rattle.std.proofs.Common.{◌++◌, List, length}
use Rattle.louis_translate.specs.declared.choices.Choice.{Choice}
use Rattle.louis_translate.specs.Braille.{braille}
use Rattle.louis_translate.specs.Tiling.{Tiles}
use Rattle.desk_ends.specs.Cells.{text_of}
use Rattle.desk_translate.proofs.Putting.{Putting}
use Rattle.desk_translate.proofs.braille.put_print.Given as goal

abbrev pub invariant-loop-piece : goal.invariant-loop-piece
invariant-loop-piece g l =
    let meaning = g.B.RuleBook.meaning l.book in
    (choices : List Choice) → Tiles meaning l.print choices
    → Putting l.pieces (g.K.Sink.contents l.fn.sink) (g.K.Sink.contents l.sink) l.block (l.fn.block ++ text_of (braille meaning l.print choices))

abbrev pub decreases-loop-piece : goal.decreases-loop-piece
decreases-loop-piece g l = length l.pieces
