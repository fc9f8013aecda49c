-- What goes out of a print's pieces.
use Rattle.std.specs.Prelude.{◌≡◌, ℕ, List, ◌++◌, Bool, flat_map}
use Rattle.louis_translate.specs.Items.{PieceItem, made_cells}
use Rattle.desk_ends.specs.Cells.{text_of}
use Rattle.desk_ends.specs.Sending.{Puts}
use Rattle.desk_ends.specs.declared.ends.Sink.{Ghosts}

-- some of the pieces that were left are taken, from the front, and their cells put after the block
-- and sent to the sink
pub record PutsFirst {K : Type 0} (sink : Ghosts K) (old new : K) (block held : List ℕ) (left others : List PieceItem)
    (whole : Bool) : Type 0 where
  pub taken : List PieceItem
  pub parts : left ≡ taken ++ others
  pub puts : Puts sink old new (block ++ text_of (flat_map made_cells taken)) held whole
