use Rattle.std.proofs.Common.{◌≤◌, length, Some, None, refl, ap, ◌∙◌, arith}
use Rattle.std.proofs.lemmas.Option.{slice_get_past, slice_get_read}
use Rattle.desk_book.specs.ChangePuts.{cells_put}
use Rattle.desk_book.proofs.RowPuts.PutLists.{along-past, along-there}
use Rattle.desk_book.proofs.puts.first_cells.Goals as goal

pub returns-in-Some-clause-found : goal.returns-in-Some-clause-found
returns-in-Some-clause-found c =
    let cells = c.args.cells.now in
    let index = c.loop-index.index in
    let read = slice_get_read cells (length cells) index c.index-cells-index.result refl (let lt = c.loop-index-test.true in omega arith) c.index-cells-index.is in
    c.loop-index.invariant ∙ along-there cells index cells_put (Some c.in-Some.new) (read ∙ ap Some c.in-Some.is)

pub loop-index-preserved : goal.loop-index-preserved
loop-index-preserved c =
    let cells = c.args.cells.now in
    let index = c.loop-index.index in
    let read = slice_get_read cells (length cells) index c.index-cells-index.result refl (let lt = c.loop-index-test.true in omega arith) c.index-cells-index.is in
    c.loop-index.invariant ∙ along-there cells index cells_put None (read ∙ ap Some c.in_default.is)

pub returns-clause-none : goal.returns-clause-none
returns-clause-none c =
    let cells = c.args.cells.now in
    let index = c.loop-index.index in
    let past : length cells ≤ index = let ends = c.loop-index-test.false in omega arith in
    c.loop-index.invariant ∙ along-past cells index cells_put (slice_get_past cells index past)
