use Rattle.std.proofs.Common.{sym, ap, ◌∙◌, Some, slice_index}
use Rattle.cell_core.specs.Ascii.{ascii_masks}
use Rattle.cell_core.proofs.AsciiLaws.{ascii_cell-masks, ascii_cell-past}
use Rattle.cell_core.proofs.cell.Cell.from_ascii.Goals as goal

pub returns-then-place-ge-ASCII_CELLS-clause-cell : goal.returns-then-place-ge-ASCII_CELLS-clause-cell
returns-then-place-ge-ASCII_CELLS-clause-cell c = sym (ascii_cell-past c.args.byte c.in_ok-place.place c.in_ok-place.ensures c.if-place-ge-ASCII_CELLS.true)

pub returns-clause-cell : goal.returns-clause-cell
returns-clause-cell c =
    ap Some c.new.ensures ∙ (ap (λ n. Some (slice_index ascii_masks n)) c.from.ensures ∙ sym (ascii_cell-masks c.args.byte c.in_ok-place.place c.in_ok-place.ensures c.if-place-ge-ASCII_CELLS.false))
