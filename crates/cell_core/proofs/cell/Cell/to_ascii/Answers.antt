use Rattle.std.proofs.Common.{rules, ap, ◌∙◌, Some, slice_index}
use Rattle.cell_core.specs.Ascii.{ascii_cell}
use Rattle.cell_core.proofs.AsciiLaws.{ascii_bytes, ascii_cell-bytes}
use Rattle.cell_core.proofs.cell.Cell.to_ascii.Goals as goal

pub returns-clause-byte : goal.returns-clause-byte
returns-clause-byte c =
    ap (λ n. ascii_cell (slice_index ascii_bytes n)) c.from.ensures ∙ (ascii_cell-bytes c.self.inside.mask c.if-self-ge-ASCII_CELLS.false ∙ ap Some c.self.view_is)

pub bounds-from : goal.bounds-from
bounds-from c = search rules
