use Rattle.std.proofs.Common.{ℕ, ◌+◌, ◌∷◌, drop, is_ok, sym, ap, ◌∙◌, arith, encode_utf8, drop_of_length-le}
use Rattle.std.proofs.lemmas.List.{drop_more}
use Rattle.std.proofs.lemmas.Result.{err_from_is_err_and}
use Rattle.std.proofs.lemmas.Grind.{common_steps}
use Rattle.cell_core.specs.Cell.{braille_character}
use Rattle.desk_ends.specs.Cells.{text_of}
use Rattle.desk_ends.proofs.Sending.{Sending-done, Sending-fails, Sending-more}
use Rattle.desk_ends.proofs.cells.put_each.Goals as goal

pub returns-in_err-put_cell : goal.returns-in_err-put_cell
returns-in_err-put_cell g c =
    let p = err_from_is_err_and c.from_residual.result c.from_residual.ensures.1 in
    let piece = encode_utf8 (braille_character c.cell-item.result) in
    let parts = ap text_of (drop_more c.args.cells.now c.loop-cell.cell-index c.cell-item.result c.loop-cell-test.true)
    ∙ ap (λ (t : ℕ). text_of (t ∷ drop (c.loop-cell.cell-index + 1) c.args.cells.now)) (sym c.cell-item.is) in
    Sending-fails g.K.Sink.can_fail _ _ _ c.loop-cell.block _ _ _ _ c.loop-cell.invariant piece _ parts
    c.put_cell.ensures _ _ (ap is_ok c.in_err-put_cell.was) (ap is_ok p.1)

pub loop-cell-preserved : goal.loop-cell-preserved
loop-cell-preserved g c =
    let piece = encode_utf8 (braille_character c.cell-item.result) in
    let parts = ap text_of (drop_more c.args.cells.now c.loop-cell.cell-index c.cell-item.result c.loop-cell-test.true)
    ∙ ap (λ (t : ℕ). text_of (t ∷ drop (c.loop-cell.cell-index + 1) c.args.cells.now)) (sym c.cell-item.is) in
    Sending-more g.K.Sink.can_fail _ _ _ c.loop-cell.block _ _ _ _ c.loop-cell.invariant piece _ parts
    c.put_cell.ensures (ap is_ok c.in_ok-put_cell.was)

pub returns : goal.returns
returns g c = grind (arith, common_steps, Sending-done, drop_of_length-le)
