use Rattle.std.proofs.Common.{◌≡◌, take, length, sym, ap, subst, ◌∙◌, arith}
use Rattle.std.proofs.Math.Seq.{take-length}
use Rattle.std.proofs.lemmas.Bool.{and_parts, ltb-true}
use Rattle.std.proofs.lemmas.List.{get_or_read}
use Rattle.std.proofs.lemmas.List.Elements.{All-more, All-same}
use Rattle.desk_brf.specs.Volume.{IsSixDot}
use Rattle.desk_brf.proofs.volume.are_six_dot.Goals as goal

pub loop-cell-preserved : goal.loop-cell-preserved
loop-cell-preserved c = λ e.
    let cells = c.args.cells.now in
    let i = c.loop-cell.cell-index in
    let cell = c.cell-item.result in
    let parts = and_parts _ _ e in
    let below = ltb-true _ _ parts.1 in
    let mask = c.mask.ensures in
    let six : IsSixDot cell = omega (arith, below, mask) in
    All-more IsSixDot cells i 0 c.loop-cell-test.true (c.loop-cell.invariant parts.0)
    (subst IsSixDot (get_or_read cells i cell c.loop-cell-test.true c.cell-item.is 0) six)

pub returns : goal.returns
returns c = λ e.
    let cells = c.args.cells.now in
    let within = c.loop-cell.auto.cell-index-end in
    let past = c.loop-cell-test.false in
    let end : c.loop-cell.cell-index ≡ length cells = omega (arith, within, past) in
    All-same IsSixDot cells (take c.loop-cell.cell-index cells)
    (sym (ap (λ n. take n cells) end ∙ take-length cells)) (c.loop-cell.invariant e)
