use Rattle.std.proofs.Common.{◌∙◌}
use Rattle.louis_translate.proofs.PieceLists.{CellsSoFar-start, CellsSoFar-next, CellsSoFar-all}
use Rattle.desk_memory.proofs.paragraphs.cells_of.Goals as goal

pub loop-piece-init : goal.loop-piece-init
loop-piece-init c =
    rw c.new-cells.ensures.items (CellsSoFar-start c.args.rules.now c.args.print.now _
    (λ choices tiles. c.into_iter-piece-iterator.ensures.into_iter_gives ∙ c.new-piece-items.ensures choices tiles))

pub loop-piece-preserved : goal.loop-piece-preserved
loop-piece-preserved c =
    rw (c.in_ok-extend_from_slice-2.ensures.items, c.in_ok-extend_from_slice.ensures.items)
    (CellsSoFar-next c.args.rules.now c.args.print.now _ c.loop-piece.cells.items c.in-Some.piece _ c.loop-piece.invariant c.in-Some.ensures.steps)

pub returns : goal.returns
returns c =
    rw c.from_vec.ensures
    (CellsSoFar-all c.args.rules.now c.args.print.now _ c.loop-piece.cells.items c.loop-piece.invariant c.in-None.ensures.steps.0)
