use Rattle.std.proofs.Common.{◌≡◌, length, ap, sym, ◌∙◌, arith, lit<, Some, None}
use Rattle.std.proofs.lemmas.Iterator.Consumers.{YieldsList-at, YieldsList-end, YieldsList-turn}
use Rattle.std.proofs.lemmas.Iterator.Splits.{YieldsList-from_str_split}
use Rattle.std.proofs.lemmas.List.{length-set, length_push}
use Rattle.cell_core.specs.Reading.{cell_in}
use Rattle.cell_core.proofs.ReadCells.{HasRead-all, ReadSoFar-more_kept, ReadSoFar-more_past, cells_of-at_none}
use Rattle.cell_core.proofs.dots.read_cells.Goals as goal
use Rattle.cell_core.proofs.dots.read_cells.Goals.{then-count-lt-MOST_CELLS, else-count-lt-MOST_CELLS}

pub returns-in_err-cell-clause-none : goal.returns-in_err-cell-clause-none
returns-in_err-cell-clause-none c =
    let road = YieldsList-at c.into_iter-piece-iterator.ensures.into_iter_gives (YieldsList-from_str_split 45 c.args.text.now (lit< tt) c.split-piece-items.ensures.text c.split-piece-items.ensures.has_more c.split-piece-items.ensures.pattern) in
    let turn = YieldsList-turn road c.loop-piece.yielded _ c.loop-piece.yielded_by _ _ c.in-Some.piece c.in-Some.is c.next.ensures.steps in
    let bad : cell_in c.in-Some.piece.now ≡ None = ap cell_in (sym c.as_bytes.ensures.value) ∙ (sym c.read_cell.ensures ∙ c.in_err-cell.was) in
    rw c.from_residual.ensures (cells_of-at_none _ c.loop-piece.cells c.loop-piece.count c.in-Some.piece.now c.loop-piece.invariant.read (rw c.loop-piece.invariant.counted turn.0) (rw c.loop-piece.invariant.counted turn.1) bad)

pub loop-piece-preserved : goal.loop-piece-preserved
loop-piece-preserved c =
    let road = YieldsList-at c.into_iter-piece-iterator.ensures.into_iter_gives (YieldsList-from_str_split 45 c.args.text.now (lit< tt) c.split-piece-items.ensures.text c.split-piece-items.ensures.has_more c.split-piece-items.ensures.pattern) in
    let turn = YieldsList-turn road c.loop-piece.yielded _ c.loop-piece.yielded_by _ _ c.in-Some.piece c.in-Some.is c.next.ensures.steps in
    let read : cell_in c.in-Some.piece.now ≡ Some c.in_ok-cell.cell = ap cell_in (sym c.as_bytes.ensures.value) ∙ (sym c.read_cell.ensures ∙ c.in_ok-cell.was) in
    let pushed = length_push c.loop-piece.yielded c.in-Some.piece in
    let room = c.loop-piece.invariant.room in
    let counted = c.loop-piece.invariant.counted in
    elim c.if-count-lt-MOST_CELLS.branch [
      | then-count-lt-MOST_CELLS w ↦ record {
        can_next = tt;
        is_finite = tt;
        counted = omega arith;
        room = ap length w.cells-is ∙ (length-set _ _ _ ∙ room);
        read = rw w.cells-is (ReadSoFar-more_kept _ c.loop-piece.cells c.loop-piece.count c.in-Some.piece.now c.in_ok-cell.cell c.loop-piece.invariant.read (rw counted turn.0) (rw counted turn.1) read (omega arith));
      }
      | else-count-lt-MOST_CELLS w ↦ record {
        can_next = tt;
        is_finite = tt;
        counted = omega arith;
        room = ap length w.cells-is ∙ room;
        read = rw w.cells-is (ReadSoFar-more_past _ c.loop-piece.cells c.loop-piece.count c.in-Some.piece.now c.in_ok-cell.cell c.loop-piece.invariant.read (rw counted turn.0) (rw counted turn.1) read (omega arith));
      }
    ]

pub returns-clause-some : goal.returns-clause-some
returns-clause-some c =
    let road = YieldsList-at c.into_iter-piece-iterator.ensures.into_iter_gives (YieldsList-from_str_split 45 c.args.text.now (lit< tt) c.split-piece-items.ensures.text c.split-piece-items.ensures.has_more c.split-piece-items.ensures.pattern) in
    let all = YieldsList-end road c.loop-piece.yielded _ c.loop-piece.yielded_by _ _ c.in-None.is c.next.ensures.steps in
    let counted = c.loop-piece.invariant.counted in
    HasRead-all c.args.text.now c.loop-piece.cells c.loop-piece.count c.loop-piece.invariant.read (omega arith) c.loop-piece.invariant.room
