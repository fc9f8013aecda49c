use Rattle.std.proofs.Common.{arith}
use Rattle.louis_translate.proofs.Tilings.{one_tiling}
use Rattle.desk_book.proofs.marking.span_of_cells.Goals as goal

pub unreachable-requires : goal.unreachable-requires
unreachable-requires c =
    let tiling = one_tiling c.args.rules.now c.args.print.now in
    let past = c.in_default.ensures.past tiling.0 tiling.1 in
    let cells = c.requires.cells tiling.0 tiling.1 in
    let there = c.are_there.ensures.0 c.if-not-are_there.false in
    let some = there.0 in
    let within = there.1 in
    omega arith

pub unreachable-requires-in_default-choice_of_cell : goal.unreachable-requires-in_default-choice_of_cell
unreachable-requires-in_default-choice_of_cell c =
    let tiling = one_tiling c.args.rules.now c.args.print.now in
    let past = c.in_default-choice_of_cell.ensures.past tiling.0 tiling.1 in
    let cells = c.requires.cells tiling.0 tiling.1 in
    let there = c.are_there.ensures.0 c.if-not-are_there.false in
    let some = there.0 in
    let within = there.1 in
    omega arith
