use Rattle.std.proofs.Common.{◌++◌, List, ℕ, ap, ◌∙◌, arith}
use Rattle.louis_translate.proofs.PiecePlaces.{PlacesSoFar-start, PlacesSoFar-order, PlacesSoFar-next, PlacesSoFar-all}
use Rattle.louis_translate.proofs.translation.translate_print.Goals as goal

pub loop-piece-init : goal.loop-piece-init
loop-piece-init g c =
    rw (c.new-cells.ensures.items, c.new-output_pos.ensures.items, c.new-input_pos.ensures.items)
    (PlacesSoFar-start (g.B.RuleBook.meaning c.args.book.now) c.args.print.now _
    (λ choices tiles. c.into_iter-piece-iterator.ensures.into_iter_gives ∙ c.new-piece-items.ensures choices tiles))

pub overflow_sub-piece : goal.overflow_sub-piece
overflow_sub-piece g c =
    omega (arith, PlacesSoFar-order (g.B.RuleBook.meaning c.args.book.now) c.args.print.now _ c.loop-piece.cells.items c.loop-piece.output_pos.items c.loop-piece.input_pos.items c.in-Some.piece _ c.loop-piece.invariant c.in-Some.ensures.steps)

pub loop-piece-preserved : goal.loop-piece-preserved
loop-piece-preserved g c =
    let old = c.loop-piece.cells in
    let new = c.extend_from_slice-in-loop-piece.new.self in
    let piece = c.in-Some.piece in
    PlacesSoFar-next (g.B.RuleBook.meaning c.args.book.now) c.args.print.now _ old.items c.loop-piece.output_pos.items c.loop-piece.input_pos.items piece _ c.loop-piece.invariant c.in-Some.ensures.steps
    new.items _ _ c.len-before.result c.len.result
    (c.in_ok-extend_from_slice-2.ensures.items ∙ ap (λ (xs : List ℕ). xs ++ piece.own.now) c.in_ok-extend_from_slice.ensures.items)
    (c.len-before.ensures ∙ old.ok.0) (c.len.ensures ∙ new.ok.0) c.in_ok-push_copies.ensures c.in_ok-push_copies-2.ensures

pub returns : goal.returns
returns g c =
    rw (c.from_vec.ensures, c.from_vec-2.ensures, c.from_vec-3.ensures)
    (PlacesSoFar-all (g.B.RuleBook.meaning c.args.book.now) c.args.print.now _ c.loop-piece.cells.items c.loop-piece.output_pos.items c.loop-piece.input_pos.items c.loop-piece.invariant c.in-None.ensures.steps.0 c.requires)
