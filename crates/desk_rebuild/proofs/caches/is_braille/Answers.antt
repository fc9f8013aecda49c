use Rattle.std.proofs.Common.{◌==◌, ℕ, List, length, sym, ap, ◌∙◌, eqb-true}
use Rattle.std.proofs.lemmas.List.{nil_from_length}
use Rattle.desk_rebuild.proofs.CellRows.{IsBehind-start, IsBehind-next, IsBehind-goes_on, IsBehind-ends, IsBehind-empty}
use Rattle.desk_rebuild.proofs.caches.is_braille.Goals as goal

pub loop-piece-init : goal.loop-piece-init
loop-piece-init c =
    IsBehind-start c.args.rules.now c.args.print.now _ c.args.masks.now
    (λ choices tiles. c.into_iter-piece-iterator.ensures.into_iter_gives ∙ c.new-piece-items.ensures choices tiles)

pub loop-piece-preserved : goal.loop-piece-preserved
loop-piece-preserved c =
    IsBehind-next c.args.rules.now c.args.print.now _ c.args.masks.now c.loop-piece.left.now c.in-Some.piece _ c.in-Some-after_piece.rest.now
    c.loop-piece.invariant c.in-Some.ensures.steps c.in-Some-after_piece.ensures.some

pub returns-in-None-after_piece : goal.returns-in-None-after_piece
returns-in-None-after_piece c = (
  λ yes. absurd (cc),
  λ are. absurd
      (let goes = IsBehind-goes_on c.args.rules.now c.args.print.now _ c.args.masks.now c.loop-piece.left.now c.in-Some.piece _ c.loop-piece.invariant c.in-Some.ensures.steps are in
      c.in-None-after_piece.ensures.none goes.0 goes.1),
)

pub returns : goal.returns
returns c =
    let rules = c.args.rules.now in
    let print = c.args.print.now in
    let none = c.in-None.ensures.steps.0 in (
      λ yes. IsBehind-ends rules print _ c.args.masks.now c.loop-piece.left.now c.loop-piece.invariant none (nil_from_length c.loop-piece.left.now (eqb-true (length c.loop-piece.left.now) 0 (sym c.is_empty.ensures ∙ yes))),
      λ are. c.is_empty.ensures ∙ ap (λ (left : List ℕ). length left == 0) (IsBehind-empty rules print _ c.args.masks.now c.loop-piece.left.now c.loop-piece.invariant none are),
    )
