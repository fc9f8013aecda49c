use Rattle.std.proofs.Common.{◌≤◌, ◌∙◌, arith}
use Rattle.louis_translate.proofs.Counterparts.{OutputLeft-start, OutputLeft-fits, OutputLeft-step, OutputLeft-found, OutputLeft-past}
use Rattle.louis_translate.proofs.counterpart.output_place.Goals as goal

pub loop-piece-init : goal.loop-piece-init
loop-piece-init g c =
    OutputLeft-start (g.B.RuleBook.meaning c.args.book.now) c.args.print.now c.args.place _
    (λ choices tiles. c.into_iter-piece-iterator.ensures.into_iter_gives ∙ c.new-piece-items.ensures choices tiles)

pub returns-then-place-piece : goal.returns-then-place-piece
returns-then-place-piece g c =
    OutputLeft-found (g.B.RuleBook.meaning c.args.book.now) c.args.print.now c.args.place _ c.loop-piece.before c.in-Some.piece _ c.loop-piece.invariant c.in-Some.ensures.steps c.if-place-piece.true

pub overflow_add-before-in-loop-piece : goal.overflow_add-before-in-loop-piece
overflow_add-before-in-loop-piece g c =
    omega (arith, OutputLeft-fits (g.B.RuleBook.meaning c.args.book.now) c.args.print.now c.args.place _ c.loop-piece.before c.in-Some.piece _ c.loop-piece.invariant c.in-Some.ensures.steps c.requires.countable)

pub loop-piece-preserved : goal.loop-piece-preserved
loop-piece-preserved g c =
    let past : c.in-Some.piece.choice.end ≤ c.args.place = let not = c.if-place-piece.false in omega arith in
    OutputLeft-step (g.B.RuleBook.meaning c.args.book.now) c.args.print.now c.args.place _ c.loop-piece.before c.in-Some.piece _ c.loop-piece.invariant c.in-Some.ensures.steps past

pub unreachable-requires : goal.unreachable-requires
unreachable-requires g c =
    let past = OutputLeft-past (g.B.RuleBook.meaning c.args.book.now) c.args.print.now c.args.place _ c.loop-piece.before c.loop-piece.invariant c.in-None.ensures.steps.0 in
    omega (arith, c.requires.within)
