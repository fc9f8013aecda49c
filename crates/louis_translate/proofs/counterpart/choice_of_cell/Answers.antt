use Rattle.std.proofs.Common.{◌+◌, ◌<◌, ◌≤◌, length, ◌∙◌, arith}
use Rattle.louis_translate.proofs.Counterparts.{PrintLeft-start, PrintLeft-step, PrintLeft-found, PrintLeft-past}
use Rattle.louis_translate.proofs.counterpart.choice_of_cell.Goals as goal
use Rattle.louis_translate.proofs.counterpart.choice_of_cell.Goals.{then-left-piece-via-then-left-piece, then-left-piece-via-else-left-piece+then-left-piece-2}

pub loop-piece-init : goal.loop-piece-init
loop-piece-init g c =
    PrintLeft-start (g.B.RuleBook.meaning c.args.book.now) c.args.print.now c.args.cell _
    (λ choices tiles. c.into_iter-piece-iterator.ensures.into_iter_gives ∙ c.new-piece-items.ensures choices tiles)

pub returns-then-left-piece-clause-found : goal.returns-then-left-piece-clause-found
returns-then-left-piece-clause-found g c =
    let piece = c.in-Some.piece in
    let within : c.loop-piece.left < length piece.sign.now + length piece.own.now =
    elim c.then-left-piece.branch [
      | then-left-piece-via-then-left-piece w ↦ let lt = w.if-left-piece.true in omega arith
      | then-left-piece-via-else-left-piece+then-left-piece-2 w ↦ let le = w.if-left-piece.false in let lt = w.if-left-piece-2.true in omega arith
    ] in
    PrintLeft-found (g.B.RuleBook.meaning c.args.book.now) c.args.print.now c.args.cell _ c.loop-piece.left piece _ c.loop-piece.invariant c.in-Some.ensures.steps within

pub loop-piece-preserved : goal.loop-piece-preserved
loop-piece-preserved g c =
    let piece = c.in-Some.piece in
    let past : length piece.sign.now + length piece.own.now ≤ c.loop-piece.left =
    let first = c.if-left-piece.false in let second = c.if-left-piece-2.false in omega arith in
    PrintLeft-step (g.B.RuleBook.meaning c.args.book.now) c.args.print.now c.args.cell _ c.loop-piece.left piece _ c.loop-piece.invariant c.in-Some.ensures.steps past

pub returns-clause-past : goal.returns-clause-past
returns-clause-past g c =
    PrintLeft-past (g.B.RuleBook.meaning c.args.book.now) c.args.print.now c.args.cell _ c.loop-piece.left c.loop-piece.invariant c.in-None.ensures.steps.0
