use Rattle.std.proofs.Common.{ap, arith, length, rules}
use Rattle.louis_translate.proofs.LonePieces.{lone_first}
use Rattle.louis_translate.proofs.pieces.PiecesIterator.next.Goals as goal

pub returns-clause-steps : goal.returns-clause-steps
returns-clause-steps g c =
    rw (← c.self.view_is) (lone_first (g.B.RuleBook.meaning c.self.inside.book.now) c.self.inside.print.now c.self.inside.at c.in-Some.cell.now _ c.from_ref.ensures.value c.in-Some.ensures)

pub returns-clause-goes : goal.returns-clause-goes
returns-clause-goes g c =
    let more = ap length (lone_first (g.B.RuleBook.meaning c.self.inside.book.now) c.self.inside.print.now c.self.inside.at c.in-Some.cell.now _ c.from_ref.ensures.value c.in-Some.ensures) in
    rw (← c.self.view_is) (search (rules, arith))
