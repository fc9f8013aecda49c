use Rattle.std.proofs.Common.{◌<◌, length, ap, arith, rules}
use Rattle.louis_translate.proofs.Tilings.{choices_from-next}
use Rattle.louis_translate.proofs.choices.ChoicesIterator.next.Goals as goal

pub returns-clause-steps : goal.returns-clause-steps
returns-clause-steps g c =
    let within : c.self.inside.at < length c.self.inside.print.now = omega (arith, c.self.invariant.0) in
    rw (← c.self.view_is) (choices_from-next (g.B.RuleBook.meaning c.self.inside.book.now) c.self.inside.print.now c.self.inside.at _ within c.choose-choice.ensures.choice)

pub returns-clause-goes : goal.returns-clause-goes
returns-clause-goes g c =
    let within : c.self.inside.at < length c.self.inside.print.now = omega (arith, c.self.invariant.0) in
    let more = ap length (choices_from-next (g.B.RuleBook.meaning c.self.inside.book.now) c.self.inside.print.now c.self.inside.at _ within c.choose-choice.ensures.choice) in
    rw (← c.self.view_is) (search (rules, arith))
