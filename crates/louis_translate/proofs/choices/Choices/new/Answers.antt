use Rattle.std.proofs.Common.{arith}
use Rattle.louis_translate.proofs.Tilings.{choices_from-covers}
use Rattle.louis_translate.proofs.choices.Choices.new.Goals as goal

pub returns : goal.returns
returns g c = choices_from-covers (g.B.RuleBook.meaning c.args.book.now) c.args.print.now 0 (omega arith)
