use Rattle.std.proofs.Common.{Err, Ok, ap, ◌∙◌}
use Rattle.desk_session.proofs.TurnsTaken.{asked-turn, memory-turn, syntax-turn}
use Rattle.desk_session.proofs.session.answer_found.Goals as goal

pub returns-in-Ok-Ask-clause-taken : goal.returns-in-Ok-Ask-clause-taken
returns-in-Ok-Ask-clause-taken g c = λ bytes is. asked-turn bytes c.args.book c.in-Ok-Ask.query _ (rw (c.in-Ok-Ask.is ∙ ap Ok c.in-Ok-Ask.field-0-is) at is)

pub returns-in-Syntax-clause-taken : goal.returns-in-Syntax-clause-taken
returns-in-Syntax-clause-taken g c = λ bytes is. syntax-turn bytes c.args.book _ (rw (c.in-Err.is ∙ ap Err c.in-Syntax.is) at is)

pub returns-in-NoMemory-clause-taken : goal.returns-in-NoMemory-clause-taken
returns-in-NoMemory-clause-taken g c = λ bytes is. memory-turn bytes c.args.book _ (rw (c.in-Err.is ∙ ap Err c.in-NoMemory.is) at is)
