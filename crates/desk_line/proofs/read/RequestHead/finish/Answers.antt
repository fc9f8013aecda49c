use Rattle.desk_line.proofs.RequestLaws.{head-makes}
use Rattle.desk_line.proofs.read.RequestHead.finish.Goals as goal

pub returns-clause-reads : goal.returns-clause-reads
returns-clause-reads c = λ bytes has. head-makes bytes c.args.self c.args.text.now c.complete.result (rw c.self.view_is at c.complete.ensures) has

pub returns-clause-gives : goal.returns-clause-gives
returns-clause-gives c = rw c.self.view_is at c.complete.ensures
