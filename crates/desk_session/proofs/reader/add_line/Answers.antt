use Rattle.std.proofs.Common.{◌∙◌}
use Rattle.desk_session.proofs.Blocks.{no-request-stays}
use Rattle.desk_session.proofs.BlockLines.{long-after}
use Rattle.desk_session.proofs.reader.add_line.Goals as goal

pub returns-in-Ok-None-clause-holds : goal.returns-in-Ok-None-clause-holds
returns-in-Ok-None-clause-holds c = λ bytes more ends is holds keeps. long-after bytes more ends is (c.in-Ok-None.ensures ∙ keeps)

pub returns-in-Err-default-clause-holds : goal.returns-in-Err-default-clause-holds
returns-in-Err-default-clause-holds c = λ bytes more ends is holds keeps. no-request-stays c.in-Err-default.fault bytes more ends (rw c.in-Err-default.is-0 at holds)
