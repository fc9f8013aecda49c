use Rattle.std.proofs.Common.{rules}
use Rattle.desk_model.proofs.span.Span.after_edit.Goals as goal

pub returns-then-start-removed : goal.returns-then-start-removed
returns-then-start-removed c = search rules
