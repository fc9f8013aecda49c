use Rattle.std.proofs.Common.{rules}
use Rattle.louis_translate.proofs.print.undefined_place.Goals as goal

pub returns-clause-none : goal.returns-clause-none
returns-clause-none c = search rules
