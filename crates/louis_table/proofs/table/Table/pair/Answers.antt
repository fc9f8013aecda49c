use Rattle.std.proofs.Common.{rules}
use Rattle.louis_table.proofs.MeaningLaws.{definition_of-other}
use Rattle.louis_table.proofs.table.Table.pair.Goals as goal

pub define-requires-2 : goal.define-requires-2
define-requires-2 c = search (rules, definition_of-other)
