use Rattle.std.proofs.Common.{append_assoc, rules}
use Rattle.std.proofs.lemmas.Grind.{flat_map-append}
use Rattle.louis_table.proofs.RuleLaws.{first_lacking-append, FinishesAll-fault}
use Rattle.louis_table.proofs.pending.finish_all.Goals as goal

pub returns-in_err-finish : goal.returns-in_err-finish
returns-in_err-finish c = search (rules, FinishesAll-fault)

pub loop-one-preserved : goal.loop-one-preserved
loop-one-preserved c = search (rules, first_lacking-append, flat_map-append, append_assoc)
