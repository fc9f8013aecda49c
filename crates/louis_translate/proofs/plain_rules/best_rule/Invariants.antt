use Rattle.louis_translate.proofs.Best.{BestBelow}
use Rattle.louis_translate.proofs.plain_rules.best_rule.Given as goal

abbrev pub invariant-loop-index : goal.invariant-loop-index
invariant-loop-index l = BestBelow l.table l.print l.at l.index l.found l.most
