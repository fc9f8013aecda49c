use Rattle.std.proofs.Common.{rules}
use Rattle.louis_translate.proofs.rule_index.RuleIndex.new.Goals as goal

pub returns : goal.returns
returns c = search rules
