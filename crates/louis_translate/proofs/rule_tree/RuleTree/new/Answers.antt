use Rattle.louis_translate.proofs.Trees.{IsTree-none}
use Rattle.louis_translate.proofs.rule_tree.RuleTree.new.Goals as goal

pub returns : goal.returns
returns c = λ rules. IsTree-none rules (record { groups = c.new.result; nodes = c.new-2.result }) c.new.ensures c.new-2.ensures.items
