use Rattle.std.proofs.Common.{sym}
use Rattle.louis_translate.proofs.Trees.{LeadsFrom-group}
use Rattle.louis_translate.proofs.rule_tree.RuleTree.enter_group.Goals as goal

pub returns : goal.returns
returns c =
    LeadsFrom-group c.args.self.now (record { groups = c.insert.new.self; nodes = c.push_node.new.nodes }) c.args.character c.in_ok-node.node
    c.in_ok-node.ensures.adds c.in_ok-node.ensures.place (sym c.in_default.ensures) c.in_ok-insert.ensures.ok
