use Rattle.std.proofs.Common.{refl, sym}
use Rattle.louis_translate.proofs.Trees.{LeadsFrom-child}
use Rattle.louis_translate.proofs.rule_tree.RuleTree.enter_child.Goals as goal

pub returns : goal.returns
returns c =
    LeadsFrom-child c.args.self.now (record { groups = c.args.self.now.groups; nodes = c.link.new.nodes }) c.push_node.new.nodes.items
    c.args.node c.args.character c.in_ok-child.child c.requires c.in_ok-child.ensures.adds c.in_ok-link.ensures
    c.in_ok-child.ensures.place (sym c.in_default.ensures) refl
