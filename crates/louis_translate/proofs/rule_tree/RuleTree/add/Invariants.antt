use Rattle.std.proofs.Common.{◌≡◌, ◌+◌, ◌<◌, length, take, Some, None, slice_get}
use Rattle.louis_table.specs.declared.rule.Rule.{Rule}
use Rattle.louis_translate.specs.Tree.{IsTree, LeadTo}
use Rattle.louis_translate.proofs.rule_tree.RuleTree.add.Given as goal

abbrev pub invariant-loop-character : goal.invariant-loop-character
invariant-loop-character l = record {
  tree : IsTree l.rules l.index l.self;
  way : (rule : Rule) → slice_get l.rules l.index ≡ Some rule → LeadTo l.self None (take (l.character-index + 1) rule.chars) (Some l.node);
  within : l.node < length l.self.nodes.items;
}
