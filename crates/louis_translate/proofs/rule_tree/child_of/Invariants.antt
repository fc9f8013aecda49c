use Rattle.std.proofs.Common.{◌≡◌, drop, nat_eq}
use Rattle.std.specs.Map.{lookup}
use Rattle.louis_translate.proofs.rule_tree.child_of.Given as goal

abbrev pub invariant-loop-other : goal.invariant-loop-other
invariant-loop-other l = lookup (nat_eq l.character) l.children ≡ lookup (nat_eq l.character) (drop l.other-index l.children)
