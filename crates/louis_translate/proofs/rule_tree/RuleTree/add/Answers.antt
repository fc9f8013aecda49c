use Rattle.std.proofs.Common.{◌≡◌, ℕ, ◌+◌, List, length, take, Some, None, refl, sym, ap, subst, ◌∙◌, arith, rules, slice_get, take_all}
use Rattle.std.proofs.lemmas.Option.{slice_get_read}
use Rattle.louis_table.specs.declared.rule.Rule.{Rule}
use Rattle.louis_translate.specs.Tree.{LeadTo}
use Rattle.louis_translate.proofs.Trees.{IsTree-empty, IsTree-rule, IsTree-step, first_there, later_there, way_step}
use Rattle.louis_translate.proofs.rule_tree.RuleTree.add.Goals as goal

pub loop-character-init : goal.loop-character-init
loop-character-init c =
    let rules = c.args.rules.now in
    let k = c.args.index in
    let from = c.in_ok-node.ensures in
    let tree = IsTree-step rules k c.args.self.now c.enter_group.new.self None _ _ c.requires.tree from in
    let there = slice_get_read rules (length rules) k c.index-rules-index.result refl c.requires.within c.index-rules-index.is in
    let first = first_there c.as_slice.result.now c.first-item.result (omega arith) c.first-item.is in
    record {
      tree = tree;
      way = λ rule is.
          let same : c.index-rules-index.result ≡ rule = cc in
          let chars : c.as_slice.result.now ≡ rule.chars = c.as_slice.ensures ∙ ap (λ (r : Rule). r.chars) (sym c.index-rules-index.is ∙ same) in
          way_step rules k c.args.self.now c.enter_group.new.self None _ _ c.requires.tree from rule.chars 0 refl (subst (λ (cs : List ℕ). slice_get cs 0 ≡ Some c.first-item.result) chars first);
      within = tree.nodes None _ _ from.leads_to;
    }

pub loop-character-preserved : goal.loop-character-preserved
loop-character-preserved c =
    let rules = c.args.rules.now in
    let k = c.args.index in
    let inv = c.loop-character.invariant in
    let from = c.in_ok-node-2.ensures in
    let x = c.loop-character.character-index in
    let tree = IsTree-step rules k c.loop-character.self c.enter_child.new.self (Some c.loop-character.node) _ _ inv.tree from in
    let there = slice_get_read rules (length rules) k c.index-rules-index.result refl c.requires.within c.index-rules-index.is in
    let later = later_there c.as_slice.result.now x c.character-item.result (omega arith) c.character-item.is in
    record {
      tree = tree;
      way = λ rule is.
          let same : c.index-rules-index.result ≡ rule = cc in
          let chars : c.as_slice.result.now ≡ rule.chars = c.as_slice.ensures ∙ ap (λ (r : Rule). r.chars) (sym c.index-rules-index.is ∙ same) in
          way_step rules k c.loop-character.self c.enter_child.new.self (Some c.loop-character.node) _ _ inv.tree from rule.chars (x + 1) (inv.way rule is)
          (subst (λ (cs : List ℕ). slice_get cs (x + 1) ≡ Some c.character-item.result) chars later);
      within = tree.nodes (Some c.loop-character.node) _ _ from.leads_to;
    }

pub returns : goal.returns
returns c =
    let rules = c.args.rules.now in
    let k = c.args.index in
    let inv = c.loop-character.invariant in
    let x = c.loop-character.character-index in
    let rule = c.index-rules-index.result in
    let there = slice_get_read rules (length rules) k rule refl c.requires.within c.index-rules-index.is in
    let len : length c.as_slice.result.now ≡ length rule.chars = ap (length {A = ℕ}) (c.as_slice.ensures ∙ ap (λ (r : Rule). r.chars) (sym c.index-rules-index.is)) in
    let whole : take (x + 1) rule.chars ≡ rule.chars = take_all (x + 1) rule.chars (omega arith) in
    IsTree-rule rules k c.loop-character.self (record { groups = c.loop-character.self.groups; nodes = c.put_rule.new.nodes }) c.loop-character.node rule inv.tree
    c.in_ok-put_rule.ensures refl there (subst (λ (cs : List ℕ). LeadTo c.loop-character.self None cs (Some c.loop-character.node)) whole (inv.way rule there))

pub returns-in_default : goal.returns-in_default
returns-in_default c = search (rules, slice_get_read, IsTree-empty)
