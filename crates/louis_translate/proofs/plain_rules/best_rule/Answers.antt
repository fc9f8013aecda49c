use Rattle.std.proofs.Common.{◌<◌, ◌∙◌, ap, length, refl, inl, inr, arith, rules}
use Rattle.std.proofs.lemmas.Bool.{MatchBool-at_true, MatchBool-at_false}
use Rattle.std.proofs.lemmas.Option.{slice_get_read}
use Rattle.louis_translate.proofs.Best.{BestBelow-longer, BestBelow-first, BestBelow-pass, YieldsTo-shorter, YieldsTo-empty, YieldsTo-later}
use Rattle.louis_translate.proofs.plain_rules.best_rule.Goals as goal
use Rattle.louis_translate.proofs.plain_rules.best_rule.Goals.{then-is_better, else-is_better}

pub loop-index-preserved : goal.loop-index-preserved
loop-index-preserved c =
    let meaning = c.args.table.now in
    let print = c.args.print.now in
    let at = c.args.at in
    let k = c.loop-index.index in
    let found = c.loop-index.found in
    let most = c.loop-index.most in
    let rule = c.rule-item.result in
    let lt : k < length meaning.rules = rw c.rules-rule-items.ensures at c.loop-index-test.true in
    let there = slice_get_read meaning.rules (length meaning.rules) k rule refl lt (rw c.rules-rule-items.ensures at c.rule-item.is) in
    let b = c.loop-index.invariant in
    let len = ap length c.as_slice-len.ensures in
    let yes = c.if-not-matches.ensures.yes in
    elim c.if-is_better.branch [
      | then-is_better w ↦
          rw (w.found-is, w.most-is, len)
          (elim (MatchBool-at_true _ _ w.if-is_better.true c.is_better.ensures) [
            | inl p ↦ BestBelow-longer meaning print at k found most rule there lt b yes (omega arith)
            | inr p ↦ BestBelow-first meaning print at k found most rule there lt b yes (p.0 ∙ len) p.1
          ])
      | else-is_better w ↦
          rw (w.found-is, w.most-is)
          (elim (MatchBool-at_false _ _ w.if-is_better.false c.is_better.ensures) [
            | inl p ↦ BestBelow-pass meaning print at k found most rule there lt b (λ _. YieldsTo-shorter meaning print at k found most rule there lt b (omega arith))
            | inr p ↦ BestBelow-pass meaning print at k found most rule there lt b (λ _. YieldsTo-later meaning print at k found most rule there lt b (p.0 ∙ len) p.1)
          ])
    ]

pub loop-index-preserved-then-not-matches : goal.loop-index-preserved-then-not-matches
loop-index-preserved-then-not-matches c = search (rules, slice_get_read, BestBelow-pass, YieldsTo-empty)
