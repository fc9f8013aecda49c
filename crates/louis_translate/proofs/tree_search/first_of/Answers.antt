use Rattle.std.proofs.Common.{rules, ◌≡◌, ◌+◌, ◌<◌, ◌-◌, ℕ, length, sym, refl, subst, ap, get_or, arith, slice_index_or}
use Rattle.std.proofs.lemmas.Bool.{both_ways}
use Rattle.std.proofs.lemmas.Option.{slice_get-get_or, slice_get_read}
use Rattle.louis_table.specs.declared.rule.Rule.{Rule}
use Rattle.louis_table.specs.declared.rule.RuleKind.{RuleKind}
use Rattle.louis_translate.specs.Choice.{MayCover}
use Rattle.louis_translate.proofs.Searches.{NoneBefore-all, NoneBefore-first, NoneBefore-next, candidate_here, covers_here, has_within}
use Rattle.louis_translate.proofs.tree_search.first_of.Goals as goal

pub offset_bounds-rules-index : goal.offset_bounds-rules-index
offset_bounds-rules-index c =
    let here = c.args.rules.now in
    let x = c.loop-index.index-index in
    let there = slice_get-get_or here x 0 (omega arith) in
    let lt : slice_index_or here x 0 < length c.rules.result.now = rw c.rules.ensures (has_within c.args.table.now.rules (get_or here x 0) _ (c.requires.rules.right (get_or here x 0) (x, there))) in
    search rules

pub bounds-rules-index : goal.bounds-rules-index
bounds-rules-index c =
    let here = c.args.rules.now in
    let x = c.loop-index.index-index in
    let there = slice_get-get_or here x 0 (omega arith) in
    rw c.rules.ensures (has_within c.args.table.now.rules (get_or here x 0) _ (c.requires.rules.right (get_or here x 0) (x, there)))

pub bounds-rules-index-in-loop-index : goal.bounds-rules-index-in-loop-index
bounds-rules-index-in-loop-index c =
    let here = c.args.rules.now in
    let x = c.loop-index.index-index in
    let there = slice_get-get_or here x 0 (omega arith) in
    rw c.rules.ensures (has_within c.args.table.now.rules (get_or here x 0) _ (c.requires.rules.right (get_or here x 0) (x, there)))

pub returns-then-may_cover : goal.returns-then-may_cover
returns-then-may_cover c =
    let meaning = c.args.table.now in
    let print = c.args.print.now in
    let here = c.args.rules.now in
    let x = c.loop-index.index-index in
    let k = get_or here x 0 in
    let d = c.args.end - c.args.at in
    let rule = c.index-rules-index.result in
    let there = slice_get-get_or here x 0 (omega arith) in
    let lt = has_within meaning.rules k _ (c.requires.rules.right k (x, there)) in
    let is = slice_get_read meaning.rules (length meaning.rules) k rule refl lt (rw c.rules.ensures at c.index-rules-index.is) in
    let end : c.args.end ≡ c.args.at + d = omega arith in
    let covers =
    subst (λ (e : ℕ). MayCover meaning print rule.kind c.args.at e) end
    (subst (λ (kind : RuleKind). MayCover meaning print kind c.args.at c.args.end) (sym (ap (λ (r : Rule). r.kind) c.index-rules-index.is)) (c.may_cover.ensures.0 c.if-may_cover.true)) in
    NoneBefore-first meaning print c.args.at here x k there c.requires.rules.ascending c.loop-index.invariant
    (candidate_here meaning print c.args.at d here (omega arith) (omega arith) c.requires.rules k rule (x, there) is covers)

pub loop-index-preserved : goal.loop-index-preserved
loop-index-preserved c =
    let meaning = c.args.table.now in
    let print = c.args.print.now in
    let here = c.args.rules.now in
    let x = c.loop-index.index-index in
    let k = get_or here x 0 in
    let d = c.args.end - c.args.at in
    let rule = c.index-rules-index.result in
    let there = slice_get-get_or here x 0 (omega arith) in
    let lt = has_within meaning.rules k _ (c.requires.rules.right k (x, there)) in
    let is = slice_get_read meaning.rules (length meaning.rules) k rule refl lt (rw c.rules.ensures at c.index-rules-index.is) in
    let end : c.args.at + d ≡ c.args.end = omega arith in
    NoneBefore-next meaning print c.args.at here x k there c.loop-index.invariant
    (λ h. both_ways _ c.if-may_cover.false (c.may_cover.ensures.1
    (subst (λ (kind : RuleKind). MayCover meaning print kind c.args.at c.args.end) (ap (λ (r : Rule). r.kind) c.index-rules-index.is)
    (subst (λ (e : ℕ). MayCover meaning print rule.kind c.args.at e) end
    (covers_here meaning print c.args.at d here (omega arith) (omega arith) c.requires.rules k rule (x, there) is h)))))

pub returns : goal.returns
returns c = NoneBefore-all c.args.table.now c.args.print.now c.args.at c.args.rules.now c.loop-index.index-index (omega arith) c.loop-index.invariant
