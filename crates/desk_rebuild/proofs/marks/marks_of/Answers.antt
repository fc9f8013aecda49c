use Rattle.std.proofs.Common.{◌≡◌, ◌+◌, ◌∷◌, ◌++◌, [], List, length, append_assoc, subst, sym, ap, ◌∙◌, rules, length-append}
use Rattle.std.specs.Vec.Iter.{into_iter_items}
use Rattle.desk_rebuild.specs.Marks.{IsHeldOf, mark_rule}
use Rattle.desk_rebuild.specs.OrderedRows.{AreHeldUpTo, IsSoundAt}
use Rattle.desk_parts.specs.Rows.{Mark}
use Rattle.desk_rebuild.proofs.OrderedRows.{held-more, row-at}
use Rattle.desk_rebuild.proofs.marks.marks_of.Goals as goal

pub loop-row-preserved : goal.loop-row-preserved
loop-row-preserved c =
    let rule = mark_rule c.args.items.now in
    let are = sym (ap (λ (rest : List Mark). c.loop-row.yielded ++ rest) c.in-Some.ensures.steps.0) ∙ c.loop-row.invariant.3 in
    let here = row-at rule c.args.rows.items c.loop-row.yielded (into_iter_items c.next.new.self) c.in-Some.row are in
    let count : c.len.result ≡ length c.loop-row.yielded = c.len.ensures ∙ (c.loop-row.marks.ok.0 ∙ c.loop-row.invariant.2.count_is) in
    let judged = c.in_ok-mark.ensures in
    let pushed : c.push.new.self.items ≡ c.loop-row.marks.items ++ c.in_ok-mark.mark ∷ [] = search rules in (
      tt,
      tt,
      subst (λ n. AreHeldUpTo rule IsHeldOf n c.args.rows.items c.push.new.self.items) (sym (length-append c.loop-row.yielded (c.in-Some.row ∷ [])))
          (subst (AreHeldUpTo rule IsHeldOf (length c.loop-row.yielded + 1) c.args.rows.items) (sym pushed)
          (held-more rule c.args.rows.items IsHeldOf (length c.loop-row.yielded) c.loop-row.marks.items c.in-Some.row c.in_ok-mark.mark c.loop-row.invariant.2 here
          (subst (λ n. IsSoundAt rule n c.in-Some.row) count judged.0) judged.1 judged.2)),
      append_assoc c.loop-row.yielded (c.in-Some.row ∷ []) (into_iter_items c.next.new.self) ∙ are,
    )
