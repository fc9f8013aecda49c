use Rattle.std.proofs.Common.{◌≡◌, [], ◌∷◌, get_or, length, refl, subst, sym, ap, ◌∙◌, arith, MatchOption}
use Rattle.std.proofs.lemmas.Option.{slice_get_read}
use Rattle.std.specs.Vec.Iter.{into_iter_items}
use Rattle.desk_memory.specs.Held.{renewed_items, with_cells}
use Rattle.desk_memory.proofs.Renewing.{drop_next, length-renewed_items, next_cases, reached-renewed, reached_all}
use Rattle.desk_memory.proofs.paragraphs.renew_paragraphs.Goals as goal

pub loop-paragraph-preserved : goal.loop-paragraph-preserved
loop-paragraph-preserved c =
    let i = c.loop-paragraph.paragraph-index in
    let cells = c.args.cells.items in
    let next = drop_next cells i c.next.result (into_iter_items c.next.new.self)
    (subst (λ left. MatchOption c.next.result ((left ≡ []) × (into_iter_items c.next.new.self ≡ [])) (λ new. left ≡ new ∷ into_iter_items c.next.new.self))
    c.loop-paragraph.invariant.0 (next_cases c.loop-paragraph.cells c.next.new.self c.next.result c.next.ensures.cases)) in
    let item = slice_get_read c.loop-paragraph.paragraphs (length c.loop-paragraph.paragraphs) i c.paragraph-item.result refl (omega (arith, c.loop-paragraph-test.true, c.loop-paragraph.auto.paragraphs)) c.paragraph-item.is in
    let was = get_or c.loop-paragraph.paragraphs i c.paragraph-item.result in
    let new : c.renew.new.self ≡ with_cells c.flatten.result was = c.renew.ensures in (
      next.1,
      reached-renewed cells c.args.paragraphs.now c.loop-paragraph.paragraphs i c.next.result c.paragraph-item.result c.renew.new.self
          c.loop-paragraph.invariant.1 item next.0 (new ∙ (ap (with_cells c.flatten.result) (sym c.paragraph-item.is) ∙ ap (λ new. with_cells new c.paragraph-item.result) c.flatten.ensures)),
    )

pub returns : goal.returns
returns c =
    c.loop-paragraph.invariant.1
    ∙ reached_all c.loop-paragraph.paragraph-index (renewed_items c.args.cells.items c.args.paragraphs.now) c.args.paragraphs.now
    (length-renewed_items c.args.cells.items c.args.paragraphs.now) c.loop-paragraph-test.false
