use Rattle.std.proofs.Common.{◌≤◌, List, length, map, subst, sym, ap, ◌∙◌, rules, w64, FitsSigned, All}
use Rattle.std.proofs.lemmas.Int.{to_z-of_z}
use Rattle.desk_memory.specs.declared.paragraphs.Paragraph.{Paragraph as HeldParagraph}
use Rattle.desk_model.specs.Damage.{IsDamagedCache}
use Rattle.desk_rebuild.specs.Rows.{HasCells, IsFirstId, without_cells}
use Rattle.desk_rebuild.specs.Caches.{AreAllRight, AreTheirCells, IsMisfit, IsTranslatable}
use Rattle.desk_model.specs.Limits.{most_paragraphs}
use Rattle.desk_rebuild.proofs.CacheRows.{few-items, first-misfit, has-cells, same-but-cells, their-cells, translatable, whole-rows}
use Rattle.desk_rebuild.proofs.caches.read_caches.Goals as goal

pub misfit-requires-clause-translatable : goal.misfit-requires-clause-translatable
misfit-requires-clause-translatable c =
    let of = c.requires.of in
    subst (All (IsTranslatable c.args.tables.now)) (sym c.deref.ensures.value) (translatable of.0 of.1 c.args.tables.now c.args.items.now.items of.2 of.3 of.4)

pub misfit-requires-clause-few : goal.misfit-requires-clause-few
misfit-requires-clause-few c =
    let of = c.requires.of in
    subst (λ (items : List HeldParagraph). length items ≤ most_paragraphs) (sym c.deref.ensures.value) (few-items of.0 of.1 c.args.tables.now c.args.items.now.items of.2 of.3 of.4)

pub returns-in-Some-clause-damaged : goal.returns-in-Some-clause-damaged
returns-in-Some-clause-damaged c = λ tabs paras are of whole.
    let fits : FitsSigned w64 c.in-Some.id = search rules in
    let misfit : IsMisfit c.args.tables.now c.args.items.now.items c.sorted-rows.result.items c.in-Some.id =
    rw (sym c.deref.ensures.value, sym c.deref-2.ensures.value) c.in-Some.ensures.some in
    subst (IsFirstId (IsDamagedCache tabs paras c.args.rows.items)) (sym (to_z-of_z w64 c.in-Some.id fits))
    (first-misfit tabs paras c.args.tables.now c.args.items.now.items are of whole c.args.rows.items c.sorted-rows.result.items
    c.sorted-rows.ensures.permutation c.sorted-rows.ensures.sorted c.in-Some.id misfit)

pub returns-clause-whole : goal.returns-clause-whole
returns-clause-whole c = λ tabs paras are of whole.
    let right : AreAllRight c.args.tables.now c.args.items.now.items c.sorted-rows.result.items =
    rw (sym c.deref.ensures.value, sym c.deref-2.ensures.value) c.in_default.ensures.none in
    whole-rows tabs paras c.args.tables.now c.args.items.now.items are of whole c.args.rows.items c.sorted-rows.result.items
    c.sorted-rows.ensures.permutation c.sorted-rows.ensures.sorted right

pub returns-clause-cells : goal.returns-clause-cells
returns-clause-cells c = λ tabs paras are of whole.
    let items = c.args.items.now.items in
    let right : AreAllRight c.args.tables.now items c.sorted-rows.result.items =
    rw (sym c.deref.ensures.value, sym c.deref-2.ensures.value) c.in_default.ensures.none in
    subst (λ (all : List HeldParagraph). All (HasCells tabs all) paras) (sym c.give.ensures)
    (has-cells tabs paras c.args.tables.now items are of whole c.in_ok-cells.cells.items
    (subst (AreTheirCells c.args.tables.now items) (sym c.in_ok-cells.ensures) (their-cells tabs paras c.args.tables.now items are of whole c.sorted-rows.result.items right)))

pub returns-clause-same : goal.returns-clause-same
returns-clause-same c = ap (map without_cells) c.give.ensures ∙ same-but-cells c.in_ok-cells.cells.items c.args.items.now.items
