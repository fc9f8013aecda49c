use Rattle.std.proofs.Common.{List, map, subst, sym, ap, ◌∙◌, All}
use Rattle.desk_memory.specs.declared.paragraphs.Paragraph.{Paragraph as HeldParagraph}
use Rattle.desk_rebuild.specs.Rows.{HasCells, without_cells}
use Rattle.desk_rebuild.specs.Caches.{AreTheirCells, IsTranslatable}
use Rattle.desk_rebuild.proofs.CacheRows.{has-cells, same-but-cells, translatable}
use Rattle.desk_rebuild.proofs.caches.made_cells.Goals as goal

pub cells_for-requires : goal.cells_for-requires
cells_for-requires c =
    let of = c.requires.of in
    subst (All (IsTranslatable c.args.tables.now)) (sym c.deref.ensures.value) (translatable of.0 of.1 c.args.tables.now c.args.items.now.items of.2 of.3 of.4)

pub returns-clause-cells : goal.returns-clause-cells
returns-clause-cells c = λ tabs paras are of whole.
    subst (λ (all : List HeldParagraph). All (HasCells tabs all) paras) (sym c.give.ensures)
    (has-cells tabs paras c.args.tables.now c.args.items.now.items are of whole c.in_ok-cells.cells.items
    (subst (λ (all : List HeldParagraph). AreTheirCells c.args.tables.now all c.in_ok-cells.cells.items) c.deref.ensures.value c.in_ok-cells.ensures))

pub returns-clause-same : goal.returns-clause-same
returns-clause-same c = ap (map without_cells) c.give.ensures ∙ same-but-cells c.in_ok-cells.cells.items c.args.items.now.items
