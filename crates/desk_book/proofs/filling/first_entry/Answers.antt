use Rattle.std.proofs.Common.{◌≡◌, ◌+◌, ◌∷◌, Some, None, slice_get, List, ap, subst, sym, ◌∙◌, arith}
use Rattle.std.proofs.lemmas.List.{drop_all}
use Rattle.desk_book.specs.Filling.{entries_left}
use Rattle.desk_memory.specs.declared.history.HeldEntry.{HeldEntry}
use Rattle.desk_memory.specs.Held.{HeldParagraphs}
use Rattle.desk_parts.specs.Puts.{RowPut}
use Rattle.desk_memory.proofs.Callers.{lent-past, lent-there, walk-at}
use Rattle.desk_book.proofs.RowPuts.FilledTables.{entries-next, entries-none, entries-past}
use Rattle.desk_book.proofs.filling.first_entry.Goals as goal

pub returns-in-Some-get-clause-found : goal.returns-in-Some-get-clause-found
returns-in-Some-get-clause-found c =
    let held : HeldParagraphs = c.args.paragraphs.now in
    let place = c.loop-place.place in
    let at = c.loop-place.at in
    let there = walk-at held place c.at.result c.at.ensures c.in-Some.id c.in-Some.paragraph c.in-Some.is in
    let next = subst (λ (history : List HeldEntry). slice_get history at ≡ Some c.in-Some-get.held.now) c.as_slice.ensures
    (lent-there c.as_slice.result.now at c.get.result c.get.ensures.lookup c.in-Some-get.held c.in-Some-get.is) in
    c.loop-place.invariant ∙ (entries-next held place at c.in-Some.id c.in-Some.paragraph.now there c.in-Some-get.held.now next
    ∙ ap (λ (put : RowPut). put ∷ entries_left place (at + 1) held) (sym c.entry.ensures))

pub loop-place-preserved : goal.loop-place-preserved
loop-place-preserved c =
    let held : HeldParagraphs = c.args.paragraphs.now in
    let place = c.loop-place.place in
    let at = c.loop-place.at in
    let there = walk-at held place c.at.result c.at.ensures c.in-Some.id c.in-Some.paragraph c.in-Some.is in
    let none = subst (λ (history : List HeldEntry). slice_get history at ≡ None) c.as_slice.ensures
    (lent-past c.as_slice.result.now at c.get.result c.get.ensures.lookup c.in_default-get.is) in
    c.loop-place.invariant ∙ entries-none held place at c.in-Some.id c.in-Some.paragraph.now there none

pub returns-clause-none : goal.returns-clause-none
returns-clause-none c =
    let held : HeldParagraphs = c.args.paragraphs.now in
    let place = c.loop-place.place in
    let many = c.len-place-end.ensures in
    let ends = c.loop-place-test.false in
    c.loop-place.invariant ∙ entries-past held place c.loop-place.at (drop_all place held (omega arith))
