use Rattle.std.proofs.Common.{◌≡◌, ◌∷◌, ◌++◌, [], ◌+◌, List, MatchOption, length, set, nat_abs, SFits, to_z, of_z, w64, append_assoc, subst, sym, ap, ◌∙◌, arith, rules, length-append}
use Rattle.std.proofs.lemmas.Int.{to_z-of_z}
use Rattle.std.proofs.lemmas.Option.{slice_get_within}
use Rattle.std.specs.Vec.Iter.{into_iter_items}
use Rattle.desk_memory.specs.declared.paragraphs.Paragraph.{Paragraph as HeldParagraph}
use Rattle.desk_rebuild.specs.Paras.{AreHeldOf, IsFree, IsHeldOf, IsParaOn, para_rule}
use Rattle.desk_rebuild.specs.OrderedRows.{IsNext}
use Rattle.desk_model.specs.Limits.{most_paragraphs}
use Rattle.desk_parts.specs.declared.file_table.FileTable.TheVariants as tables
use Rattle.desk_parts.specs.FileRows.{HasUtf8Texts}
use Rattle.desk_parts.specs.Rows.{Para}
use Rattle.desk_rebuild.proofs.OrderedRows.{first-unsound, row-at}
use Rattle.desk_rebuild.proofs.ParaRows.{free-place, held-more}
use Rattle.desk_rebuild.proofs.paras.paragraphs_of.Goals as goal

pub returns-then-not-is_next-clause-damaged : goal.returns-then-not-is_next-clause-damaged
returns-then-not-is_next-clause-damaged c =
    let rule = para_rule c.args.tables.now c.args.rows.items in
    let fits : SFits w64 c.row.inside.id = search rules in
    let id : to_z w64 (of_z w64 c.row.inside.id) ≡ c.in-Some.row.id = to_z-of_z w64 c.row.inside.id fits ∙ ap (λ (r : Para). r.id) c.row.view_is in
    let here = row-at rule c.args.rows.items c.loop-row.yielded (into_iter_items c.next.new.self) c.in-Some.row
    (sym (ap (λ (rest : List Para). c.loop-row.yielded ++ rest) c.in-Some.ensures.steps.0) ∙ c.loop-row.invariant.3) in
    let count : c.len-in-loop-row.result ≡ length c.loop-row.yielded = c.len-in-loop-row.ensures ∙ (c.loop-row.items.ok.0 ∙ c.loop-row.invariant.2.held.count_is) in
    first-unsound rule c.args.rows.items (length c.loop-row.yielded) c.in-Some.row (to_z w64 (of_z w64 c.row.inside.id)) c.loop-row.invariant.2.held.sound here (sym id)
    (λ s. let no = sym c.if-not-is_next.true ∙ c.is_next.ensures.1 (subst (λ n. IsNext most_paragraphs n (to_z w64 (of_z w64 c.row.inside.id))) (sym count)
    (subst (λ z. IsNext most_paragraphs (length c.loop-row.yielded) z) (sym id) s.next)) in cc)

pub returns-in_default-clause-damaged : goal.returns-in_default-clause-damaged
returns-in_default-clause-damaged c =
    let rule = para_rule c.args.tables.now c.args.rows.items in
    let fits : SFits w64 c.row.inside.id = search rules in
    let id : to_z w64 (of_z w64 c.row.inside.id) ≡ c.in-Some.row.id = to_z-of_z w64 c.row.inside.id fits ∙ ap (λ (r : Para). r.id) c.row.view_is in
    let here = row-at rule c.args.rows.items c.loop-row.yielded (into_iter_items c.next.new.self) c.in-Some.row
    (sym (ap (λ (rest : List Para). c.loop-row.yielded ++ rest) c.in-Some.ensures.steps.0) ∙ c.loop-row.invariant.3) in
    let fits_place : SFits w64 c.row.inside.place = search rules in
    let place : to_z w64 (of_z w64 c.row.inside.place) ≡ c.in-Some.row.place = to_z-of_z w64 c.row.inside.place fits_place ∙ ap (λ (r : Para). r.place) c.row.view_is in
    first-unsound rule c.args.rows.items (length c.loop-row.yielded) c.in-Some.row (to_z w64 (of_z w64 c.row.inside.id)) c.loop-row.invariant.2.held.sound here (sym id)
    (λ s. let free = free-place c.args.tables.now (length c.loop-row.yielded) c.args.rows.items c.loop-row.order.items c.loop-row.invariant.2.places c.in-Some.row s.sound in
    c.in_default.ensures.none free.0 (subst (λ order. IsFree order (to_z w64 (of_z w64 c.row.inside.place)) free.0) (sym c.deref.ensures.value)
    (subst (λ z. IsFree c.loop-row.order.items z free.0) (sym place) free.1)))

pub returns-in_default-2-clause-damaged : goal.returns-in_default-2-clause-damaged
returns-in_default-2-clause-damaged c =
    let rule = para_rule c.args.tables.now c.args.rows.items in
    let fits : SFits w64 c.row.inside.id = search rules in
    let id : to_z w64 (of_z w64 c.row.inside.id) ≡ c.in-Some.row.id = to_z-of_z w64 c.row.inside.id fits ∙ ap (λ (r : Para). r.id) c.row.view_is in
    let here = row-at rule c.args.rows.items c.loop-row.yielded (into_iter_items c.next.new.self) c.in-Some.row
    (sym (ap (λ (rest : List Para). c.loop-row.yielded ++ rest) c.in-Some.ensures.steps.0) ∙ c.loop-row.invariant.3) in
    first-unsound rule c.args.rows.items (length c.loop-row.yielded) c.in-Some.row (to_z w64 (of_z w64 c.row.inside.id)) c.loop-row.invariant.2.held.sound here (sym id)
    (λ s. subst (λ found. MatchOption found (¬ IsParaOn c.args.tables.now c.in-Some.row) (λ (held : HeldParagraph). IsParaOn c.args.tables.now c.in-Some.row × HasUtf8Texts tables.Para c.in-Some.row × IsHeldOf c.in-Some.row held))
    c.in_default-2.is c.in_ok-paragraph.ensures s.sound.para)

pub index_mut-requires : goal.index_mut-requires
index_mut-requires c =
    let fits_place : SFits w64 c.row.inside.place = search rules in
    let place : to_z w64 (of_z w64 c.row.inside.place) ≡ c.in-Some.row.place = to_z-of_z w64 c.row.inside.place fits_place ∙ ap (λ (r : Para). r.place) c.row.view_is in
    let free : IsFree c.loop-row.order.items c.in-Some.row.place c.in-Some-free_index.index =
    subst (λ order. IsFree order c.in-Some.row.place c.in-Some-free_index.index) c.deref.ensures.value
    (subst (λ z. IsFree c.deref.result.now z c.in-Some-free_index.index) place c.in-Some-free_index.ensures.free) in
    let less = slice_get_within c.loop-row.order.items c.in-Some-free_index.index 0 free.free in
    omega (arith, less, c.loop-row.order.ok.0)

pub loop-row-preserved : goal.loop-row-preserved
loop-row-preserved c =
    let rule = para_rule c.args.tables.now c.args.rows.items in
    let fits : SFits w64 c.row.inside.id = search rules in
    let id : to_z w64 (of_z w64 c.row.inside.id) ≡ c.in-Some.row.id = to_z-of_z w64 c.row.inside.id fits ∙ ap (λ (r : Para). r.id) c.row.view_is in
    let fits_place : SFits w64 c.row.inside.place = search rules in
    let place : to_z w64 (of_z w64 c.row.inside.place) ≡ c.in-Some.row.place = to_z-of_z w64 c.row.inside.place fits_place ∙ ap (λ (r : Para). r.place) c.row.view_is in
    let are = sym (ap (λ (rest : List Para). c.loop-row.yielded ++ rest) c.in-Some.ensures.steps.0) ∙ c.loop-row.invariant.3 in
    let here = row-at rule c.args.rows.items c.loop-row.yielded (into_iter_items c.next.new.self) c.in-Some.row are in
    let free : IsFree c.loop-row.order.items c.in-Some.row.place c.in-Some-free_index.index =
    subst (λ order. IsFree order c.in-Some.row.place c.in-Some-free_index.index) c.deref.ensures.value
    (subst (λ z. IsFree c.deref.result.now z c.in-Some-free_index.index) place c.in-Some-free_index.ensures.free) in
    let count : c.len-in-loop-row.result ≡ length c.loop-row.yielded = c.len-in-loop-row.ensures ∙ (c.loop-row.items.ok.0 ∙ c.loop-row.invariant.2.held.count_is) in
    let next : IsNext most_paragraphs (length c.loop-row.yielded) c.in-Some.row.id =
    subst (λ n. IsNext most_paragraphs n c.in-Some.row.id) count
    (subst (λ z. IsNext most_paragraphs c.len-in-loop-row.result z) id (c.is_next.ensures.0 c.if-not-is_next.false)) in
    let judged = subst (λ found. MatchOption found (¬ IsParaOn c.args.tables.now c.in-Some.row) (λ (held : HeldParagraph). IsParaOn c.args.tables.now c.in-Some.row × HasUtf8Texts tables.Para c.in-Some.row × IsHeldOf c.in-Some.row held))
    c.in-Some-2.is c.in_ok-paragraph.ensures in
    let pushed : c.push.new.self.items ≡ c.loop-row.items.items ++ c.in-Some-2.paragraph ∷ [] = search rules in
    let number : nat_abs (to_z w64 (of_z w64 c.row.inside.id)) ≡ length c.loop-row.yielded + 1 = ap nat_abs (id ∙ next.1) in (
      tt,
      tt,
      subst (λ k. AreHeldOf c.args.tables.now k c.args.rows.items c.push.new.self.items
          (set c.loop-row.order.items c.in-Some-free_index.index (nat_abs (to_z w64 (of_z w64 c.row.inside.id))))) (sym (length-append c.loop-row.yielded (c.in-Some.row ∷ [])))
          (subst (λ n. AreHeldOf c.args.tables.now (length c.loop-row.yielded + 1) c.args.rows.items c.push.new.self.items
          (set c.loop-row.order.items c.in-Some-free_index.index n)) (sym number)
          (subst (λ items. AreHeldOf c.args.tables.now (length c.loop-row.yielded + 1) c.args.rows.items items
          (set c.loop-row.order.items c.in-Some-free_index.index (length c.loop-row.yielded + 1))) (sym pushed)
          (held-more c.args.tables.now (length c.loop-row.yielded) c.args.rows.items c.loop-row.items.items c.loop-row.order.items c.loop-row.invariant.2
          c.in-Some.row c.in-Some-2.paragraph c.in-Some-free_index.index here next free judged.0 judged.1 judged.2))),
      append_assoc c.loop-row.yielded (c.in-Some.row ∷ []) (into_iter_items c.next.new.self) ∙ are,
    )
