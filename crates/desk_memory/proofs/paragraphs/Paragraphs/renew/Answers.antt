use Rattle.std.proofs.Common.{◌≡◌, length, map, vec_len, sym, ap, ap₂, ◌∙◌, flat_map}
use Rattle.std.proofs.lemmas.List.{with_items_is}
use Rattle.desk_memory.specs.declared.paragraphs.Paragraphs.TheInside.{Inside}
use Rattle.desk_memory.specs.Held.{paragraph_with_id, renewed_items, with_new_cells}
use Rattle.desk_memory.proofs.Renewing.{length-renewed_items, with_new_cells-in_order}
use Rattle.desk_memory.proofs.paragraphs.Paragraphs.renew.Goals as goal

pub returns : goal.returns
returns c =
    let items = c.self.inside.items in
    let order = c.self.inside.order in
    let cells = c.args.cells.items in
    let vector = c.self-inside.inside.0.0.items in
    let shown : vector.items ≡ items = ap (λ (s : Inside). s.items) c.self-inside.view_is in
    let placed : c.self-inside.inside.0.1.0 ≡ order = ap (λ (s : Inside). s.order) c.self-inside.view_is in
    let was = c.deref_mut.ensures.value in
    let long : length c.renew_paragraphs.new.paragraphs ≡ vec_len vector =
    ap length c.renew_paragraphs.ensures ∙ (length-renewed_items cells c.deref_mut.result.now ∙ (ap length was ∙ sym vector.ok.0)) in
    ap₂ (λ list ids. flat_map (paragraph_with_id list) ids) (with_items_is vector c.renew_paragraphs.new.paragraphs long ∙ (c.renew_paragraphs.ensures ∙ ap (renewed_items cells) (was ∙ shown))) placed
    ∙ (sym (with_new_cells-in_order cells items order c.self.invariant) ∙ ap (map (with_new_cells cells)) c.self.view_is)
