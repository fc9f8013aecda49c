use Rattle.std.proofs.Common.{◌≡◌, ℕ, List, ◌-◌, length, slice_get, Some, None, refl, sym, ap, ◌∙◌, arith, IsPermutation}
use Rattle.std.proofs.lemmas.Option.{slice_get_read}
use Rattle.desk_memory.proofs.Arranging.{AreUpTo-order, IsUpTo, slice_get_none-in_order, slice_get_some-in_order}
use Rattle.desk_model.proofs.Lists.Items.{All-slice_get, option_copied-item}
use Rattle.desk_memory.proofs.WalkedLists.{lent-there}
use Rattle.std.specs.Borrow.{Bor}
use Rattle.std.specs.List.{range_with_len}
use Rattle.std.specs.Slice.{IsItemAt}
use Rattle.desk_memory.proofs.paragraphs.Paragraphs.at.Goals as goal

-- an id that stands in the order is one of so many
id-at : (list order : List ℕ) (place : ℕ) (id : Bor ℕ) → IsItemAt list place (Some id) → list ≡ order → (count : ℕ) → IsPermutation (range_with_len 1 count) order
    → (slice_get order place ≡ Some id.now) × IsUpTo count id.now
id-at list order place id is same count permutes =
    let there = ap (λ ids. slice_get ids place) (sym same) ∙ lent-there list place (Some id) is id refl in
    (there, All-slice_get (IsUpTo count) order place id.now (AreUpTo-order count order permutes) there)

pub returns-in_err-id : goal.returns-in_err-id
returns-in_err-id c =
    let items = c.self.inside.items in
    let order = c.self.inside.order in
    let none : slice_get order c.args.place ≡ None =
    sym (option_copied-item c.as_slice-order.result.now c.args.place None c.in_err-id.ensures.lookup ∙ ap (λ list. slice_get list c.args.place) c.as_slice-order.ensures) in
    rw c.from_residual.ensures (sym (sym (ap (λ list. slice_get list c.args.place) c.self.view_is)
    ∙ slice_get_none-in_order items order c.args.place (AreUpTo-order (length items) order c.self.invariant) none))

pub overflow_sub-result : goal.overflow_sub-result
overflow_sub-result c =
    let there = id-at c.as_slice-order.result.now c.self.inside.order c.args.place c.in_ok-id.field-0 c.in_ok-id.ensures.lookup c.as_slice-order.ensures (length c.self.inside.items) c.self.invariant in
    there.1.0

pub bounds-items-id : goal.bounds-items-id
bounds-items-id c =
    let there = id-at c.as_slice-order.result.now c.self.inside.order c.args.place c.in_ok-id.field-0 c.in_ok-id.ensures.lookup c.as_slice-order.ensures (length c.self.inside.items) c.self.invariant in
    omega (arith, there.1.0, there.1.1, ap length c.as_slice-items.ensures)

pub offset_bounds-items-id : goal.offset_bounds-items-id
offset_bounds-items-id c =
    let there = id-at c.as_slice-order.result.now c.self.inside.order c.args.place c.in_ok-id.field-0 c.in_ok-id.ensures.lookup c.as_slice-order.ensures (length c.self.inside.items) c.self.invariant in
    omega (arith, there.1.0, there.1.1, ap length c.as_slice-items.ensures, c.as_slice-items.type_inv.1)

pub returns : goal.returns
returns c =
    let items = c.self.inside.items in
    let order = c.self.inside.order in
    let up = AreUpTo-order (length items) order c.self.invariant in
    let there = id-at c.as_slice-order.result.now c.self.inside.order c.args.place c.in_ok-id.field-0 c.in_ok-id.ensures.lookup c.as_slice-order.ensures (length c.self.inside.items) c.self.invariant in
    let long = ap length c.as_slice-items.ensures in
    let item = sym (ap (λ list. slice_get list (c.in_ok-id.field-0.now - 1)) c.as_slice-items.ensures)
    ∙ slice_get_read c.as_slice-items.result.now (length c.as_slice-items.result.now) (c.in_ok-id.field-0.now - 1) c.index-items-id.result refl (omega (arith, there.1.0, there.1.1, long)) c.index-items-id.is in
    sym (sym (ap (λ list. slice_get list c.args.place) c.self.view_is)
    ∙ slice_get_some-in_order items order c.args.place c.in_ok-id.field-0.now c.index-items-id.result up there.0 item)
