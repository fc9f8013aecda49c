use Rattle.std.proofs.Common.{◌≡◌, length, subst, sym, ap, ◌∙◌, IsPermutation}
use Rattle.std.specs.List.{flat_map, range_with_len}
use Rattle.desk_memory.specs.Held.{in_order_of, paragraph_with_id}
use Rattle.desk_memory.proofs.Arranging.{AreUpTo-order, in_order_of-in_order, length-order, length-shown}
use Rattle.desk_memory.proofs.paragraphs.Paragraphs.reorder.Goals as goal

pub put_over-requires : goal.put_over-requires
put_over-requires c =
    let count = length-shown c.self.inside.items c.self.inside.order c.args.self.now c.self.invariant c.self.view_is in
    let given : c.as_slice.result.now ≡ c.args.order = c.as_slice.ensures in
    ap length given
    ∙ (length-order (length c.args.self.now) c.args.order c.requires
    ∙ (count ∙ sym (length-order (length c.self.inside.items) c.self.inside.order c.self.invariant)))

pub invariant_of-self : goal.invariant_of-self
invariant_of-self c =
    let given : c.as_slice.result.now ≡ c.args.order = c.as_slice.ensures in
    let count = length-shown c.self.inside.items c.self.inside.order c.args.self.now c.self.invariant c.self.view_is in
    rw (c.put_over.ensures, given) (subst (λ n. IsPermutation (range_with_len 1 n) c.args.order) count c.requires)

pub returns : goal.returns
returns c =
    let items = c.self.inside.items in
    let given : c.as_slice.result.now ≡ c.args.order = c.as_slice.ensures in
    let count = length-shown items c.self.inside.order c.args.self.now c.self.invariant c.self.view_is in
    let up = AreUpTo-order (length items) c.args.order (subst (λ n. IsPermutation (range_with_len 1 n) c.args.order) count c.requires) in
    ap (flat_map (paragraph_with_id items)) (c.put_over.ensures ∙ given)
    ∙ (sym (in_order_of-in_order items c.self.inside.order c.self.invariant c.args.order up)
    ∙ ap (in_order_of c.args.order) c.self.view_is)
