use Rattle.std.proofs.Common.{◌≡◌, ◌+◌, ◌∷◌, ◌++◌, [], length, subst, sym, ap, ap₂, ◌∙◌, arith, IsPermutation, length-append}
use Rattle.std.specs.List.{flat_map, insert, range_with_len}
use Rattle.desk_memory.specs.Held.{ids, in_order_of, paragraph_with_id}
use Rattle.desk_memory.specs.Room.{Suffices}
use Rattle.desk_memory.proofs.Arranging.{ids-shown, in_order_of-pushed, length-order, length-shown}
use Rattle.desk_memory.proofs.paragraphs.Paragraphs.add.Goals as goal

pub overflow_add-id : goal.overflow_add-id
overflow_add-id c =
    let count = length-shown c.self.inside.items c.self.inside.order c.args.self.now c.self.invariant c.self.view_is in
    omega (arith, count, c.requires.few, c.len.ensures)

pub push-requires-clause-few : goal.push-requires-clause-few
push-requires-clause-few c =
    let count = length-shown c.self.inside.items c.self.inside.order c.args.self.now c.self.invariant c.self.view_is in
    omega (arith, count, c.requires.few)

pub push-requires-clause-room : goal.push-requires-clause-room
push-requires-clause-room c =
    subst (λ n. Suffices n c.args.room) (length-shown c.self.inside.items c.self.inside.order c.args.self.now c.self.invariant c.self.view_is) c.requires.room

pub insert-requires-clause-few : goal.insert-requires-clause-few
insert-requires-clause-few c =
    let count = length-shown c.self.inside.items c.self.inside.order c.args.self.now c.self.invariant c.self.view_is in
    let ordered = length-order (length c.self.inside.items) c.self.inside.order c.self.invariant in
    omega (arith, count, ordered, c.requires.few)

pub insert-requires-clause-room : goal.insert-requires-clause-room
insert-requires-clause-room c =
    let count = length-shown c.self.inside.items c.self.inside.order c.args.self.now c.self.invariant c.self.view_is in
    let ordered = length-order (length c.self.inside.items) c.self.inside.order c.self.invariant in
    subst (λ n. Suffices n c.args.order_room) (count ∙ sym ordered) c.requires.order_room

pub insert-requires-clause-place : goal.insert-requires-clause-place
insert-requires-clause-place c =
    let count = length-shown c.self.inside.items c.self.inside.order c.args.self.now c.self.invariant c.self.view_is in
    let ordered = length-order (length c.self.inside.items) c.self.inside.order c.self.invariant in
    omega (arith, count, ordered, c.requires.place)

pub invariant_of-self : goal.invariant_of-self
invariant_of-self c =
    let items = c.self.inside.items in
    let order = c.self.inside.order in
    let count = length-shown items order c.args.self.now c.self.invariant c.self.view_is in
    let more : length c.args.self.now + 1 ≡ length (items ++ c.args.paragraph ∷ []) = omega (arith, count, length-append items (c.args.paragraph ∷ [])) in
    let put = ap₂ (λ list n. insert list c.args.place (n + 1)) (ids-shown items order c.args.self.now c.self.invariant c.self.view_is) (count ∙ sym c.len.ensures) in
    rw (c.push.ensures, c.insert.ensures)
    (subst (λ n. IsPermutation (range_with_len 1 n) (insert order c.args.place (c.len.result + 1))) more
    (subst (IsPermutation (range_with_len 1 (length c.args.self.now + 1))) put c.requires.order))

pub returns : goal.returns
returns c =
    let items = c.self.inside.items in
    let order = c.self.inside.order in
    let count = length-shown items order c.args.self.now c.self.invariant c.self.view_is in
    let other = insert (ids c.args.self.now) c.args.place (length c.args.self.now + 1) in
    let put = ap₂ (λ list n. insert list c.args.place (n + 1)) (ids-shown items order c.args.self.now c.self.invariant c.self.view_is) (count ∙ sym c.len.ensures) in
    let others = subst (λ n. IsPermutation (range_with_len 1 (n + 1)) other) count c.requires.order in
    ap₂ (λ list ids. flat_map (paragraph_with_id list) ids) c.push.ensures (c.insert.ensures ∙ sym put)
    ∙ (sym (in_order_of-pushed items order other c.args.paragraph c.self.invariant others)
    ∙ ap (in_order_of other) (ap₂ (λ list n. list ++ (n + 1, c.args.paragraph) ∷ []) c.self.view_is (sym count)))
