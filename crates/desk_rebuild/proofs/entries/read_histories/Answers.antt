use Rattle.std.proofs.Common.{◌≡◌, ℕ, ◌+◌, ◌<◌, ◌+ℤ◌, pos, Some, length, map, set, inl, inr, refl, sym, ap, subst, ◌∙◌, arith, w64, to_z, of_z, option_map, slice_get}
use Rattle.std.specs.Vec.Iter.{into_iter_items, into_iter_len}
use Rattle.std.proofs.lemmas.Int.{ints}
use Rattle.std.proofs.lemmas.Iterator.Adapters.{YieldsList-from_vec}
use Rattle.std.proofs.lemmas.Iterator.Consumers.{YieldsList-end, YieldsList-from_enumerate, YieldsList-turn}
use Rattle.std.proofs.lemmas.List.{length-map, length_push}
use Rattle.std.proofs.lemmas.List.FromFn.{length-enumerate_from}
use Rattle.std.proofs.lemmas.Option.{slice_get-map, slice_get_read, slice_get_within}
use Rattle.std.proofs.lemmas.Result.{err_from_is_err_and}
use Rattle.desk_rebuild.specs.declared.damage.RowsFault.TheVariants.{Damaged}
use Rattle.desk_rebuild.proofs.ReadGroups.{HaveReadTo, as-long, at-enumerate, read-all, read-more, unread-at}
use Rattle.desk_rebuild.proofs.entries.read_histories.Goals as goal
use Rattle.desk_rebuild.proofs.entries.read_histories.Goals.{After-index_mut}

-- a step has the next group, and the paragraph with the same index
step : (c : After-index_mut) → (c.in-Some.index ≡ length c.loop-index.yielded) × (length c.loop-index.yielded < length c.args.groups.items)
    × (slice_get (map (λ group. group.items) c.args.groups.items) (length c.loop-index.yielded) ≡ Some c.in-Some.rows.items)
    × (slice_get c.loop-index.items.items (length c.loop-index.yielded) ≡ Some c.index_mut.result.now)
step c =
    let groups = c.args.groups.items in
    let now = c.loop-index.items.items in
    let n = length c.loop-index.yielded in
    let source : c.into_iter-index-iterator.result.iter ≡ c.into_iter.result = cc in
    let road = YieldsList-from_enumerate {s = c.into_iter-index-iterator.result} (YieldsList-from_vec {s = c.into_iter-index-iterator.result.iter} groups (ap into_iter_items source ∙ c.into_iter.ensures.rest) (ap into_iter_len source ∙ (c.into_iter.ensures.len ∙ c.args.groups.ok.0))) (cc) in
    let step = YieldsList-turn road c.loop-index.yielded c.loop-index.index-iterator c.loop-index.yielded_by c.next.result c.next.new.self (c.in-Some.index, c.in-Some.rows) c.in-Some.is c.next.ensures.steps in
    let found = at-enumerate groups n c.in-Some.index c.in-Some.rows step.0 step.1 in
    let within = slice_get_within groups n c.in-Some.rows found.1 in
    let long = as-long (map (λ group. group.items) groups) c.args.items.now.items now n c.loop-index.invariant in
    let bound : c.in-Some.index < length now = (let here = found.0 in let all = c.requires in omega (arith, within, long, all, here)) in
    let at = slice_get_read now (length now) c.in-Some.index c.index_mut.result.now refl bound c.index_mut.ensures.value in
    (found.0, within, slice_get-map (λ group. group.items) groups n ∙ ap (option_map (λ group. group.items)) found.1, ap (slice_get now) (sym found.0) ∙ at)

pub loop-index-preserved : goal.loop-index-preserved
loop-index-preserved c =
    let here = step (goal.at.loop-index-preserved c).After-index_mut in
    let lists = map (λ group. group.items) c.args.groups.items in
    let was = c.args.items.now.items in
    let now = c.loop-index.items.items in
    let n = length c.loop-index.yielded in
    let more = read-more lists was now n c.loop-index.invariant c.in-Some.rows.items c.index_mut.result.now c.read_history.new.paragraph here.2 here.3 c.in_ok-read_history.ensures.same c.in_ok-read_history.ensures.read in
    subst (λ (k : ℕ). HaveReadTo lists was (set now c.in-Some.index c.read_history.new.paragraph) k) (sym (length_push c.loop-index.yielded (c.in-Some.index, c.in-Some.rows)))
    (subst (λ (k : ℕ). HaveReadTo lists was (set now k c.read_history.new.paragraph) (n + 1)) (sym here.0) more)

pub returns-in_err-read_history-clause-damaged : goal.returns-in_err-read_history-clause-damaged
returns-in_err-read_history-clause-damaged c =
    let here = step (goal.at.returns-in_err-read_history-clause-damaged c).After-index_mut in
    let groups = c.args.groups in
    let n = length c.loop-index.yielded in
    let id : to_z w64 (of_z w64 (to_z w64 c.in-Some.index +ℤ pos 1)) ≡ pos (n + 1) =
    (let index = here.0 in let within = here.1 in let held = groups.ok.0 in let room = groups.ok.1 in let small = groups.small in omega (arith, ints, index, within, held, room, small)) in
    let p = err_from_is_err_and c.from_residual.result c.from_residual.ensures.1 in
    let unread = unread-at (map (λ group. group.items) groups.items) c.args.items.now.items c.loop-index.items.items n c.loop-index.invariant c.in-Some.rows.items c.index_mut.result.now here.2 here.3 in
    rw p.1 (elim c.in_err-read_history.ensures.damaged [ inl refused ↦ inl (p.2 ∙ refused) | inr damaged ↦ inr (n, p.2 ∙ (damaged.0 ∙ ap Damaged id), unread damaged.1) ])

pub returns-clause-read : goal.returns-clause-read
returns-clause-read c =
    let groups = c.args.groups.items in
    let source : c.into_iter-index-iterator.result.iter ≡ c.into_iter.result = cc in
    let road = YieldsList-from_enumerate {s = c.into_iter-index-iterator.result} (YieldsList-from_vec {s = c.into_iter-index-iterator.result.iter} groups (ap into_iter_items source ∙ c.into_iter.ensures.rest) (ap into_iter_len source ∙ (c.into_iter.ensures.len ∙ c.args.groups.ok.0))) (cc) in
    let end = YieldsList-end road c.loop-index.yielded c.loop-index.index-iterator c.loop-index.yielded_by c.next.result c.next.new.self c.in-None.is c.next.ensures.steps in
    let many = length-map groups (λ group. group.items) in
    let all = length-enumerate_from 0 groups in
    read-all (map (λ group. group.items) groups) c.args.items.now.items c.loop-index.items.items (length c.loop-index.yielded) c.loop-index.invariant (let whole = end.1 in omega (arith, many, all, whole))
