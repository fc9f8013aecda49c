use Rattle.std.proofs.Common.{◌≡◌, ◌==◌, cond, false, true, not, sym, ap, ◌∙◌, filter}
use Rattle.desk_memory.specs.Held.{ids, with_id}
use Rattle.desk_model.specs.NextBook.{is_after}
use Rattle.desk_memory.proofs.Arranging.{ids-shown}
use Rattle.desk_memory.proofs.paragraphs.Paragraphs.order_with_move.Goals as goal

pub returns-then-stays_behind : goal.returns-then-stays_behind
returns-then-stays_behind c =
    let order = c.as_slice.ensures ∙ sym (ids-shown c.self.inside.items c.self.inside.order c.args.self.now c.self.invariant c.self.view_is) in
    let stays : is_after c.args.id c.args.after ≡ true = sym c.stays_behind.ensures ∙ c.if-stays_behind.true in
    c.from_vec.ensures ∙ c.in_ok-ids.ensures.items ∙ (order
    ∙ sym (ap (λ t. cond t (ids c.args.self.now) (with_id c.args.after c.args.id (filter (λ other. not (other == c.args.id)) (ids c.args.self.now)))) stays))

pub returns : goal.returns
returns c =
    let order = c.as_slice-2.ensures ∙ sym (ids-shown c.self.inside.items c.self.inside.order c.args.self.now c.self.invariant c.self.view_is) in
    let moves : is_after c.args.id c.args.after ≡ false = sym c.stays_behind.ensures ∙ c.if-stays_behind.false in
    let others = c.in_ok-others.ensures ∙ ap (filter (λ other. not (other == c.args.id))) order in
    c.from_vec-2.ensures ∙ c.in_ok-ids-2.ensures ∙ (ap (with_id c.args.after c.args.id) (c.deref.ensures.value ∙ others)
    ∙ sym (ap (λ t. cond t (ids c.args.self.now) (with_id c.args.after c.args.id (filter (λ other. not (other == c.args.id)) (ids c.args.self.now)))) moves))
