use Rattle.std.proofs.Common.{◌≡◌, ◌+◌, [], length, Some, None, subst, sym, ap, ap₂, ◌∙◌, arith, Contains, insert, position, nat_eq}
use Rattle.desk_model.specs.declared.command.Anchor.{Anchor}
use Rattle.desk_model.specs.declared.command.Anchor.TheVariants.{End, Para}
use Rattle.desk_memory.specs.Held.{ids, with_id}
use Rattle.desk_model.specs.Named.{paragraph_before}
use Rattle.desk_memory.proofs.Arranging.{ids-shown, length-order, length-shown}
use Rattle.desk_model.proofs.Lists.Members.{Contains-here}
use Rattle.desk_model.proofs.Lists.Numbering.{IsDistinct-numbers}
use Rattle.desk_memory.proofs.OrderPlaces.{insert-behind, insert-end, position-at, position-there}
use Rattle.desk_memory.proofs.paragraphs.Paragraphs.place_for.Goals as goal

pub unreachable-requires : goal.unreachable-requires
unreachable-requires c =
    let id = c.in-Para.id in
    let order = c.self.inside.order in
    let nowhere : position (λ other. nat_eq other id) order ≡ None =
    sym (c.place_of.ensures ∙ ap (position (λ other. nat_eq other id)) c.as_slice.ensures) ∙ c.in-None.is in
    let named : Contains (paragraph_before c.args.after) id = subst (λ (anchor : Anchor). Contains (paragraph_before anchor) id) (sym c.in-Para.is) (Contains-here id []) in
    let there = position-there id order (subst (λ list. Contains list id) (ids-shown c.self.inside.items c.self.inside.order c.args.self.now c.self.invariant c.self.view_is) (c.requires id named)) in
    let both : Some there.0 ≡ None = sym there.1 ∙ nowhere in
    cc

pub returns-in-End-clause-within : goal.returns-in-End-clause-within
returns-in-End-clause-within c =
    let count = length-shown c.self.inside.items c.self.inside.order c.args.self.now c.self.invariant c.self.view_is in
    let ordered = length-order (length c.self.inside.items) c.self.inside.order c.self.invariant in
    omega (arith, count, ordered, c.len.ensures)

pub returns-in-End-clause-place : goal.returns-in-End-clause-place
returns-in-End-clause-place c = λ new.
    let shown = ids-shown c.self.inside.items c.self.inside.order c.args.self.now c.self.invariant c.self.view_is in
    ap₂ (λ list n. insert list n new) shown c.len.ensures
    ∙ (insert-end new c.self.inside.order
    ∙ (ap (with_id End new) (sym shown) ∙ ap (λ (anchor : Anchor). with_id anchor new (ids c.args.self.now)) (sym c.in-End.is)))

pub returns-in-Some-clause-within : goal.returns-in-Some-clause-within
returns-in-Some-clause-within c =
    let order = c.self.inside.order in
    let count = length-shown c.self.inside.items c.self.inside.order c.args.self.now c.self.invariant c.self.view_is in
    let found : position (λ other. nat_eq other c.in-Para.id) order ≡ Some c.in-Some.place =
    sym (c.place_of.ensures ∙ ap (position (λ other. nat_eq other c.in-Para.id)) c.as_slice.ensures) ∙ c.in-Some.is in
    let at = position-at c.in-Para.id c.in-Some.place order found in
    omega (arith, count, length-order (length c.self.inside.items) order c.self.invariant, at.0)

pub returns-in-Some-clause-place : goal.returns-in-Some-clause-place
returns-in-Some-clause-place c = λ new.
    let id = c.in-Para.id in
    let order = c.self.inside.order in
    let shown = ids-shown c.self.inside.items c.self.inside.order c.args.self.now c.self.invariant c.self.view_is in
    let found : position (λ other. nat_eq other id) order ≡ Some c.in-Some.place =
    sym (c.place_of.ensures ∙ ap (position (λ other. nat_eq other id)) c.as_slice.ensures) ∙ c.in-Some.is in
    let at = position-at id c.in-Some.place order found in
    ap (λ list. insert list (c.in-Some.place + 1) new) shown
    ∙ (insert-behind id new c.in-Some.place order (IsDistinct-numbers (length c.self.inside.items) order c.self.invariant) at.1
    ∙ (ap (with_id (Para id) new) (sym shown) ∙ ap (λ (anchor : Anchor). with_id anchor new (ids c.args.self.now)) (sym c.in-Para.is)))
