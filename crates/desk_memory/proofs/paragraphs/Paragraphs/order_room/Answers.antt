use Rattle.std.proofs.Common.{length, subst, sym, ◌∙◌, arith, IfOk}
use Rattle.desk_memory.specs.Room.{Suffices}
use Rattle.desk_memory.proofs.Arranging.{length-order, length-shown}
use Rattle.desk_memory.proofs.paragraphs.Paragraphs.order_room.Goals as goal

pub room-requires : goal.room-requires
room-requires c =
    let count = length-shown c.self.inside.items c.self.inside.order c.args.self.now c.self.invariant c.self.view_is in
    let ordered = length-order (length c.self.inside.items) c.self.inside.order c.self.invariant in
    omega (arith, count, ordered, c.requires)

pub returns : goal.returns
returns c =
    let count = length-shown c.self.inside.items c.self.inside.order c.args.self.now c.self.invariant c.self.view_is in
    let ordered = length-order (length c.self.inside.items) c.self.inside.order c.self.invariant in
    subst (λ n. IfOk c.room.result (Suffices n)) (sym (count ∙ sym ordered)) c.room.ensures
