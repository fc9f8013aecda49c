use Rattle.std.proofs.Common.{subst, sym, arith, IfOk}
use Rattle.desk_memory.specs.Room.{Suffices}
use Rattle.desk_memory.proofs.Arranging.{length-shown}
use Rattle.desk_memory.proofs.paragraphs.Paragraphs.room.Goals as goal

pub room-requires : goal.room-requires
room-requires c =
    let count = length-shown c.self.inside.items c.self.inside.order c.args.self.now c.self.invariant c.self.view_is in
    omega (arith, count, c.requires)

pub returns : goal.returns
returns c =
    let count = length-shown c.self.inside.items c.self.inside.order c.args.self.now c.self.invariant c.self.view_is in
    subst (λ n. IfOk c.room.result (Suffices n)) (sym count) c.room.ensures
