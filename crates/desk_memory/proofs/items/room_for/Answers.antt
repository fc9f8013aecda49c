use Rattle.desk_memory.proofs.RoomLists.{room_of-past}
use Rattle.desk_memory.proofs.items.room_for.Goals as goal

pub loop-room-preserved : goal.loop-room-preserved
loop-room-preserved c = room_of-past c.loop-room.room c.args.count c.loop-room-test.true c.loop-room.invariant.0
