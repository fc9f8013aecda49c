use Rattle.std.proofs.Common.{◌≡◌, ◌-◌, ◌≤◌}
use Rattle.desk_memory.specs.Room.{room_of}
use Rattle.desk_memory.proofs.items.room_for.Given as goal

-- a list as long as the room has it, and so has one of so many items, once it is within
abbrev pub invariant-loop-room : goal.invariant-loop-room
invariant-loop-room l = (room_of l.room ≡ l.room) × (l.count ≤ l.room → room_of l.count ≡ l.room)

abbrev pub decreases-loop-room : goal.decreases-loop-room
decreases-loop-room l = l.count - l.room
