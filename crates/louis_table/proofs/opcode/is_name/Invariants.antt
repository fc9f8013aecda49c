use Rattle.std.proofs.Common.{◌≡◌, length, bytes_eq}
use Rattle.louis_table.proofs.opcode.is_name.Given as goal

-- what is left of both decides
abbrev pub invariant-loop-field : goal.invariant-loop-field
invariant-loop-field l = bytes_eq l.field l.name ≡ bytes_eq l.initial.field l.initial.name

abbrev pub decreases-loop-field : goal.decreases-loop-field
decreases-loop-field l = length l.field
