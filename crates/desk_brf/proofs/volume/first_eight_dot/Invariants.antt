use Rattle.std.proofs.Common.{take}
use Rattle.std.specs.Prelude.{All}
use Rattle.desk_brf.specs.Volume.{IsSixDot}
use Rattle.desk_brf.proofs.volume.first_eight_dot.Given as goal

abbrev pub invariant-loop-i : goal.invariant-loop-i
invariant-loop-i l = All IsSixDot (take l.i l.cells)
