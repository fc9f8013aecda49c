use Rattle.std.proofs.Common.{◌≡◌, true, take}
use Rattle.std.specs.Prelude.{All}
use Rattle.desk_brf.specs.Volume.{IsSixDot}
use Rattle.desk_brf.proofs.volume.are_six_dot.Given as goal

abbrev pub invariant-loop-cell : goal.invariant-loop-cell
invariant-loop-cell l = l.six_dot ≡ true → All IsSixDot (take l.cell-index l.cells)
