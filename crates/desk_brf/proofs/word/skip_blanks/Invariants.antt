use Rattle.std.proofs.Common.{◌≡◌, ◌≤◌, length}
use Rattle.std.specs.Prelude.{All}
use Rattle.desk_brf.specs.Volume.{IsSixDot}
use Rattle.desk_brf.specs.Words.{words}
use Rattle.desk_brf.proofs.word.skip_blanks.Given as goal

abbrev pub invariant-loop-rest : goal.invariant-loop-rest
invariant-loop-rest l = (words l.rest ≡ words l.initial.rest) × (length l.rest ≤ length l.initial.rest)
    × (All IsSixDot l.initial.rest → All IsSixDot l.rest)

abbrev pub decreases-loop-rest : goal.decreases-loop-rest
decreases-loop-rest l = length l.rest
