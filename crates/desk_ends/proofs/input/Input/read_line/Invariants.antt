use Rattle.std.proofs.Common.{◌-◌}
use Rattle.desk_ends.specs.Limits.{most_input}
use Rattle.desk_ends.proofs.LineReading.{IsReading}
use Rattle.desk_ends.proofs.input.Input.read_line.Given as goal

abbrev pub invariant-loop-self : goal.invariant-loop-self
invariant-loop-self g l = IsReading (g.S.Source.remaining l.fn.source) (g.S.Source.remaining l.source) l.fn.self l.self l.line

abbrev pub decreases-loop-self : goal.decreases-loop-self
decreases-loop-self g l = most_input - l.self.total
