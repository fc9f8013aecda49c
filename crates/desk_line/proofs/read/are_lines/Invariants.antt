use Rattle.std.proofs.Common.{◌≡◌, length}
use Rattle.louis_table.specs.Lines.{lines_of}
use Rattle.desk_line.specs.ReadingSteps.{are_lines}
use Rattle.desk_line.proofs.read.are_lines.Given as goal

-- the lines that are left decide
abbrev pub invariant-loop-rest : goal.invariant-loop-rest
invariant-loop-rest l = are_lines (lines_of l.fn.bytes) l.fn.count ≡ are_lines (lines_of l.rest) l.left

abbrev pub decreases-loop-rest : goal.decreases-loop-rest
decreases-loop-rest l = length l.rest
