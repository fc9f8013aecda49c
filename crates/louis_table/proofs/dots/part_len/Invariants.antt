use Rattle.std.proofs.Common.{◌≡◌, ◌+◌, drop}
use Rattle.louis_table.specs.Steps.Dots.{part_len}
use Rattle.louis_table.proofs.dots.part_len.Given as goal

-- the rest of the part completes it
abbrev pub invariant-loop-i : goal.invariant-loop-i
invariant-loop-i l = l.i + part_len (drop l.i l.dots) ≡ part_len l.dots
