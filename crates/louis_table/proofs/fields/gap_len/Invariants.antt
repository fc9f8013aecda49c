use Rattle.std.proofs.Common.{◌≡◌, ◌+◌, drop}
use Rattle.std.specs.List.{prefix_len}
use Rattle.louis_table.specs.Fields.{is_gap}
use Rattle.louis_table.proofs.fields.gap_len.Given as goal

-- the rest of the gap completes it
abbrev pub invariant-loop-i : goal.invariant-loop-i
invariant-loop-i l = l.i + prefix_len is_gap (drop l.i l.text) ≡ prefix_len is_gap l.text
