use Rattle.std.proofs.Common.{◌≡◌, ◌+◌, drop}
use Rattle.louis_table.specs.Steps.Fields.{field_len}
use Rattle.louis_table.proofs.fields.front_field_len.Given as goal

-- the rest of the field completes it
abbrev pub invariant-loop-i : goal.invariant-loop-i
invariant-loop-i l = l.i + field_len (drop l.i l.text) ≡ field_len l.text
