use Rattle.std.proofs.Common.{◌≡◌}
use Rattle.desk_parts.specs.FileRows.{Unnamed, entries_in}
use Rattle.desk_rebuild.proofs.book.with_no_names.Given as goal

abbrev pub invariant-loop-entry : goal.invariant-loop-entry
invariant-loop-entry l = l.named.items ≡ entries_in (Unnamed l.yielded)
