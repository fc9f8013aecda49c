use Rattle.std.proofs.Common.{◌≡◌}
use Rattle.desk_book.specs.Filling.{entries_left}
use Rattle.desk_book.proofs.filling.first_entry.Given as goal

-- the paragraphs before the place have no more entries
abbrev pub invariant-loop-place : goal.invariant-loop-place
invariant-loop-place l = entries_left l.from l.without l.paragraphs ≡ entries_left l.place l.at l.paragraphs
