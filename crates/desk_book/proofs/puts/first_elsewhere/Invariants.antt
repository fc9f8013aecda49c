use Rattle.std.proofs.Common.{◌≡◌}
use Rattle.desk_book.specs.ChangePuts.{elsewhere_from}
use Rattle.desk_book.proofs.puts.first_elsewhere.Given as goal

-- the paragraphs before the index stay
abbrev pub invariant-loop-index : goal.invariant-loop-index
invariant-loop-index l = elsewhere_from l.from l.was l.order ≡ elsewhere_from l.index l.was l.order
