use Rattle.std.proofs.Common.{◌≡◌, ◌+◌, ◌++◌, length}
use Rattle.std.specs.Prelude.{replicate}
use Rattle.desk_brf.proofs.page_line.PageLine.push_blanks.Given as goal

abbrev pub invariant-loop : goal.invariant-loop
invariant-loop l = (l.self ≡ l.initial.self ++ replicate l.counter 32) × (length l.self ≡ length l.initial.self + l.counter)
