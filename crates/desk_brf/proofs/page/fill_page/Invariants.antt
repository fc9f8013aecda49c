use Rattle.desk_brf.specs.Laying.{bytes_of_lines}
use Rattle.std.proofs.Common.{◌≡◌, ◌+◌, ◌-◌, []}
use Rattle.std.specs.Prelude.{replicate}
use Rattle.desk_ends.proofs.Sending.{Sending}
use Rattle.desk_brf.proofs.page.fill_page.Given as goal

abbrev pub invariant-loop : goal.invariant-loop
invariant-loop g l =
    (l.line ≡ []) × (l.lines ≡ l.initial.lines + l.counter)
    × Sending (g.K.Sink.contents l.initial.sink) (g.K.Sink.contents l.sink) []
    (bytes_of_lines l.layout l.lines (replicate (l.blank - l.counter) [])) (bytes_of_lines l.layout l.initial.lines (replicate l.blank []))
