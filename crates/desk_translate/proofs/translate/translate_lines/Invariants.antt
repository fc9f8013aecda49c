use Rattle.desk_ends.proofs.UsedInput.{left_to_use}
use Rattle.desk_translate.proofs.Runs.{Answered}
use Rattle.desk_translate.proofs.translate.translate_lines.Given as goal

abbrev pub invariant-loop-is_whole : goal.invariant-loop-is_whole
invariant-loop-is_whole g l =
    Answered (g.B.RuleBook.meaning l.book) (g.S.Source.remaining l.fn.source) (g.S.Source.remaining l.source) (g.K.Sink.contents l.fn.sink) (g.K.Sink.contents l.sink) l.input

abbrev pub decreases-loop-is_whole : goal.decreases-loop-is_whole
decreases-loop-is_whole g l = left_to_use l.input
