use Rattle.std.proofs.Common.{◌∷◌, ◌++◌, codes, drop}
use Rattle.std.specs.Prelude.{map}
use Rattle.desk_ends.proofs.Sending.{Sending}
use Rattle.desk_line.specs.ReplyLines.{line_of}
use Rattle.desk_line.proofs.Putting.{ended}
use Rattle.desk_line.proofs.text_output.put_fields.Given as goal

abbrev pub invariant-loop-field : goal.invariant-loop-field
invariant-loop-field g l =
    Sending (g.K.Sink.contents l.fn.sink) (g.K.Sink.contents l.sink) l.block (ended (λ field. field.now) (drop l.field-index l.fields))
    (l.fn.block ++ line_of (codes "|" ∷ map (λ field. field.now) l.fields))
