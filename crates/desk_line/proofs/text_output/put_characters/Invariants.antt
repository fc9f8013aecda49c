use Rattle.std.proofs.Common.{◌++◌, drop}
use Rattle.desk_ends.proofs.Sending.{Sending}
use Rattle.desk_line.specs.ReplyLines.{shown_text}
use Rattle.desk_line.proofs.text_output.put_characters.Given as goal

abbrev pub invariant-loop-character : goal.invariant-loop-character
invariant-loop-character g l =
    Sending (g.K.Sink.contents l.initial.sink) (g.K.Sink.contents l.sink) l.block (shown_text (drop l.character-index l.characters)) (l.initial.block ++ shown_text l.characters)
