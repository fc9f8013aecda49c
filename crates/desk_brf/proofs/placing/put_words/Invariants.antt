use Rattle.std.proofs.Common.{◌≡◌, ◌+◌, ◌≤◌, [], length}
use Rattle.std.specs.Prelude.{All}
use Rattle.desk_brf.specs.Volume.{IsSixDot}
use Rattle.desk_brf.specs.Words.{IsAtWord, words}
use Rattle.desk_brf.specs.Placing.{first_indent, other_indent}
use Rattle.desk_brf.proofs.PutLemmas.{Putting}
use Rattle.desk_brf.proofs.placing.put_words.Given as goal

abbrev pub invariant-loop-rest : goal.invariant-loop-rest
invariant-loop-rest g l =
    record {
      putting : Putting (g.K.Sink.contents l.initial.sink) (g.K.Sink.contents l.sink) l.layout (first_indent l.style) (other_indent l.style)
          l.indent (words l.initial.rest) (words l.rest) l.initial.lines l.lines;
      at_word : IsAtWord l.rest;
      dots : All IsSixDot l.rest;
      small : l.indent ≤ 4;
      empty : l.line ≡ [];
      fewer : l.lines + length l.rest ≤ l.initial.lines + length l.initial.rest;
    }

abbrev pub decreases-loop-rest : goal.decreases-loop-rest
decreases-loop-rest g l = length l.rest
