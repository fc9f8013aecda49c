use Rattle.std.proofs.Common.{◌≡◌, ◌+◌, ◌≤◌, length}
use Rattle.std.specs.Prelude.{All}
use Rattle.desk_brf.specs.Laying.{AddsWords}
use Rattle.desk_brf.specs.Volume.{IsSixDot}
use Rattle.desk_brf.specs.Words.{IsAtWord, words}
use Rattle.desk_brf.proofs.placing.add_words.Given as goal

abbrev pub invariant-loop-len : goal.invariant-loop-len
invariant-loop-len l =
    record {
      added : AddsWords l.fn.used (words l.cells) (words l.rest) l.initial.line l.line l.used;
      at_word : IsAtWord l.rest;
      dots : All IsSixDot l.rest;
      fewer : length l.rest ≤ length l.cells;
      fits : l.used ≤ l.room;
      length_is : length l.line + l.fn.used ≡ length l.initial.line + l.used;
    }

abbrev pub decreases-loop-len : goal.decreases-loop-len
decreases-loop-len l = length l.rest
