use Rattle.std.proofs.Common.{◌+◌, ◌*◌, ◌≤◌, length}
use Rattle.std.specs.Prelude.{All}
use Rattle.desk_brf.specs.Counting.{in_volume}
use Rattle.desk_brf.specs.Volume.{HasSixDotCells}
use Rattle.desk_brf.specs.Volumes.{volume_of}
use Rattle.desk_brf.proofs.CheckLemmas.{Walking}
use Rattle.desk_brf.proofs.PuttingLemmas.{PuttingParagraphs}
use Rattle.desk_brf.proofs.volume.put_paragraphs.Given as goal

abbrev pub invariant-loop-paragraph : goal.invariant-loop-paragraph
invariant-loop-paragraph g l =
    record {
      walking : Walking l.book l.volumes.count l.paragraph-iterator;
      six_dot : All (HasSixDotCells l.book) (in_volume l.volume l.volumes.count l.paragraph-iterator);
      putting : PuttingParagraphs (g.K.Sink.contents l.initial.sink) (g.K.Sink.contents l.sink) l.book l.layout (volume_of l.book l.volume)
          (in_volume l.volume l.volumes.count l.paragraph-iterator) l.lines;
      fewer : l.lines + length l.paragraph-iterator * 84000000001 ≤ length l.book.paragraphs * 84000000001;
    }
