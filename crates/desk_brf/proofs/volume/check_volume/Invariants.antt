use Rattle.desk_brf.proofs.CheckLemmas.{Checking, Walking}
use Rattle.desk_brf.proofs.volume.check_volume.Given as goal

abbrev pub invariant-loop-paragraph : goal.invariant-loop-paragraph
invariant-loop-paragraph l =
    record {
      walking : Walking l.book l.volumes.count l.paragraph-iterator;
      checking : Checking l.book l.volume l.volumes.count l.paragraph-iterator l.is_there;
    }
