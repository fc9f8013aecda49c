use Rattle.std.proofs.Common.{is_ok, ap}
use Rattle.desk_brf.proofs.SendLemmas.{Transmits-then, number_line-short}
use Rattle.desk_brf.proofs.page.end_page.Goals as goal

pub end_line-requires : goal.end_line-requires
end_line-requires g c = rw c.lay_number.ensures (number_line-short c.args.width c.args.number c.requires.width c.ranges.number.fits)

pub returns-clause-sent : goal.returns-clause-sent
returns-clause-sent g c =
    let e = c.lay_number.ensures in
    Transmits-then g.K.Sink.can_fail _ _ _ _ _ _ _ (rw e at c.end_line.ensures.sent) (ap is_ok c.in_ok-end_line.was) c.send.ensures
