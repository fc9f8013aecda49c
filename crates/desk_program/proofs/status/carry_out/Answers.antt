use Rattle.std.proofs.Common.{refl, inr}
use Rattle.desk_program.proofs.status.carry_out.Goals as goal

pub returns-in-New : goal.returns-in-New
returns-in-New g c = rw c.in-New.is (c.make_book.ensures, refl)

pub returns-in-Session : goal.returns-in-Session
returns-in-Session g c = rw c.in-Session.is c.hold_session.ensures

pub returns-in_ok-new-in-Export :
    goal.returns-in_ok-new-in-Export
returns-in_ok-new-in-Export g c =
    rw c.in-Export.is
    (refl, inr (c.in_ok-new-in-Export.ensures.limits.0 refl, rw c.in_ok-new-in-Export.ensures.layout at c.export_from.ensures))

pub returns-in-Check : goal.returns-in-Check
returns-in-Check g c = rw c.in-Check.is (c.check_book.ensures, refl)
