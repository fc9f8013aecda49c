use Rattle.std.proofs.Common.{refl}
use Rattle.desk_program.specs.Books.{Holds, place_at}
use Rattle.desk_program.proofs.Outcomes.{Holds-none, after_session-ends, closed-as}
use Rattle.desk_program.proofs.books.hold_session.Goals as goal

pub returns-in_err-store : goal.returns-in_err-store
returns-in_err-store g c =
    Holds-none _ _ _ c.in_err-store.field-0.0 _ _ c.from_residual.result c.in_err-store.ensures c.from_residual.ensures.1

pub returns-in-Done : goal.returns-in-Done
returns-in-Done g c =
    let at = place_at g.F.Shelf g.F.Database.Store g.F.Databases.connects g.F.Databases.closes c.args.rt.now c.args.path.now in
    let closed = closed-as at c.release.result c.serve-ended.new.store.connection c.into_store.result c.release.ensures.same c.close.ensures c.into_store.ensures.undone c.into_store.ensures.quiet in
    Holds.held c.in_ok-store.book _ c.in_ok-store.store.connection c.serve-ended.new.store.connection c.serve-ended.result.0
    c.in_ok-store.ensures.0 c.serve-ended.ensures.served (λ clean lost. c.serve-ended.ensures.cause clean c.in_ok-store.ensures.1 lost) closed (rw c.in-Done.is refl)

pub returns-in-Input : goal.returns-in-Input
returns-in-Input g c =
    let at = place_at g.F.Shelf g.F.Database.Store g.F.Databases.connects g.F.Databases.closes c.args.rt.now c.args.path.now in
    let closed = closed-as at c.release.result c.serve-ended.new.store.connection c.into_store.result c.release.ensures.same c.close.ensures c.into_store.ensures.undone c.into_store.ensures.quiet in
    Holds.held c.in_ok-store.book _ c.in_ok-store.store.connection c.serve-ended.new.store.connection c.serve-ended.result.0
    c.in_ok-store.ensures.0 c.serve-ended.ensures.served (λ clean lost. c.serve-ended.ensures.cause clean c.in_ok-store.ensures.1 lost) closed (after_session-ends c.serve-ended.result.0 c.in-Input.is)

pub returns-in-Lost : goal.returns-in-Lost
returns-in-Lost g c =
    let at = place_at g.F.Shelf g.F.Database.Store g.F.Databases.connects g.F.Databases.closes c.args.rt.now c.args.path.now in
    let closed = closed-as at c.release.result c.serve-ended.new.store.connection c.into_store.result c.release.ensures.same c.close.ensures c.into_store.ensures.undone c.into_store.ensures.quiet in
    Holds.held c.in_ok-store.book _ c.in_ok-store.store.connection c.serve-ended.new.store.connection c.serve-ended.result.0
    c.in_ok-store.ensures.0 c.serve-ended.ensures.served (λ clean lost. c.serve-ended.ensures.cause clean c.in_ok-store.ensures.1 lost) closed (rw c.in-Lost.is refl)
