use Rattle.std.proofs.Common.{refl}
use Rattle.desk_program.specs.Books.{FindsNone, place_at}
use Rattle.desk_program.proofs.Outcomes.{closed-as, none-unconnected}
use Rattle.desk_program.proofs.books.open_store.Goals as goal

pub returns-in_err-connection : goal.returns-in_err-connection
returns-in_err-connection g c =
    let at = place_at g.F.Shelf g.F.Database.Store g.F.Databases.connects g.F.Databases.closes c.args.rt.now c.args.path.now in
    none-unconnected at c.args.make c.from_residual.result _ c.in_err-connection.field-0.0 c.in_err-connection.ensures.fault
    c.from_residual.ensures.1

pub returns-in-Ok : goal.returns-in-Ok
returns-in-Ok g c =
    rw c.over.ensures
    (record { first = c.in_ok-connection.connection; connected = c.in_ok-connection.ensures.named; opens = c.in-Ok.ensures.opens }, refl)

pub returns-in-Err : goal.returns-in-Err
returns-in-Err g c =
    let at = place_at g.F.Shelf g.F.Database.Store g.F.Databases.connects g.F.Databases.closes c.args.rt.now c.args.path.now in
    let last = c.open_on.new.connection in
    let closed = closed-as at last last c.into_store.result refl c.close.ensures c.into_store.ensures.undone c.into_store.ensures.quiet in
    FindsNone.unopened c.in_ok-connection.connection last c.in-Err.fault c.in_ok-connection.ensures.named
    c.in-Err.ensures.opens closed c.from.ensures
