use Rattle.desk_program.specs.Books.{place_at}
use Rattle.desk_program.proofs.Outcomes.{closed-as}
use Rattle.desk_program.proofs.books.read_book.Goals as goal

pub returns : goal.returns
returns g c =
    let at = place_at g.F.Shelf g.F.Database.Store g.F.Databases.connects g.F.Databases.closes c.args.rt.now c.args.path.now in
    let closed = closed-as at c.release.result c.in_ok-store.store.connection c.into_store.result c.release.ensures.same c.close.ensures c.into_store.ensures.undone c.into_store.ensures.quiet in
    (c.in_ok-store.store.connection, c.in_ok-store.ensures.0, closed)
