use Rattle.desk_store.proofs.Exits.{reported_is}
use Rattle.desk_store.proofs.store.Store.adopt.Goals as goal

pub returns-in_err-book-clause-reported : goal.returns-in_err-book-clause-reported
returns-in_err-book-clause-reported g c =
    rw (reported_is _ c.from_residual.ensures.1) (c.open_on.new.connection, c.in_err-book.ensures.opens)

pub returns-clause-opens : goal.returns-clause-opens
returns-clause-opens g c = rw c.over.ensures c.in_ok-book.ensures.opens
