use Rattle.std.proofs.Common.{true}
use Rattle.sqlite.specs.Held.{state}
use Rattle.desk_store.proofs.Openings.{leaves_either, leaves_none}
use Rattle.desk_store.proofs.store.Store.open_on.Goals as goal

pub returns-then-has_any-clause-opens : goal.returns-then-has_any-clause-opens
returns-then-has_any-clause-opens g c = c.open_book.ensures.opens c.args.make

pub returns-then-has_any-clause-either : goal.returns-then-has_any-clause-either
returns-then-has_any-clause-either g c clean =
    leaves_either c.args.make (state g.S.Store c.args.connection.now) (state g.S.Store c.open_book.new.conn) (c.open_book.ensures.opens c.args.make).crash clean

pub returns-then-make-clause-none : goal.returns-then-make-clause-none
returns-then-make-clause-none g c clean =
    leaves_none true (state g.S.Store c.args.connection.now) (state g.S.Store c.open_new.new.conn) c.open_new.ensures.opens.crash clean
