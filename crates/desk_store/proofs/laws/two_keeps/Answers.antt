use Rattle.sqlite.specs.Held.{state}
use Rattle.desk_store.proofs.BookKeeps.{leaves_either}
use Rattle.desk_store.proofs.laws.two_keeps.Goals as goal

pub returns : goal.returns
returns g c clean l first both kept leads survives =
    leaves_either (state g.S.Store c.args.middle.now.connection) (state g.S.Store c.args.end.now.connection) l first c.args.change.now both
    survives clean (record { tables = kept.tables; leads = leads; shows = kept.shows }) kept.leaves
