use Rattle.std.proofs.Common.{true, false, subst}
use Rattle.sqlite.specs.Held.{state}
use Rattle.desk_store.specs.Keeping.{KeepsChange, Store}
use Rattle.desk_store.proofs.store.Store.keep.Goals as goal

pub returns-in-Ok-clause-keeps : goal.returns-in-Ok-clause-keeps
returns-in-Ok-clause-keeps g c =
    subst (λ (store : Store g.row.S.Denot). KeepsChange g.S.Store c.args.book.now c.args.change.now store.connection (state g.S.Store c.put_change.new.conn) true)
    c.self.view_is c.in-Ok.ensures.keeps

pub returns-in-Err-clause-keeps : goal.returns-in-Err-clause-keeps
returns-in-Err-clause-keeps g c =
    subst (λ (store : Store g.row.S.Denot). KeepsChange g.S.Store c.args.book.now c.args.change.now store.connection (state g.S.Store c.put_change.new.conn) false)
    c.self.view_is c.in-Err.ensures.keeps
