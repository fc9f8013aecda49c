use Rattle.std.proofs.Common.{inl, inr}
use Rattle.sqlite.specs.Held.{state}
use Rattle.desk_rows.proofs.Schema.Schemas.{shows_committed}
use Rattle.desk_store.proofs.laws.kept_then_opened.Goals as goal

pub returns-clause-book : goal.returns-clause-book
returns-clause-book g c left opens l book leaves =
    let new = state g.T.Store c.args.next.now in
    let held = leaves new.committed.trees left in
    (held.0, shows_committed new opens c.schema.ensures.live l held.0 held.1, held.2)

pub returns-clause-either : goal.returns-clause-either
returns-clause-either g c left opens l book other leaves =
    let new = state g.T.Store c.args.next.now in
    elim (leaves new.committed.trees left) [
      | inl held ↦ inl (held.0, shows_committed new opens c.schema.ensures.live l held.0 held.1, held.2)
      | inr held ↦ inr (held.0, shows_committed new opens c.schema.ensures.live l held.0 held.1, held.2)
    ]
