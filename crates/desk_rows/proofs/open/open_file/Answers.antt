use Rattle.std.proofs.Common.{sym, ap, ◌∙◌}
use Rattle.sqlite.specs.Effect.{Database}
use Rattle.sqlite.specs.Held.{state}
use Rattle.desk_rows.proofs.Schema.Schemas.{shows_file}
use Rattle.desk_rows.proofs.open.open_file.Goals as goal

pub returns-in-Ok-clause-shows : goal.returns-in-Ok-clause-shows
returns-in-Ok-clause-shows g c clean l contents was =
    shows_file (state g.S.Store c.in-Ok.conn) (g.S.Store.view c.args.store).trees l contents (c.in-Ok.ensures.opens clean) (c.in-Ok.ensures.trees clean) was

pub returns-in-Ok-clause-crash : goal.returns-in-Ok-clause-crash
returns-in-Ok-clause-crash g c clean db left =
    let opened = (c.in-Ok.ensures.opens clean).0 in
    g.met.S.Store.settled c.in-Ok.conn.store db opened.is_open left ∙ (sym (ap (λ (d : Database). d.trees) opened.clean) ∙ c.in-Ok.ensures.trees clean)
