use Rattle.std.proofs.Common.{IsOk, ap, refl, subst, sym, ◌∙◌}
use Rattle.sqlite.specs.Effect.{Database}
use Rattle.sqlite.specs.Held.{state}
use Rattle.sql_tables.specs.States.{seen}
use Rattle.desk_rows.proofs.Transactions.Ending.{commit_ends}
use Rattle.desk_rows.proofs.transaction.end.Goals as goal

pub returns-clause-ends : goal.returns-clause-ends
returns-clause-ends g c clean =
    let end = c.commit.new.self.0 in
    commit_ends c.args.ran c.commit.result (seen g.S.Store c.args.tx) (state g.S.Store end) (subst IsOk (sym c.in_ok-ran.was) refl)
    (λ shows db left. g.met.S.Store.settled end.store db shows.0 left ∙ ap (λ (d : Database). d.trees) shows.1)
    (c.commit.ensures.ok clean) (c.commit.ensures.err clean)
