use Rattle.std.proofs.Common.{◌⊎◌}
use Rattle.desk_program.proofs.Outcomes.{Translates-refused}
use Rattle.desk_program.proofs.status.translate.Goals as goal

pub returns-in_err-index : goal.returns-in_err-index
returns-in_err-index g c =
    Translates-refused {S = g.row.S.Denot} {K = g.row.K.Denot} (g.F.Shelf.can_fail ⊎ g.F.File.Source.can_fail) (g.F.Shelf.at c.args.rt.now)
    g.S.Source c.args.source.now g.K.Sink c.args.sink.now c.args.table.now c.from_residual.result c.in_err-index.field-0.0
    c.in_err-index.ensures c.from_residual.ensures.1
