use Rattle.std.proofs.lemmas.Result.{err_from_is_err_and}
use Rattle.std.specs.Str.{chars}
use Rattle.louis_translate.proofs.Faults.{undefined_passes}
use Rattle.louis_translate.proofs.translation.translate_string.Goals as goal

pub returns-in_err-print-clause-undefined : goal.returns-in_err-print-clause-undefined
returns-in_err-print-clause-undefined g c =
    let raised = err_from_is_err_and c.from_residual.result c.from_residual.ensures.1 in
    undefined_passes c.defined_characters.result c.from_residual.result c.in_err-print.field-0.0 raised.0 (g.B.RuleBook.meaning c.args.book.now) c.table.result.now (chars c.args.text.now) c.in_err-print.was raised.1 raised.2 c.table.ensures c.defined_characters.ensures.undefined
