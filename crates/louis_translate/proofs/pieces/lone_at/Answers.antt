use Rattle.std.proofs.Common.{refl}
use Rattle.std.proofs.lemmas.Bool.{OnTrue_at}
use Rattle.std.proofs.lemmas.Option.{slice_get_read}
use Rattle.louis_translate.proofs.LonePieces.{IsLoneAt-from}
use Rattle.louis_translate.proofs.pieces.lone_at.Goals as goal

pub returns : goal.returns
returns g c =
    let here = c.in_ok-get.ensures.lookup in
    let there = slice_get_read c.args.print.now _ c.args.at c.in_ok-get.field-0.now refl here.3.0 here.1 in
    IsLoneAt-from (g.B.RuleBook.meaning c.args.book.now) c.args.print.now c.args.at c.in_ok-get.field-0.now c.in_ok-cell.cell.now
    there c.in_ok-cell.ensures.1 c.if-not-chooses_definition.ensures (OnTrue_at c.in_ok-cell.ensures.0 c.requires.free)
