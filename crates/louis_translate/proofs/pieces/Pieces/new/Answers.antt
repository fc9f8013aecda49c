use Rattle.std.proofs.Common.{ap, arith, map}
use Rattle.louis_translate.specs.Items.{made_by}
use Rattle.louis_translate.specs.Left.{choices_from}
use Rattle.louis_translate.proofs.Tilings.{choices_from-covers, one_cover}
use Rattle.louis_translate.proofs.pieces.Pieces.new.Goals as goal

pub returns : goal.returns
returns g c =
    let meaning = g.B.RuleBook.meaning c.args.book.now in
    let print = c.args.print.now in
    λ choices tiles. ap (map (made_by meaning print)) (one_cover meaning print 0 (choices_from meaning print 0) choices (choices_from-covers meaning print 0 (omega arith)) tiles)
