use Rattle.std.proofs.Common.{refl}
use Rattle.louis_translate.specs.Piece.{one_character}
use Rattle.louis_translate.proofs.LonePieces.{lone_first}
use Rattle.louis_translate.proofs.pieces.Pieces.next_lone.Goals as goal

pub returns : goal.returns
returns g c =
    let at = c.self.inside.at in
    (one_character at, rw (← c.self.view_is) (lone_first (g.B.RuleBook.meaning c.self.inside.book.now) c.self.inside.print.now at _ _ refl c.in_ok-cell.ensures))
