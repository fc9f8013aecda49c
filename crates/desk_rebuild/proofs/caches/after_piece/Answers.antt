use Rattle.desk_rebuild.proofs.CellRows.{not_both}
use Rattle.desk_rebuild.proofs.caches.after_piece.Goals as goal

pub returns-clause-none : goal.returns-clause-none
returns-clause-none c =
    not_both c.args.masks.now c.args.piece.sign.now c.args.piece.own.now c.in_ok-after.field-0.now c.after-2.result c.in_ok-after.ensures.some c.after-2.ensures.none
