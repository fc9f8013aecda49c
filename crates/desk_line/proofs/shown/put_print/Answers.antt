use Rattle.std.proofs.Common.{[], ◌∷◌, ◌++◌, codes, is_ok, refl, ap}
use Rattle.desk_ends.proofs.Sending.{Sending-fails, Sending-first, Sending-last, Sending-more, Sending-no_first, fails-at}
use Rattle.desk_line.specs.ReplyLines.{shown_text}
use Rattle.desk_line.proofs.Putting.{framed}
use Rattle.desk_line.proofs.shown.put_print.Goals as goal

pub returns-in_err-put_bytes : goal.returns-in_err-put_bytes
returns-in_err-put_bytes g c =
    let shown = shown_text c.args.print.now in
    Sending-no_first c.args.block.now (codes "| ") (shown ++ 10 ∷ []) (framed shown) c.put_bytes.ensures (ap is_ok c.in_err-put_bytes.was) (fails-at c.from_residual.result _ c.from_residual.ensures.1)

pub returns-in_err-put_characters : goal.returns-in_err-put_characters
returns-in_err-put_characters g c =
    let shown = shown_text c.args.print.now in
    Sending-fails g.K.Sink.can_fail _ _ _ c.put_bytes.new.block _ _ _ _
    (Sending-first c.args.block.now (codes "| ") (shown ++ 10 ∷ []) (framed shown) c.put_bytes.ensures (ap is_ok c.in_ok-put_bytes.was))
    shown (10 ∷ []) refl c.put_characters.ensures _ _ (ap is_ok c.in_err-put_characters.was) (fails-at c.from_residual-in_err-put_characters.result _ c.from_residual-in_err-put_characters.ensures.1)

pub returns : goal.returns
returns g c =
    let shown = shown_text c.args.print.now in
    Sending-last g.K.Sink.can_fail _ _ _ c.put_characters.new.block _ (10 ∷ []) _ _
    (Sending-more g.K.Sink.can_fail _ _ _ c.put_bytes.new.block _ _ _ _
    (Sending-first c.args.block.now (codes "| ") (shown ++ 10 ∷ []) (framed shown) c.put_bytes.ensures (ap is_ok c.in_ok-put_bytes.was))
    shown (10 ∷ []) refl c.put_characters.ensures (ap is_ok c.in_ok-put_characters.was))
    c.put_byte.ensures
