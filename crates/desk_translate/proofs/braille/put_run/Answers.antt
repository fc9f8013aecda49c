use Rattle.std.proofs.Common.{◌≡◌, ◌++◌, ◌∷◌, List, [], is_ok, refl, sym, ap, ◌∙◌, append_assoc}
use Rattle.std.proofs.lemmas.Result.{err_from_is_err_and}
use Rattle.louis_translate.specs.Items.{PieceItem}
use Rattle.desk_ends.proofs.Sending.{Sending-done, Sending-none}
use Rattle.desk_translate.proofs.Putting.{Sending-cell, Sending-no_cell, lone}
use Rattle.desk_translate.proofs.braille.put_run.Goals as goal

pub loop-cell-init : goal.loop-cell-init
loop-cell-init g c = record { taken = []; parts = refl; sending = Sending-none _ _ _ _ refl }

-- one more piece is taken
more : (all taken left others : List PieceItem) (made : PieceItem) → all ≡ taken ++ left → left ≡ made ∷ others → all ≡ (taken ++ made ∷ []) ++ others
more all taken left others made e f = e ∙ (ap (λ (t : List PieceItem). taken ++ t) f ∙ sym (append_assoc taken (made ∷ []) others))

pub returns-in_err-put_cell : goal.returns-in_err-put_cell
returns-in_err-put_cell g c =
    let p = err_from_is_err_and c.from_residual.result c.from_residual.ensures.1 in
    let inv = c.loop-cell.invariant in
    let choice = c.in-Some.ensures.0 in
    let cell = c.in-Some.cell in
    record {
      taken = inv.taken ++ lone choice cell ∷ [];
      parts = more _ inv.taken c.loop-cell.pieces c.next_lone.new.self (lone choice cell) inv.parts c.in-Some.ensures.1;
      puts = Sending-no_cell g.K.Sink.can_fail _ _ _ _ c.loop-cell.block _ inv.taken choice cell _ inv.sending c.put_cell.ensures _ _ (ap is_ok c.in_err-put_cell.was) (ap is_ok p.1);
    }

pub loop-cell-preserved : goal.loop-cell-preserved
loop-cell-preserved g c =
    let inv = c.loop-cell.invariant in
    let choice = c.in-Some.ensures.0 in
    let cell = c.in-Some.cell in
    record {
      taken = inv.taken ++ lone choice cell ∷ [];
      parts = more _ inv.taken c.loop-cell.pieces c.next_lone.new.self (lone choice cell) inv.parts c.in-Some.ensures.1;
      sending = Sending-cell g.K.Sink.can_fail _ _ _ _ c.loop-cell.block _ inv.taken choice cell _ inv.sending c.put_cell.ensures (ap is_ok c.in_ok-put_cell.was);
    }

pub returns : goal.returns
returns g c =
    let inv = c.loop-cell.invariant in
    record {
      taken = inv.taken;
      parts = inv.parts ∙ ap (λ (left : List PieceItem). inv.taken ++ left) (sym c.in_default.ensures);
      puts = Sending-done g.K.Sink.can_fail _ _ c.loop-cell.block _ _ inv.sending refl;
    }
