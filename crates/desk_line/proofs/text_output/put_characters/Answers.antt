use Rattle.std.proofs.Common.{ℕ, ◌+◌, ◌∷◌, drop, true, is_ok, refl, sym, ap, ◌∙◌}
use Rattle.std.proofs.lemmas.List.{drop_more}
use Rattle.std.proofs.Math.ListN.{drop_of_length-le}
use Rattle.std.specs.Char.{encode_utf8}
use Rattle.desk_ends.proofs.Sending.{Sending-done, Sending-fails, Sending-more, fails-at}
use Rattle.desk_line.specs.ReplyLines.{shown_text}
use Rattle.desk_line.proofs.text_output.put_characters.Goals as goal

pub returns-in_err-put_character : goal.returns-in_err-put_character
returns-in_err-put_character g c =
    let parts = ap shown_text (drop_more c.args.characters.now c.loop-character.character-index c.character-item.result c.loop-character-test.true)
    ∙ ap (λ (t : ℕ). shown_text (t ∷ drop (c.loop-character.character-index + 1) c.args.characters.now)) (sym c.character-item.is) in
    Sending-fails g.K.Sink.can_fail _ _ _ c.loop-character.block _ _ _ _ c.loop-character.invariant (encode_utf8 c.character-item.result) _ parts
    c.put_character.ensures _ _ (ap is_ok c.in_err-put_character.was) (fails-at c.from_residual.result _ c.from_residual.ensures.1)

pub loop-character-preserved : goal.loop-character-preserved
loop-character-preserved g c =
    let parts = ap shown_text (drop_more c.args.characters.now c.loop-character.character-index c.character-item.result c.loop-character-test.true)
    ∙ ap (λ (t : ℕ). shown_text (t ∷ drop (c.loop-character.character-index + 1) c.args.characters.now)) (sym c.character-item.is) in
    Sending-more g.K.Sink.can_fail _ _ _ c.loop-character.block _ _ _ _ c.loop-character.invariant (encode_utf8 c.character-item.result) _ parts
    c.put_character.ensures (ap is_ok c.in_ok-put_character.was)

pub returns : goal.returns
returns g c =
    Sending-done g.K.Sink.can_fail _ _ c.loop-character.block _ true
    (rw (drop_of_length-le c.args.characters.now c.loop-character-test.false) at c.loop-character.invariant) refl
