use Rattle.std.proofs.Common.{◌≡◌, Bool, Bor, List, ℕ, ap, codes, sym, ◌∙◌}
use Rattle.std.specs.Prelude.{decimal}
use Rattle.std.specs.Str.{chars}
use Rattle.std.proofs.lemmas.Str.{encodes-chars}
use Rattle.desk_ends.proofs.Sending.{Transmits-same}
use Rattle.desk_line.specs.ReplyLines.{shown_text, word_if}
use Rattle.desk_line.proofs.Replying.{mark-fields}
use Rattle.desk_line.proofs.shown.put_mark.Goals as goal
use Rattle.desk_line.proofs.shown.put_mark.Goals.{then-mark, else-mark, then-mark-2, else-mark-2}

pub returns : goal.returns
returns g c = λ reported is.
    let state_word : Bool → List ℕ = λ set. word_if set (codes "resolved") (codes "open") in
    let touch_word : Bool → List ℕ = λ set. word_if set (codes "touched") (codes "kept") in
    let state : c.if-mark.state.now ≡ state_word reported.resolved = elim c.if-mark.branch [
      | then-mark w ↦ ap (λ (b : Bor (List ℕ)). b.now) w.state-is ∙ ap state_word (sym w.if-mark.true ∙ is.resolved)
      | else-mark w ↦ ap (λ (b : Bor (List ℕ)). b.now) w.state-is ∙ ap state_word (sym w.if-mark.false ∙ is.resolved)
    ] in
    let touch : c.if-mark-2.touch.now ≡ touch_word reported.touched = elim c.if-mark-2.branch [
      | then-mark-2 w ↦ ap (λ (b : Bor (List ℕ)). b.now) w.touch-is ∙ ap touch_word (sym w.if-mark-2.true ∙ is.touched)
      | else-mark-2 w ↦ ap (λ (b : Bor (List ℕ)). b.now) w.touch-is ∙ ap touch_word (sym w.if-mark-2.false ∙ is.touched)
    ] in
    Transmits-same c.args.block.now
    (mark-fields reported c.as_bytes-id.result.now c.as_bytes-start.result.now c.as_bytes-end.result.now c.if-mark.state.now c.if-mark-2.touch.now c.as_bytes-note.result.now
    (c.as_bytes-id.ensures.value ∙ (c.format.ensures.text ∙ ap decimal is.id)) (c.as_bytes-start.ensures.value ∙ (c.format-2.ensures.text ∙ ap decimal is.start))
    (c.as_bytes-end.ensures.value ∙ (c.format-3.ensures.text ∙ ap decimal is.end)) state touch
    (sym (encodes-chars c.as_bytes-note.result.now c.as_bytes-note.ensures.utf8) ∙ ap shown_text (ap chars c.as_bytes-note.ensures.value ∙ is.note)))
    c.put_fields.ensures
