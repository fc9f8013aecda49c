use Rattle.std.proofs.Common.{◌≡◌, Bool, Bor, List, ℕ, ap, codes, sym, ◌∙◌}
use Rattle.std.specs.Prelude.{decimal}
use Rattle.std.specs.Str.{chars}
use Rattle.std.proofs.lemmas.Str.{encodes-chars}
use Rattle.desk_ends.proofs.Sending.{Transmits-same}
use Rattle.desk_line.specs.ReplyLines.{shown_text, style_word, word_if}
use Rattle.desk_line.proofs.Replying.{list_line-fields}
use Rattle.desk_line.proofs.shown.put_listed.Goals as goal
use Rattle.desk_line.proofs.shown.put_listed.Goals.{in-Body, in-Heading, then-paragraph, else-paragraph, then-paragraph-2, else-paragraph-2}

pub returns : goal.returns
returns g c = λ reported is.
    let volume_word : Bool → List ℕ = λ set. word_if set (codes "volume") (codes "-") in
    let life_word : Bool → List ℕ = λ set. word_if set (codes "struck") (codes "live") in
    let style : c.match-paragraph.style.now ≡ style_word reported.style = elim c.match-paragraph.branch [
      | in-Body w ↦ ap (λ (b : Bor (List ℕ)). b.now) w.style-is ∙ ap style_word (sym w.in-Body.is ∙ is.style)
      | in-Heading w ↦ ap (λ (b : Bor (List ℕ)). b.now) w.style-is ∙ ap style_word (sym w.in-Heading.is ∙ is.style)
    ] in
    let volume : c.if-paragraph.volume.now ≡ volume_word reported.begins_volume = elim c.if-paragraph.branch [
      | then-paragraph w ↦ ap (λ (b : Bor (List ℕ)). b.now) w.volume-is ∙ ap volume_word (sym w.if-paragraph.true ∙ is.begins_volume)
      | else-paragraph w ↦ ap (λ (b : Bor (List ℕ)). b.now) w.volume-is ∙ ap volume_word (sym w.if-paragraph.false ∙ is.begins_volume)
    ] in
    let life : c.if-paragraph-2.life.now ≡ life_word reported.struck = elim c.if-paragraph-2.branch [
      | then-paragraph-2 w ↦ ap (λ (b : Bor (List ℕ)). b.now) w.life-is ∙ ap life_word (sym w.if-paragraph-2.true ∙ is.struck)
      | else-paragraph-2 w ↦ ap (λ (b : Bor (List ℕ)). b.now) w.life-is ∙ ap life_word (sym w.if-paragraph-2.false ∙ is.struck)
    ] in
    Transmits-same c.args.block.now
    (list_line-fields reported c.as_bytes-id.result.now c.as_bytes-table.result.now c.match-paragraph.style.now c.if-paragraph.volume.now c.if-paragraph-2.life.now c.as_bytes-length.result.now
    (c.as_bytes-id.ensures.value ∙ (c.format.ensures.text ∙ ap decimal is.id))
    (sym (encodes-chars c.as_bytes-table.result.now c.as_bytes-table.ensures.utf8) ∙ ap shown_text (ap chars c.as_bytes-table.ensures.value ∙ is.table))
    style volume life (c.as_bytes-length.ensures.value ∙ (c.format-2.ensures.text ∙ ap decimal is.length_is)))
    c.put_fields.ensures
