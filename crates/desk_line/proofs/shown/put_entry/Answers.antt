use Rattle.std.proofs.Common.{ap, sym, ◌∙◌, subst}
use Rattle.std.specs.Str.{chars}
use Rattle.std.proofs.lemmas.Str.{encodes-chars}
use Rattle.desk_model.specs.HistoryItems.{TellsOf}
use Rattle.desk_ends.proofs.Sending.{Transmits-same}
use Rattle.desk_line.specs.ReplyLines.{shown_text}
use Rattle.desk_line.proofs.Replying.{unnamed-fields, named-fields, undo-fields}
use Rattle.desk_line.proofs.shown.put_entry.Goals as goal
use Rattle.louis_table.proofs.StepLaws.{nil_from_test, not_nil_from_test}

pub returns-then-is_empty : goal.returns-then-is_empty
returns-then-is_empty g c = λ entry tells.
    let at = c.in-Corrected in
    Transmits-same c.args.block.now
    (unnamed-fields entry c.args.item.now.number at.start at.count at.text at.who (subst (TellsOf entry) at.is tells) (nil_from_test at.who.now c.is_empty.result c.is_empty.ensures c.if-is_empty.true)
    c.as_bytes-number.result.now c.as_bytes-first.result.now c.as_bytes-size.result.now c.as_bytes-text.result.now
    (c.as_bytes-number.ensures.value ∙ c.format.ensures.text) (c.as_bytes-first.ensures.value ∙ c.format-in-Corrected.ensures.text)
    (c.as_bytes-size.ensures.value ∙ c.format-in-Corrected-2.ensures.text)
    (sym (encodes-chars c.as_bytes-text.result.now c.as_bytes-text.ensures.utf8) ∙ ap shown_text (ap chars c.as_bytes-text.ensures.value)))
    c.put_fields.ensures

pub returns-else-is_empty : goal.returns-else-is_empty
returns-else-is_empty g c = λ entry tells.
    let at = c.in-Corrected in
    Transmits-same c.args.block.now
    (named-fields entry c.args.item.now.number at.start at.count at.text at.who (subst (TellsOf entry) at.is tells) (not_nil_from_test at.who.now c.is_empty.result c.is_empty.ensures c.if-is_empty.false)
    c.as_bytes-number.result.now c.as_bytes-who.result.now c.as_bytes-first.result.now c.as_bytes-size.result.now c.as_bytes-text.result.now
    (c.as_bytes-number.ensures.value ∙ c.format.ensures.text)
    (sym (encodes-chars c.as_bytes-who.result.now c.as_bytes-who.ensures.utf8) ∙ ap shown_text (ap chars c.as_bytes-who.ensures.value)) c.as_bytes-who.ensures.value
    (c.as_bytes-first.ensures.value ∙ c.format-in-Corrected.ensures.text)
    (c.as_bytes-size.ensures.value ∙ c.format-in-Corrected-2.ensures.text)
    (sym (encodes-chars c.as_bytes-text.result.now c.as_bytes-text.ensures.utf8) ∙ ap shown_text (ap chars c.as_bytes-text.ensures.value)))
    c.put_fields-else-is_empty.ensures

pub returns-in-TookBack : goal.returns-in-TookBack
returns-in-TookBack g c = λ entry tells.
    Transmits-same c.args.block.now
    (undo-fields entry c.args.item.now.number c.in-TookBack.undone (subst (TellsOf entry) c.in-TookBack.is tells) c.as_bytes-number.result.now c.as_bytes-undone.result.now
    (c.as_bytes-number.ensures.value ∙ c.format.ensures.text) (c.as_bytes-undone.ensures.value ∙ c.format-in-TookBack.ensures.text))
    c.put_fields-in-TookBack.ensures
