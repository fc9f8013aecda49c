use Rattle.std.proofs.Common.{◌≡◌, List, ℕ, ◌++◌, rules, ap, ◌∙◌, not, filter, chars}
use Rattle.std.proofs.lemmas.Str.{chars_from_encodes}
use Rattle.unicode_normalization.specs.Forms.{nfc}
use Rattle.desk_model.specs.BookTexts.{is_barred}
use Rattle.desk_memory.proofs.texts.normal_form.Goals as goal

pub returns : goal.returns
returns c =
    let given : c.in_ok-given.given.items ≡ chars c.args.text.now = search (rules, chars_from_encodes) in
    let normal : c.extend_nfc.new.out.items ≡ nfc (chars c.args.text.now) =
    c.in_ok-extend_nfc.ensures.ok ∙ (ap (λ (t : List ℕ). t ++ nfc c.as_slice.result.now) c.new-print.ensures.items ∙ ap nfc (c.as_slice.ensures.value ∙ given)) in
    c.drop_barred.ensures ∙ ap (filter (λ character. not (is_barred character))) normal
