use Rattle.std.proofs.Common.{encode_utf8_all, chars, sym, ap, ◌∙◌}
use Rattle.std.specs.Cmp.Lexicographic.{bytes_decides}
use Rattle.std.proofs.lemmas.Str.{encodes-chars}
use Rattle.desk_book.proofs.plan.uses.Goals as goal

pub returns : goal.returns
returns c =
    let used = c.as_str.ensures in
    let given = c.as_str-2.ensures in
    let same = bytes_decides c.as_str.result.now c.as_str-2.result.now in (
      λ h. sym used ∙ (ap chars (same.0 (sym c.eq.ensures ∙ h)) ∙ given),
      λ e. c.eq.ensures ∙ same.1 (sym (encodes-chars c.as_str.result.now c.as_str.utf8) ∙ (ap encode_utf8_all (used ∙ (e ∙ sym given)) ∙ encodes-chars c.as_str-2.result.now c.as_str-2.utf8)),
    )
