use Rattle.std.proofs.Common.{◌≡◌, encode_utf8_all, rules, sym, ◌∙◌}
use Rattle.std.specs.Prelude.{string_bytes}
use Rattle.std.proofs.lemmas.Str.{IsUtf8-string_bytes, chars_from_encodes}
use Rattle.desk_book.proofs.plan.text_of_print.Goals as goal

pub returns-clause-text : goal.returns-clause-text
returns-clause-text c =
    let encoded : string_bytes c.in_ok-string.string ≡ encode_utf8_all c.args.print.now = search rules in
    c.from_string.ensures.text ∙ sym (chars_from_encodes _ _ (IsUtf8-string_bytes c.in_ok-string.string) (sym encoded))
