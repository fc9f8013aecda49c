use Rattle.std.proofs.Common.{◌≡◌, ℤ, Bool, true, false, SFits, w64, subst, sym, ap, ◌∙◌, inl, inr, rules, chars, string_bytes}
use Rattle.std.proofs.lemmas.Bool.{both_ways}
use Rattle.std.proofs.lemmas.Int.{to_z-of_z}
use Rattle.std.proofs.lemmas.Str.{IsUtf8-string_bytes, chars_from_encodes}
use Rattle.desk_memory.specs.declared.paragraphs.Paragraph.{Paragraph as HeldParagraph}
use Rattle.desk_model.specs.declared.style.Style.{Style}
use Rattle.desk_model.specs.declared.style.Style.TheVariants.{Body, Heading}
use Rattle.desk_model.specs.Damage.{IsFlag, IsPrintText}
use Rattle.desk_rebuild.specs.Paras.{AreDefinedBy, IsHeldOf, IsParaOn}
use Rattle.desk_parts.specs.declared.file_table.FileTable.TheVariants as tables
use Rattle.desk_parts.specs.FileRows.{HasUtf8Texts}
use Rattle.desk_parts.specs.Rows.{Para}
use Rattle.desk_model.specs.Shows.{flag_number, style_number}
use Rattle.desk_rebuild.proofs.paras.paragraph_of.Goals as goal

is-flag : (flag : Bool) (z : ℤ) → flag_number flag ≡ z → IsFlag z
is-flag false z is = inl (sym is)
is-flag true z is = inr (sym is)

is-style : (style : Style) (z : ℤ) → style_number style ≡ z → IsFlag z
is-style Body z is = inl (sym is)
is-style Heading z is = inr (sym is)

pub returns-then-not-are_defined_by : goal.returns-then-not-are_defined_by
returns-then-not-are_defined_by c = λ (s : IsParaOn c.args.tables.now c.args.row).
    let decoded : c.in_ok-print.print.items ≡ chars c.as_str-2.result.now = search (rules, chars_from_encodes) in
    let print : c.deref.result.now ≡ chars c.args.row.print = c.deref.ensures.value ∙ (decoded ∙ ap chars (c.as_str-2.ensures.value ∙ ap (λ (r : Para). r.print) c.row.view_is)) in
    let name : chars c.as_str-3.result.now ≡ chars c.args.row.tab = ap chars (c.as_str-3.ensures.value ∙ ap (λ (r : Para). r.tab) c.row.view_is) in
    both_ways c.are_defined_by.result c.if-not-are_defined_by.true
    (c.are_defined_by.ensures.1 (subst (λ text. AreDefinedBy c.args.tables.now (chars c.as_str-3.result.now) text) (sym print)
    (subst (λ text. AreDefinedBy c.args.tables.now text (chars c.args.row.print)) (sym name) s.table)))

pub returns : goal.returns
returns c =
    let fits_style : SFits w64 c.row.inside.style = search rules in
    let fits_volume : SFits w64 c.row.inside.volume = search rules in
    let fits_struck : SFits w64 c.row.inside.struck = search rules in
    let decoded : c.in_ok-print.print.items ≡ chars c.as_str-2.result.now = search (rules, chars_from_encodes) in
    let row : Para = record {
      id = c.row.inside.id;
      place = c.row.inside.place;
      tab = string_bytes c.row.inside.tab;
      original = string_bytes c.row.inside.original;
      print = string_bytes c.row.inside.print;
      style = c.row.inside.style;
      volume = c.row.inside.volume;
      struck = c.row.inside.struck;
    } in
    let held : HeldParagraph = record {
      table = c.from_string.result;
      original = c.from_string-2.result;
      history = c.new.result;
      style = c.in-Some-Some-Some.style;
      begins_volume = c.in-Some-Some-Some.begins_volume;
      struck = c.in-Some-Some-Some.struck;
      print = c.from_vec.result;
      cells = c.from_vec-2.result;
      marks = c.new-3.result;
    } in
    let read : c.in_ok-print.print.items ≡ chars row.print = decoded ∙ ap chars c.as_str-2.ensures.value in
    let defined : AreDefinedBy c.args.tables.now (chars row.tab) (chars row.print) =
    subst (λ text. AreDefinedBy c.args.tables.now (chars row.tab) text) (c.deref.ensures.value ∙ read)
    (subst (λ text. AreDefinedBy c.args.tables.now (chars text) c.deref.result.now) c.as_str-3.ensures.value (c.are_defined_by.ensures.0 c.if-not-are_defined_by.false)) in
    let original : IsPrintText (chars row.original) = subst (λ text. IsPrintText (chars text)) c.as_str.ensures.value (c.is_print.ensures.0 c.if-not-is_print.false) in
    let print : IsPrintText (chars row.print) = subst (λ text. IsPrintText (chars text)) c.as_str-else-not-is_print.ensures.value (c.is_print-else-not-is_print.ensures.0 c.if-not-is_print-2.false) in
    let style : style_number held.style ≡ row.style = c.in-Some-Some-Some.ensures ∙ to_z-of_z w64 c.row.inside.style fits_style in
    let volume : flag_number held.begins_volume ≡ row.volume = c.in-Some-Some-Some.ensures' ∙ to_z-of_z w64 c.row.inside.volume fits_volume in
    let struck : flag_number held.struck ≡ row.struck = c.in-Some-Some-Some.ensures'' ∙ to_z-of_z w64 c.row.inside.struck fits_struck in
    subst (λ (r : Para). IsParaOn c.args.tables.now r × HasUtf8Texts tables.Para r × IsHeldOf r held) c.row.view_is (
      record {
        original = original;
        print = print;
        table = defined;
        style = is-style held.style row.style style;
        volume = is-flag held.begins_volume row.volume volume;
        struck = is-flag held.struck row.struck struck;
      },
      (IsUtf8-string_bytes c.row.inside.tab, IsUtf8-string_bytes c.row.inside.original, IsUtf8-string_bytes c.row.inside.print),
      record {
        of = record {
          table = c.from_string.ensures.text;
          original = c.from_string-2.ensures.text;
          print = c.from_vec.ensures ∙ read;
          style = style;
          volume = volume;
          struck = struck;
        };
        marks = c.new-3.ensures;
      },
    )
