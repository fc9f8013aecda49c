use Rattle.std.proofs.Common.{◌≡◌, encode_utf8_all, ap, ◌∙◌, rules, to_z, of_z, w64}
use Rattle.std.proofs.Math.Facts.{to_z-of_z}
use Rattle.desk_model.specs.Loans.{row_number}
use Rattle.desk_model.specs.Shows.{flag_number, style_number}
use Rattle.desk_book.proofs.RowPuts.PutLists.{text-bytes}
use Rattle.desk_book.proofs.puts.para.Goals as goal

pub returns : goal.returns
returns c =
    let paragraph = c.args.paragraph.now in
    let id : to_z w64 (of_z w64 c.number.result) ≡ row_number c.args.id = to_z-of_z {w = w64} {z = c.number.result} (search rules) ∙ c.number.ensures in
    let place : to_z w64 (of_z w64 c.number-2.result) ≡ row_number c.args.place = to_z-of_z {w = w64} {z = c.number-2.result} (search rules) ∙ c.number-2.ensures in
    let tab : c.as_str.result.now ≡ encode_utf8_all paragraph.table = text-bytes c.as_str.result.now paragraph.table c.as_str.utf8 c.as_str.ensures in
    let original : c.as_str-2.result.now ≡ encode_utf8_all paragraph.original = text-bytes c.as_str-2.result.now paragraph.original c.as_str-2.utf8 c.as_str-2.ensures in
    let print : encode_utf8_all c.as_slice.result.now ≡ encode_utf8_all paragraph.print = ap encode_utf8_all c.as_slice.ensures in
    let style : to_z w64 (of_z w64 c.style_row.result) ≡ style_number paragraph.style = to_z-of_z {w = w64} {z = c.style_row.result} (search rules) ∙ c.style_row.ensures in
    let volume : to_z w64 (of_z w64 c.flag.result) ≡ flag_number paragraph.begins_volume = to_z-of_z {w = w64} {z = c.flag.result} (search rules) ∙ c.flag.ensures in
    let struck : to_z w64 (of_z w64 c.flag-2.result) ≡ flag_number paragraph.struck = to_z-of_z {w = w64} {z = c.flag-2.result} (search rules) ∙ c.flag-2.ensures in
    cc
