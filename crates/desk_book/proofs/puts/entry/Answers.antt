use Rattle.std.proofs.Common.{◌≡◌, length, encode_utf8_all, ap, ◌∙◌, rules, to_z, of_z, w64}
use Rattle.std.proofs.Math.Facts.{to_z-of_z}
use Rattle.desk_model.specs.Loans.{row_number}
use Rattle.desk_book.proofs.RowPuts.PutLists.{text-bytes}
use Rattle.desk_book.proofs.puts.entry.Goals as goal

pub returns-in-Corrects : goal.returns-in-Corrects
returns-in-Corrects c =
    let correction = c.in-Corrects.correction in
    let para : to_z w64 (of_z w64 c.number.result) ≡ row_number c.args.id = to_z-of_z {w = w64} {z = c.number.result} (search rules) ∙ c.number.ensures in
    let seq : to_z w64 (of_z w64 c.number-in-Corrects.result) ≡ row_number c.args.seq = to_z-of_z {w = w64} {z = c.number-in-Corrects.result} (search rules) ∙ c.number-in-Corrects.ensures in
    let start : to_z w64 (of_z w64 c.number-in-Corrects-2.result) ≡ row_number correction.start = to_z-of_z {w = w64} {z = c.number-in-Corrects-2.result} (search rules) ∙ c.number-in-Corrects-2.ensures in
    let len : to_z w64 (of_z w64 c.number-in-Corrects-3.result) ≡ row_number (length correction.taken) = to_z-of_z {w = w64} {z = c.number-in-Corrects-3.result} (search rules) ∙ (c.number-in-Corrects-3.ensures ∙ ap (λ taken. row_number (length taken)) c.as_slice.ensures) in
    let body : c.as_str.result.now ≡ encode_utf8_all correction.text = text-bytes c.as_str.result.now correction.text c.as_str.utf8 c.as_str.ensures in
    let who : c.as_str-in-Corrects.result.now ≡ encode_utf8_all correction.who = text-bytes c.as_str-in-Corrects.result.now correction.who c.as_str-in-Corrects.utf8 c.as_str-in-Corrects.ensures in
    rw c.in-Corrects.is (cc)
