use Rattle.std.proofs.Common.{◌≡◌, encode_utf8_all, ◌∙◌, rules, to_z, of_z, w64}
use Rattle.std.proofs.Math.Facts.{to_z-of_z}
use Rattle.desk_model.specs.Loans.{row_number}
use Rattle.desk_book.proofs.RowPuts.PutLists.{text-bytes}
use Rattle.desk_book.proofs.puts.table_put.Goals as goal

pub returns : goal.returns
returns c =
    let id : to_z w64 (of_z w64 c.number.result) ≡ row_number c.args.id = to_z-of_z {w = w64} {z = c.number.result} (search rules) ∙ c.number.ensures in
    let tab : c.as_str.result.now ≡ encode_utf8_all c.args.table.now = text-bytes c.as_str.result.now c.args.table.now c.as_str.utf8 c.as_str.ensures in
    cc
