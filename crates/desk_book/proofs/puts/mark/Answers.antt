use Rattle.std.proofs.Common.{◌≡◌, arith, encode_utf8_all}
use Rattle.std.proofs.Math.Facts.{to_z-of_z}
use Rattle.desk_book.proofs.RowPuts.PutLists.{text-bytes}
use Rattle.desk_book.proofs.puts.mark.Goals as goal

pub returns : goal.returns
returns c =
    let mark = c.args.mark.now in
    let note : c.as_str.result.now ≡ encode_utf8_all mark.note = text-bytes c.as_str.result.now mark.note c.as_str.utf8 c.as_str.ensures in
    grind (arith, to_z-of_z)
