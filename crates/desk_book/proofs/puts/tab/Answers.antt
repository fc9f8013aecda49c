use Rattle.std.proofs.Common.{◌≡◌, encode_utf8_all}
use Rattle.desk_book.proofs.RowPuts.PutLists.{text-bytes}
use Rattle.desk_book.proofs.puts.tab.Goals as goal

pub returns : goal.returns
returns c =
    let name : c.as_str.result.now ≡ encode_utf8_all c.args.name.now = text-bytes c.as_str.result.now c.args.name.now c.as_str.utf8 c.as_str.ensures in
    let body = c.text.ensures in
    cc
