use Rattle.std.proofs.Common.{◌++◌, drop, ap}
use Rattle.desk_book.specs.Filling.{braille_from}
use Rattle.desk_parts.specs.Puts.{RowPuts, puts_in}
use Rattle.desk_book.proofs.RowPuts.FilledTables.{entries-whole}
use Rattle.desk_book.proofs.filling.Filling.new.Goals as goal

pub returns : goal.returns
returns c =
    ap (λ (entries : RowPuts). puts_in c.args.book ++ (entries ++ braille_from c.args.at c.args.paragraphs.now)) (entries-whole (drop c.args.place c.args.paragraphs.now))
