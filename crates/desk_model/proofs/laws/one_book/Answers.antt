use Rattle.desk_model.proofs.Rows.OneBook.{one_book}
use Rattle.desk_model.proofs.laws.one_book.Goals as goal

pub returns : goal.returns
returns c = one_book
