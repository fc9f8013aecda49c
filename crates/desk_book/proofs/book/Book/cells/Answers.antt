use Rattle.std.proofs.Common.{rules}
use Rattle.desk_book.proofs.book.Book.cells.Goals as goal

pub returns-clause-found : goal.returns-clause-found
returns-clause-found c = search rules
