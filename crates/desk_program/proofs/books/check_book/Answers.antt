use Rattle.desk_program.specs.Books.{Checks}
use Rattle.desk_program.proofs.Outcomes.{Checks-none}
use Rattle.desk_program.proofs.books.check_book.Goals as goal

pub returns-in_err-read_book : goal.returns-in_err-read_book
returns-in_err-read_book g c =
    Checks-none _ _ _ c.in_err-read_book.field-0.0 c.from_residual.result c.in_err-read_book.ensures c.from_residual.ensures.1

pub returns : goal.returns
returns g c =
    Checks.found c.in_ok-read_book.field-0 c.in_ok-read_book.ensures
    (rw c.version-version.ensures.version at c.tell_version.ensures)
