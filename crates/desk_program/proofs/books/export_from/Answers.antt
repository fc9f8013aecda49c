use Rattle.desk_program.specs.Books.{ExportsFrom}
use Rattle.desk_program.proofs.Outcomes.{ExportsFrom-none}
use Rattle.desk_program.proofs.books.export_from.Goals as goal

pub returns-in_err-book : goal.returns-in_err-book
returns-in_err-book g c =
    ExportsFrom-none _ _ _ c.in_err-book.field-0.0 _ _ c.from_residual.result c.in_err-book.ensures c.from_residual.ensures.1

pub returns : goal.returns
returns g c = ExportsFrom.found c.in_ok-book.book c.in_ok-book.ensures c.export_volume.ensures
