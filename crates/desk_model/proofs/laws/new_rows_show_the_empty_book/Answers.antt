use Rattle.desk_model.proofs.Rows.FilledRows.{new-shown}
use Rattle.desk_model.proofs.laws.new_rows_show_the_empty_book.Goals as goal

pub returns : goal.returns
returns c = new-shown
