use Rattle.desk_model.proofs.Rows.FilledRows.{filled-shown, filled-there}
use Rattle.desk_model.proofs.laws.filled_tables_show_their_book.Goals as goal

pub returns-clause-shown : goal.returns-clause-shown
returns-clause-shown c = filled-shown

pub returns-clause-there : goal.returns-clause-there
returns-clause-there c = filled-there
