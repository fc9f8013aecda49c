use Rattle.desk_model.proofs.Rows.BookRows.{some_rows, some_unnamed_rows}
use Rattle.desk_model.proofs.Rows.FilledRows.{first_cached, second_bare}
use Rattle.desk_model.proofs.laws.some_rows.Goals as goal

pub returns-clause-second : goal.returns-clause-second
returns-clause-second c = some_rows

pub returns-clause-second_without_cache : goal.returns-clause-second_without_cache
returns-clause-second_without_cache c = second_bare

pub returns-clause-first : goal.returns-clause-first
returns-clause-first c = some_unnamed_rows

pub returns-clause-first_with_cache : goal.returns-clause-first_with_cache
returns-clause-first_with_cache c = first_cached
