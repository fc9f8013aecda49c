use Rattle.desk_model.proofs.Rows.FilledRows.{all-put, cached-shown, caches-put, names-put, second-shown}
use Rattle.desk_model.proofs.laws.filled_rows_show_their_book.Goals as goal

pub returns-clause-format : goal.returns-clause-format
returns-clause-format c = second-shown

pub returns-clause-braille : goal.returns-clause-braille
returns-clause-braille c = λ rows book caches shown are. cached-shown rows book shown caches are

pub returns-clause-caches : goal.returns-clause-caches
returns-clause-caches c = λ rows book caches shown are. caches-put rows book shown caches are

pub returns-clause-names : goal.returns-clause-names
returns-clause-names c = λ rows book entries shown are. names-put rows book shown entries are

pub returns-clause-all : goal.returns-clause-all
returns-clause-all c = λ rows book caches shown are. all-put rows book shown caches are
