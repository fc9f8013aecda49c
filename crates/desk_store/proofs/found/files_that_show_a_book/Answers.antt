use Rattle.desk_store.proofs.FileDamage.{has_book, one_refusal, undamaged, unrefused}
use Rattle.desk_store.proofs.found.files_that_show_a_book.Goals as goal

pub returns-clause-book : goal.returns-clause-book
returns-clause-book c l contents those = (undamaged l contents, has_book l contents those)

pub returns-clause-unrefused : goal.returns-clause-unrefused
returns-clause-unrefused c = unrefused

pub returns-clause-one : goal.returns-clause-one
returns-clause-one c = one_refusal
