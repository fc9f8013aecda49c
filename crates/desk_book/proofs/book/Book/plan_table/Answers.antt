use Rattle.desk_book.proofs.Plans.TablePlanning.{bad_name}
use Rattle.desk_book.proofs.Plans.Planning.{exit}
use Rattle.desk_book.proofs.book.Book.plan_table.Goals as goal

pub returns-in_err-check_name-clause-refused : goal.returns-in_err-check_name-clause-refused
returns-in_err-check_name-clause-refused c = exit _ _ _ c.from_residual.ensures.1 (bad_name c.args.self.now c.args.name.now c.args.text.now _ c.in_err-check_name.ensures.bad)
