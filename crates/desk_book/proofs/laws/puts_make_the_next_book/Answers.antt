use Rattle.desk_book.proofs.RowPuts.LentRows.{change-lent}
use Rattle.desk_book.proofs.RowPuts.PutsLead.{change-leads}
use Rattle.desk_book.proofs.laws.puts_make_the_next_book.Goals as goal

pub returns-clause-leads : goal.returns-clause-leads
returns-clause-leads c book next command change sound carries = change-leads book next command change sound carries

pub returns-clause-lent : goal.returns-clause-lent
returns-clause-lent c book next command change sound carries = change-lent book next command sound change carries
