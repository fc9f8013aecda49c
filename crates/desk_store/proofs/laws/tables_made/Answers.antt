use Rattle.desk_store.proofs.Exact.{exact_with, there_after}
use Rattle.desk_store.proofs.laws.tables_made.Goals as goal

pub returns-clause-there : goal.returns-clause-there
returns-clause-there c = there_after

pub returns-clause-exact : goal.returns-clause-exact
returns-clause-exact c = exact_with
