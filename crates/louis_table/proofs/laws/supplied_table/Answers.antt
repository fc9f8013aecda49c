use Rattle.louis_table.proofs.SuppliedTable.{english_means}
use Rattle.louis_table.proofs.laws.supplied_table.Goals as goal

pub returns : goal.returns
returns c = english_means
