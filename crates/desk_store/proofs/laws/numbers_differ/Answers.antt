use Rattle.desk_store.proofs.laws.numbers_differ.Goals as goal
use Rattle.desk_store.proofs.BookNumbers.{differ_by_numbers}

pub returns : goal.returns
returns c = differ_by_numbers
