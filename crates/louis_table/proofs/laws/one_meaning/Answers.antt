use Rattle.louis_table.proofs.OneMeaning.{one_meaning, one_fault, means_or_bad, some_meaning}
use Rattle.louis_table.proofs.laws.one_meaning.Goals as goal

pub returns : goal.returns
returns c = record { one = one_meaning; one_fault = one_fault; either = means_or_bad; some = some_meaning }
