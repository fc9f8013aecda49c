use Rattle.louis_table.proofs.OneMeaning.{one_meaning_in, one_fault_in, means_or_bad_in}
use Rattle.louis_table.proofs.ProfileOutcome.{some_meaning_in}
use Rattle.louis_table.proofs.ProfileLaws.{same_with_numeric_mode, nothing_of_numeric_mode}
use Rattle.louis_table.proofs.laws.profiles.Goals as goal

pub returns : goal.returns
returns c =
    record {
      same = same_with_numeric_mode;
      nothing_new = nothing_of_numeric_mode;
      one = one_meaning_in;
      one_fault = one_fault_in;
      either = means_or_bad_in;
      some = some_meaning_in;
    }
