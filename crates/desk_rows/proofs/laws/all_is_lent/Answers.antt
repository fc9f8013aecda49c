use Rattle.desk_rows.proofs.RowPuts.LentPuts.{all_lent}
use Rattle.desk_rows.proofs.laws.all_is_lent.Goals as goal

pub returns : goal.returns
returns c = all_lent
