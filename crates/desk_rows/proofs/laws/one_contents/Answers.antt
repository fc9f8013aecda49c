use Rattle.desk_rows.proofs.TableReads.WholeFile.{one_contents}
use Rattle.desk_rows.proofs.laws.one_contents.Goals as goal

pub returns : goal.returns
returns c = one_contents
