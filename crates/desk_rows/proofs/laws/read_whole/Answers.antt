use Rattle.desk_rows.proofs.TableReads.WholeFile.{is_file}
use Rattle.desk_rows.proofs.laws.read_whole.Goals as goal

pub returns : goal.returns
returns c = is_file
