use Rattle.desk_rows.proofs.TableReads.FileTexts.{readable, rowids}
use Rattle.desk_rows.proofs.TableReads.WholeFile.{tabs_apart}
use Rattle.desk_rows.proofs.laws.texts_as_written.Goals as goal

pub returns-clause-readable : goal.returns-clause-readable
returns-clause-readable c = readable

pub returns-clause-rowids : goal.returns-clause-rowids
returns-clause-rowids c = rowids

pub returns-clause-apart : goal.returns-clause-apart
returns-clause-apart c = tabs_apart
