use Rattle.desk_store.proofs.FileFormats.{new_format, with_cells, with_names}
use Rattle.desk_store.proofs.laws.formats.Goals as goal

pub returns-clause-new : goal.returns-clause-new
returns-clause-new c = new_format

pub returns-clause-names : goal.returns-clause-names
returns-clause-names c = with_names

pub returns-clause-cells : goal.returns-clause-cells
returns-clause-cells c = with_cells
