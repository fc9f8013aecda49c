use Rattle.desk_line.proofs.FieldLists.{none-left}
use Rattle.desk_line.proofs.fields.Fields.is_empty.Goals as goal

pub returns : goal.returns
returns c = none-left c.self.inside.rest c.args.self.now c.is_none.result c.self.view_is c.is_none.ensures
