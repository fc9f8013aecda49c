use Rattle.std.proofs.Common.{length, sym, ap, ◌∙◌}
use Rattle.desk_memory.proofs.ByName.{length-by_name}
use Rattle.desk_memory.proofs.tables.Tables.len.Goals as goal

pub returns : goal.returns
returns c = c.len.ensures.len ∙ (sym (length-by_name c.self.inside.entries.entries c.self.invariant) ∙ ap length c.self.view_is)
