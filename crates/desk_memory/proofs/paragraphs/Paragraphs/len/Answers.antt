use Rattle.std.proofs.Common.{length, sym, ap, ◌∙◌}
use Rattle.desk_memory.proofs.Arranging.{length-in_order}
use Rattle.desk_memory.proofs.paragraphs.Paragraphs.len.Goals as goal

pub returns : goal.returns
returns c = c.len.ensures ∙ (sym (length-in_order c.self.inside.items c.self.inside.order c.self.invariant) ∙ ap length c.self.view_is)
