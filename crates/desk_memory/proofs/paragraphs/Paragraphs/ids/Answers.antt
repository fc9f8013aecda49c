use Rattle.std.proofs.Common.{sym, ◌∙◌}
use Rattle.desk_memory.proofs.Arranging.{ids-shown}
use Rattle.desk_memory.proofs.paragraphs.Paragraphs.ids.Goals as goal

pub returns : goal.returns
returns c = c.as_slice.ensures ∙ sym (ids-shown c.self.inside.items c.self.inside.order c.args.self.now c.self.invariant c.self.view_is)
