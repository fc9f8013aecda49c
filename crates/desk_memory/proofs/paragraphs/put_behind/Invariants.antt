use Rattle.std.proofs.Common.{◌≡◌, ◌++◌, take}
use Rattle.desk_model.specs.declared.command.Anchor.TheVariants.{Para}
use Rattle.desk_memory.specs.Held.{with_id}
use Rattle.desk_memory.proofs.paragraphs.put_behind.Given as goal

abbrev pub invariant-loop-other : goal.invariant-loop-other
invariant-loop-other l = l.all.items ≡ l.fn.all.items ++ with_id (Para l.id) l.new (take l.other-index l.ids)
