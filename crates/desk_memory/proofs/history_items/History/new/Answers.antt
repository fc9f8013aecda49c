use Rattle.std.proofs.Common.{rules}
use Rattle.desk_memory.proofs.history_items.History.new.Goals as goal

pub returns : goal.returns
returns c = search rules
