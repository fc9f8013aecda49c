use Rattle.std.proofs.Common.{rules}
use Rattle.desk_store.proofs.store.Store.over.Goals as goal

pub returns : goal.returns
returns g c = search rules
