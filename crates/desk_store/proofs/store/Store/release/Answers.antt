use Rattle.std.proofs.Common.{rules}
use Rattle.desk_store.proofs.store.Store.release.Goals as goal

pub returns-clause-same : goal.returns-clause-same
returns-clause-same g c = search rules
