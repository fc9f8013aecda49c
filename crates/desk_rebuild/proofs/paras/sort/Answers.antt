use Rattle.std.proofs.Common.{rules}
use Rattle.std.proofs.lemmas.List.Sorted.{answers_always}
use Rattle.desk_parts.specs.Rows.{Para}
use Rattle.desk_rebuild.proofs.paras.sort.Goals as goal

pub returns-clause-sorted : goal.returns-clause-sorted
returns-clause-sorted c = c.sort_unstable_by_key.ensures.sorted (λ (row : Para). row.id) (answers_always _ _ _ (λ a r q k. search rules))
