use Rattle.std.proofs.Common.{rules}
use Rattle.std.proofs.lemmas.List.Sorted.{answers_always}
use Rattle.desk_parts.specs.Rows.{ParaCells}
use Rattle.desk_rebuild.proofs.caches.sorted.Goals as goal

pub returns-clause-sorted : goal.returns-clause-sorted
returns-clause-sorted c =
    c.sort_unstable_by_key.ensures.sorted (λ (row : ParaCells). row.para) (answers_always _ _ _ (λ f a r g h. search rules))
