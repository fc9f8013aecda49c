use Rattle.std.proofs.Common.{[], ◌∷◌, ◌++◌, List, ℕ, ap, ◌∙◌}
use Rattle.std.proofs.lemmas.List.{replicate-append-replicate}
use Rattle.desk_rebuild.proofs.paras.free_places.Goals as goal

pub loop-preserved : goal.loop-preserved
loop-preserved c =
    c.in_ok-push.ensures.items ∙ (ap (λ (places : List ℕ). places ++ 0 ∷ []) c.loop.invariant ∙ replicate-append-replicate c.loop.counter 1 0)
