use Rattle.std.proofs.Common.{◌≡◌, ◌+◌, ◌++◌, ◌∷◌, [], List, map, sym, ap, subst, ◌∙◌}
use Rattle.std.proofs.lemmas.List.{map-append}
use Rattle.desk_rebuild.specs.Entries.{AreGrouped}
use Rattle.desk_parts.specs.Rows.{NamedCorr}
use Rattle.desk_rebuild.proofs.GroupedEntries.{group-more, no-groups}
use Rattle.desk_rebuild.proofs.entries.no_rows.Goals as goal

pub loop-init : goal.loop-init
loop-init c = subst (AreGrouped 0 []) (sym (ap (map (λ group. group.items)) c.in_ok-groups.ensures.items)) no-groups

pub loop-preserved : goal.loop-preserved
loop-preserved c =
    let more : map (λ group. group.items) c.push.new.self.items ≡ map (λ group. group.items) c.loop.groups.items ++ [] ∷ [] =
    ap (map (λ group. group.items)) c.in_ok-push.ensures.items
    ∙ (map-append (λ group. group.items) c.loop.groups.items (c.new.result ∷ [])
    ∙ ap (λ (t : List NamedCorr). map (λ group. group.items) c.loop.groups.items ++ t ∷ []) c.new.ensures.items) in
    subst (AreGrouped (c.loop.counter + 1) []) (sym more) (group-more c.loop.counter (map (λ group. group.items) c.loop.groups.items) c.loop.invariant)
