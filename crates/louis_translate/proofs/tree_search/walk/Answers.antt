use Rattle.std.proofs.Common.{◌≡◌, ◌+◌, ◌-◌, ℕ, subst, arith, sym, ◌∙◌, rules}
use Rattle.louis_translate.specs.Search.{AreThose, IsBestBelow}
use Rattle.louis_translate.proofs.Searches.{AreThose-on_way, IsBestBelow-or, IsOnWay-next, chosen_at_end, node_within}
use Rattle.louis_translate.proofs.tree_search.walk.Goals as goal

pub first_of-requires-clause-rules : goal.first_of-requires-clause-rules
first_of-requires-clause-rules c = search (rules, AreThose-on_way)

pub returns-in_default : goal.returns-in_default
returns-in_default c =
    let way = c.loop-end.invariant.way in
    let order = way.order in
    let within = way.within in
    let those : AreThose c.args.index.now.table c.args.print.now c.args.at (c.loop-end.end - c.args.at) c.rules_at-rules.result.now = search (rules, AreThose-on_way) in
    let best : IsBestBelow c.args.index.now.table c.args.print.now c.args.at (c.loop-end.end - c.args.at + 1) c.or-found.result =
    subst (IsBestBelow c.args.index.now.table c.args.print.now c.args.at (c.loop-end.end - c.args.at + 1)) (sym c.or-found.ensures)
    (IsBestBelow-or c.args.index.now.table c.args.print.now c.args.at (c.loop-end.end - c.args.at) c.rules_at-rules.result.now (omega arith) (omega arith) those c.first_of.result c.loop-end.found c.first_of.ensures c.loop-end.invariant.best) in
    search (rules, chosen_at_end)

pub loop-end-preserved : goal.loop-end-preserved
loop-end-preserved c =
    let way = c.loop-end.invariant.way in
    let order = way.order in
    let within = way.within in
    let one_more : c.loop-end.end - c.args.at + 1 ≡ c.loop-end.end + 1 - c.args.at = omega arith in
    let those : AreThose c.args.index.now.table c.args.print.now c.args.at (c.loop-end.end - c.args.at) c.rules_at-rules.result.now = search (rules, AreThose-on_way) in
    let best : IsBestBelow c.args.index.now.table c.args.print.now c.args.at (c.loop-end.end - c.args.at + 1) c.or-found.result =
    subst (IsBestBelow c.args.index.now.table c.args.print.now c.args.at (c.loop-end.end - c.args.at + 1)) (sym c.or-found.ensures)
    (IsBestBelow-or c.args.index.now.table c.args.print.now c.args.at (c.loop-end.end - c.args.at) c.rules_at-rules.result.now (omega arith) (omega arith) those c.first_of.result c.loop-end.found c.first_of.ensures c.loop-end.invariant.best) in
    record {
      way = IsOnWay-next c.args.index.now c.args.print.now c.args.at c.requires.whole c.loop-end.end c.loop-end.node c.in-Some.child way (sym c.next.ensures ∙ c.in-Some.is);
      best = subst (λ (d : ℕ). IsBestBelow c.args.index.now.table c.args.print.now c.args.at d c.or-found.result) one_more best;
    }

pub rules_at-rules-requires : goal.rules_at-rules-requires
rules_at-rules-requires c = node_within c.args.index.now c.args.print.now c.args.at c.requires.whole c.loop-end.end c.loop-end.node c.loop-end.invariant.way

pub next-requires : goal.next-requires
next-requires c = node_within c.args.index.now c.args.print.now c.args.at c.requires.whole c.loop-end.end c.loop-end.node c.loop-end.invariant.way
