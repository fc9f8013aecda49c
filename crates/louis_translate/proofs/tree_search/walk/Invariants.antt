use Rattle.std.proofs.Common.{◌-◌}
use Rattle.louis_translate.specs.Search.{IsBestBelow, IsOnWay}
use Rattle.louis_translate.proofs.tree_search.walk.Given as goal

abbrev pub invariant-loop-end : goal.invariant-loop-end
invariant-loop-end l = record {
  way : IsOnWay l.index l.print l.at l.end l.node;
  best : IsBestBelow l.index.table l.print l.at (l.end - l.at) l.found;
}
