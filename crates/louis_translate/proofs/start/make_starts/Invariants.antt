use Rattle.std.proofs.Common.{◌≡◌, length}
use Rattle.louis_translate.specs.Start.{AreStarts}
use Rattle.louis_translate.proofs.start.make_starts.Given as goal

abbrev pub invariant-loop-pair : goal.invariant-loop-pair
invariant-loop-pair l = record {
  len : length l.starts.items ≡ l.pair;
  starts : AreStarts l.index.table l.index.tree l.starts.items;
}
