use Rattle.std.proofs.Common.{◌≡◌, ◌<◌, ℕ, get_or, length}
use Rattle.desk_ends.specs.Block.{encoding}
use Rattle.desk_ends.proofs.block.encode_all.Given as goal

-- those of the masks so far stand in their places
abbrev pub invariant-loop-mask : goal.invariant-loop-mask
invariant-loop-mask l = record {
  size : length l.all ≡ 256;
  found : (k : ℕ) → k < l.mask → get_or l.all k 0 ≡ encoding k;
}
