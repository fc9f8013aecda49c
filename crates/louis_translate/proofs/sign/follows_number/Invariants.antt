use Rattle.std.proofs.Common.{◌≡◌, ◌≤◌}
use Rattle.louis_translate.specs.Sign.{follows_number}
use Rattle.louis_translate.proofs.sign.follows_number.Given as goal

-- what was passed over leaves the answer to the place that was reached
abbrev pub invariant-loop-at : goal.invariant-loop-at
invariant-loop-at l = record {
  from : l.known ≤ l.at;
  within : l.at ≤ l.place;
  same : follows_number l.table l.print l.place ≡ follows_number l.table l.print l.at;
}

abbrev pub decreases-loop-at : goal.decreases-loop-at
decreases-loop-at l = l.at
