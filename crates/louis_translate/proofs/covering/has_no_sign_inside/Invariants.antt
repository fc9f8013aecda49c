use Rattle.std.proofs.Common.{◌≡◌, ◌<◌, ℕ, []}
use Rattle.louis_translate.specs.Sign.{sign_at}
use Rattle.louis_translate.proofs.covering.has_no_sign_inside.Given as goal

abbrev pub invariant-loop-place : goal.invariant-loop-place
invariant-loop-place l = record {
  table_is : l.signs.table.now ≡ l.table;
  print_is : l.signs.print.now ≡ l.print;
  no_sign_inside : (k : ℕ) → l.start < k → k < l.place → sign_at l.table l.print k ≡ [];
}
