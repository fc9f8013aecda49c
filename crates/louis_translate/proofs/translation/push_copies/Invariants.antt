use Rattle.std.proofs.Common.{◌≡◌, ◌++◌, replicate}
use Rattle.louis_translate.proofs.translation.push_copies.Given as goal

abbrev pub invariant-loop : goal.invariant-loop
invariant-loop l = l.places.items ≡ l.initial.places.items ++ replicate l.counter l.place
