use Rattle.std.proofs.Common.{◌≡◌, drop}
use Rattle.cell_core.specs.Reading.{with_digits}
use Rattle.cell_core.proofs.dots.read_digits.Given as goal

abbrev pub invariant-loop-digit : goal.invariant-loop-digit
invariant-loop-digit l = with_digits l.cell (drop l.digit-index l.digits) ≡ with_digits 0 l.digits
