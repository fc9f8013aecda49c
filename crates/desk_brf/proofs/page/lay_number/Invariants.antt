use Rattle.std.proofs.Common.{◌≡◌, ◌+◌, ◌-◌, ◌∷◌, ◌++◌, length, take}
use Rattle.std.specs.Prelude.{replicate, map}
use Rattle.desk_brf.specs.Pages.{digit_letter}
use Rattle.desk_brf.proofs.page.lay_number.Given as goal

abbrev pub invariant-loop-digit : goal.invariant-loop-digit
invariant-loop-digit l =
    (l.line ≡ replicate (l.fn.width - (length l.digits + 1)) 32 ++ (35 ∷ map digit_letter (take l.digit-index l.digits)))
    × (length l.line ≡ (l.fn.width - (length l.digits + 1)) + (1 + l.digit-index))
