-- The numbers of the refusals as text.
use Rattle.std.proofs.Common.{◌≡◌, [], ◌∷◌, refl, arith}
use Rattle.std.specs.Fmt.{decimal, digits}
use Rattle.std.proofs.lemmas.Fmt.{decimal_digit}

pub decimal-1 : decimal 1 ≡ 49 ∷ []
decimal-1 = decimal_digit 1 (omega arith)

pub decimal-7 : decimal 7 ≡ 55 ∷ []
decimal-7 = decimal_digit 7 (omega arith)

pub decimal-14 : decimal 14 ≡ 49 ∷ 52 ∷ []
unfolding digits
decimal-14 = refl
