-- What holds at an exit.
use Rattle.std.proofs.Common.{◌≡◌, true, false, Err, IsErrAnd, Ok, Result, ap, is_ok, sym, true≢false}
use Rattle.std.specs.Prelude.{MatchResult}

module _ {T E : Type 0} where
  -- the error that is returned at a `?`
  pub reported_is : (r : Result T E) {e : E} → IsErrAnd r (λ reported. reported ≡ e) → r ≡ Err e
  reported_is (Ok x) failed = absurd failed
  reported_is (Err reported) same = ap (λ y. Err y) same

  -- what holds by the test for a value or an error
  pub at_done : (r : Result T E) (P : Type 0) (Q : E → Type 0) → MatchResult r (λ _. P) Q → is_ok r ≡ true → P
  at_done (Ok x) P Q p ok = p
  at_done (Err e) P Q q ok = absurd (true≢false (sym ok))

  pub at_given_up : (r : Result T E) (P : Type 0) (Q : E → Type 0) → MatchResult r (λ _. P) Q → is_ok r ≡ false → (e : E) × Q e
  at_given_up (Ok x) P Q p failed = absurd (true≢false failed)
  at_given_up (Err e) P Q q failed = (e, q)
