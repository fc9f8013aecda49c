-- What facts of one answer give.
use Rattle.std.proofs.Common.{Err, IfErr, Ok, OnOk, Result}
use Rattle.std.specs.Prelude.{MatchResult}

module _ {A E : Type 0} where
  pub on_ok_both : (r : Result A E) (P Q R : Type 0) → (P → Q → R) → OnOk r P → OnOk r Q → OnOk r R
  on_ok_both (Ok a) P Q R f p q = f p q
  on_ok_both (Err e) P Q R f p q = tt

  pub on_done : (r : Result A E) (P R : Type 0) (Q : E → Type 0) → (P → R) → MatchResult r (λ _. P) Q → OnOk r R
  on_done (Ok a) P R Q f p = f p
  on_done (Err e) P R Q f q = tt

  pub on_given_up : (r : Result A E) (P : Type 0) (Q R : E → Type 0) → ((e : E) → Q e → R e) → MatchResult r (λ _. P) Q → IfErr r R
  on_given_up (Ok a) P Q R f p = tt
  on_given_up (Err e) P Q R f q = f e q
