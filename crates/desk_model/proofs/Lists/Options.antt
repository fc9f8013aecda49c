-- A value that an option gives, and of which something holds.
use Rattle.std.proofs.Common.{◌≡◌, true, Option, Some, None, refl, sym, subst, IsSomeAnd, is_some}

-- it gives this value, of which it holds
pub IsSomeAnd-of : {X : Type 0} (P : X → Type 0) {o : Option X} {x : X} → o ≡ Some x → P x → IsSomeAnd o P
IsSomeAnd-of P is h = subst (λ a. IsSomeAnd a P) (sym is) h

-- it holds of the value that is given
pub IsSomeAnd-value : {X : Type 0} (P : X → Type 0) {o : Option X} {x : X} → o ≡ Some x → IsSomeAnd o P → P x
IsSomeAnd-value P is h = subst (λ a. IsSomeAnd a P) is h

-- a value is given
pub IsSomeAnd-some : {X : Type 0} (P : X → Type 0) (o : Option X) → IsSomeAnd o P → is_some o ≡ true
IsSomeAnd-some P None h = absurd h
IsSomeAnd-some P (Some x) h = refl

-- a value is given unless there is none
pub given_unless : {X : Type 0} (o : Option X) → ¬ (o ≡ None) → (x : X) × (o ≡ Some x)
given_unless None some = absurd (some refl)
given_unless (Some x) some = (x, refl)
