-- What holds or not: how it is decided of pairs, choices, numbers, lists and options.
use Rattle.std.proofs.Common.{◌≡◌, ◌⊎◌, ℕ, ◌<◌, ◌≤◌, Bool, true, false, List, [], ◌∷◌, Option, Some, None, refl, sym, subst, arith, inl, inr, All, IsSomeAnd}
use Rattle.std.proofs.lemmas.Bool.{cases_lt}
use Rattle.std.proofs.lemmas.List.Elements.{All-cons, All-head, All-nil, All-tail}
use Rattle.std.proofs.lemmas.Option.{same_Some}

-- it holds or not
abbrev pub Decided : Type 0 → Type 0
Decided P = P ⊎ ¬ P

pub both : {P Q : Type 0} → Decided P → Decided Q → Decided (P × Q)
both (inl p) (inl q) = inl (p, q)
both (inl p) (inr q) = inr (λ h. q h.1)
both (inr p) q = inr (λ h. p h.0)

pub either : {P Q : Type 0} → Decided P → Decided Q → Decided (P ⊎ Q)
either (inl p) q = inl (inl p)
either (inr p) (inl q) = inl (inr q)
either (inr p) (inr q) = inr (λ h. elim h [ inl x ↦ p x | inr y ↦ q y ])

pub implied : {P Q : Type 0} → (P → Q) → (Q → P) → Decided P → Decided Q
implied to from (inl p) = inl (to p)
implied to from (inr p) = inr (λ q. p (from q))

pub below : (n m : ℕ) → Decided (n < m)
below n m = elim (cases_lt n m) [ inl h ↦ inl h | inr h ↦ inr (λ less. omega arith) ]

pub at_most : (n m : ℕ) → Decided (n ≤ m)
at_most n m = elim (cases_lt m n) [ inl h ↦ inr (λ le. omega arith) | inr h ↦ inl h ]

-- what isn't at a limit is below it, and what isn't over one is no greater
pub below_unless : (n most : ℕ) → ¬ (most ≤ n) → n < most
below_unless n most room = elim (cases_lt n most) [ inl h ↦ h | inr full ↦ absurd (room full) ]

pub at_most_unless : (n most : ℕ) → ¬ (most < n) → n ≤ most
at_most_unless n most room = elim (cases_lt most n) [ inl over ↦ absurd (room over) | inr h ↦ h ]

pub is_so : (b : Bool) → Decided (b ≡ true)
is_so true = inl refl
is_so false = inr (λ e. cc e)

pub isnt_so : (b : Bool) → Decided (b ≡ false)
isnt_so true = inr (λ e. cc e)
isnt_so false = inl refl

pub all : {X : Type 0} (P : X → Type 0) → ((x : X) → Decided (P x)) → (xs : List X) → Decided (All P xs)
all P test [] = inl (All-nil P)
all P test (x ∷ xs) = implied (λ h. All-cons P x xs h.0 h.1) (λ h. (All-head P x xs h, All-tail P x xs h)) (both (test x) (all P test xs))

-- something that an option gives and that holds of it
pub given : {X : Type 0} (P : X → Type 0) → ((x : X) → Decided (P x)) → (o : Option X) → Decided ((x : X) × (o ≡ Some x) × P x)
given P test None = inr (λ h. cc h.1)
given P test (Some x) = implied (λ p. (x, refl, p)) (λ h. subst P (sym (same_Some x h.0 h.1)) h.2) (test x)

-- an option gives something, and it holds of that
pub of_given : {X : Type 0} (P : X → Type 0) → ((x : X) → Decided (P x)) → (o : Option X) → Decided (IsSomeAnd o P)
of_given P test None = inr (λ h. h)
of_given P test (Some x) = test x

pub is_none : {X : Type 0} (o : Option X) → Decided (o ≡ None)
is_none None = inl refl
is_none (Some x) = inr (λ e. cc e)

pub not : {P : Type 0} → Decided P → Decided (¬ P)
not (inl p) = inr (λ h. h p)
not (inr p) = inl p

-- some value has it, or none
abbrev pub SomeOrNone : {X : Type 0} → (X → Type 0) → Type 0
SomeOrNone {X} P = ((x : X) × P x) ⊎ ((x : X) → ¬ P x)

-- ---- records

-- that it holds or not, which `hlevel (decisions, ..)` shows of a record by its fields
pub record IsDecidable (P : Type 0) : Type 0 where
  pub decided : Decided P

pub pair_decidable : {P Q : Type 0} → IsDecidable P → IsDecidable Q → IsDecidable (P × Q)
pair_decidable p q = record { decided = both p.decided q.decided }

pub along_decidable : {P Q : Type 0} (to : P → Q) (from : Q → P) → ((p : P) → from (to p) ≡ p) → IsDecidable Q → IsDecidable P
along_decidable to from back q = record { decided = implied from to q.decided }

pub decidable : {P : Type 0} → Decided P → IsDecidable P
decidable decided = record { decided = decided }

pub ruleset decisions = (decidable, pair_decidable, along_decidable)
