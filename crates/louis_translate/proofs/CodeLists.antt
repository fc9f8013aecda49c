-- Lists whose places are the codes of characters.
use Rattle.std.proofs.Common.{◌≡◌, ◌⊎◌, ℕ, zero, suc, List, [], ◌∷◌, Some, refl, ap, inl, inr, replicate, slice_get, slice_set}

-- what stands in a list of one thing is that thing
pub get_replicate : {A : Type 0} (n : ℕ) (x : A) (k : ℕ) (y : A) → slice_get (replicate n x) k ≡ Some y → x ≡ y
get_replicate zero x k y e = cc
get_replicate (suc n) x zero y e = cc
get_replicate (suc n) x (suc k) y e = get_replicate n x k y e

-- what stands in a list with one place set stood there before, or was set
pub get_set : {A : Type 0} (xs : List A) (i : ℕ) (y : A) (k : ℕ) (x : A) → slice_get (slice_set xs i y) k ≡ Some x
    → (slice_get xs k ≡ Some x) ⊎ ((k ≡ i) × (y ≡ x))
get_set [] i y k x e = inl e
get_set (z ∷ xs) zero y zero x e = inr (refl, cc)
get_set (z ∷ xs) zero y (suc k) x e = inl e
get_set (z ∷ xs) (suc i) y zero x e = inl e
get_set (z ∷ xs) (suc i) y (suc k) x e = elim (get_set xs i y k x e) [ inl h ↦ inl h | inr p ↦ inr (ap suc p.0, p.1) ]
