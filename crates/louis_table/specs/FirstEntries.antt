-- Where the entries of the first characters stand.
use Rattle.std.specs.Prelude.{◌≡◌, ℕ, ◌<◌, zero, suc, List, Some, None, length, slice_index, slice_get, nat_eq}
use Rattle.std.specs.Map.{lookup}

-- the place is 0 and the character has no entry, or it is one more than the index of its entry
abbrev pub IsPlaceOf : {V : Type 0} → ℕ → List (ℕ × V) → ℕ → Type 0
IsPlaceOf {V} zero entries character = lookup (nat_eq character) entries ≡ None
IsPlaceOf {V} (suc index) entries character =
    (value : V) × (slice_get entries index ≡ Some (character, value))

-- each of the first characters has its place
pub record AreIn {V : Type 0} (places : List ℕ) (entries : List (ℕ × V)) : Type 0 where
  pub count : length places ≡ 128
  pub each : (character : ℕ) → character < 128 → IsPlaceOf (slice_index places character) entries character
