-- What a search for a barred character finds.
use Rattle.std.proofs.Common.{◌≡◌, ℕ, List, Some, None, length, arith, inl, inr, not}
use Rattle.std.specs.List.{position, position_or_len}
use Rattle.std.proofs.lemmas.Bool.{cases_lt, lt-ltb, both_ways, not-true}
use Rattle.std.proofs.lemmas.List.Quantifiers.{position-Some}
use Rattle.std.proofs.lemmas.List.Sums.{prefix_len_passes}
use Rattle.desk_model.specs.BookTexts.{IsUnbarred, IsFirstBarred, is_barred}

pub IsFirstBarred-position : (text : List ℕ) (place : ℕ) → position is_barred text ≡ Some place → IsFirstBarred text place
IsFirstBarred-position text place e =
    let found = position-Some is_barred text place 0 e in
    record { within = found.0; barred = found.1; before = found.2 }

pub IsUnbarred-position : (text : List ℕ) → position is_barred text ≡ None → IsUnbarred text
IsUnbarred-position text e =
    elim (cases_lt (position_or_len is_barred text) (length text)) [
      | inl within ↦ absurd (let here = lt-ltb _ _ within in cc (rw here at e))
      | inr past ↦ λ k d lt. not-true _ (prefix_len_passes (λ character. not (is_barred character)) text k d (omega arith))
    ]

-- a clean text has no first barred character
pub IsUnbarred-none : (text : List ℕ) (place : ℕ) → IsUnbarred text → IsFirstBarred text place → ⊥
IsUnbarred-none text place clean first = both_ways _ (clean place 0 first.within) first.barred
