-- The digits that list the dots of a mask, and the dots of the mask.
use Rattle.std.proofs.Common.{◌≡◌, ◌≢◌, ℕ, ◌+◌, ◌-◌, ◌^◌, ◌<◌, ◌≤◌, ◌↔◌, List, [], ◌∷◌, get_or, sym, ap, ◌∙◌, subst, arith, inl, inr, Contains}
use Rattle.std.specs.Int.{bit_at}
use Rattle.std.proofs.lemmas.Bool.{cases_eq}
use Rattle.std.proofs.lemmas.List.Elements.{Contains-append_cases, Contains-append_right}
use Rattle.std.proofs.lemmas.Nat.Bits.{bit_at-lt, bit_at-zero, same_from_bits_below}
use Rattle.cell_core.specs.Cell.{HasDot}
use Rattle.cell_core.specs.Dots.{ListsDots}
use Rattle.cell_core.proofs.MaskLaws.{added-lt, bit_at-added_same, bit_at-added_other}

pub ListsDots-lt : (text : List ℕ) (mask : ℕ) → ListsDots text mask → mask < 2 ^ 8
ListsDots-lt [] mask none = omega arith
ListsDots-lt (digit ∷ digits) mask lists =
    subst (λ (n : ℕ). n < 2 ^ 8) (sym lists.7) (added-lt lists.1 lists.0 lists.2 lists.3 lists.6 (ListsDots-lt digits lists.1 lists.5))

-- a dot of the mask is the one of the first digit, or one of the others
HasDot-first : (digit : ℕ) (digits : List ℕ) (mask dot : ℕ) → (lists : ListsDots (digit ∷ digits) mask) → dot ≡ lists.0 → HasDot mask dot
HasDot-first digit digits mask dot lists same = rw (same, lists.7) (bit_at-added_same lists.1 lists.0 lists.6)

bit_at-others : (digit : ℕ) (digits : List ℕ) (mask dot : ℕ) → (lists : ListsDots (digit ∷ digits) mask) → 1 ≤ dot → dot ≢ lists.0 → bit_at mask (dot - 1) ≡ bit_at lists.1 (dot - 1)
bit_at-others digit digits mask dot lists first other =
    let first' : 1 ≤ lists.0 = lists.2 in
    rw lists.7 (bit_at-added_other lists.1 lists.0 (dot - 1) lists.6 (λ same. other (omega arith)))

Contains-first : (x : ℕ) (xs : List ℕ) (y : ℕ) → x ≡ y → Contains (x ∷ xs) y
Contains-first x xs y same = (0, omega arith, same)

Contains-single : (x y : ℕ) → Contains (x ∷ []) y → x ≡ y
Contains-single x y h = let place : h.0 ≡ 0 = omega arith in ap (λ (k : ℕ). get_or (x ∷ []) k y) (sym place) ∙ h.2

-- each dot has its digit
Contains-from_HasDot : (text : List ℕ) (mask : ℕ) → ListsDots text mask → (dot : ℕ) → 1 ≤ dot → HasDot mask dot → Contains text (48 + dot)
Contains-from_HasDot [] mask none dot first has =
    let clear : bit_at mask (dot - 1) ≡ 0 = ap (λ (n : ℕ). bit_at n (dot - 1)) none ∙ bit_at-zero (dot - 1) in
    absurd (omega arith)
Contains-from_HasDot (digit ∷ digits) mask lists dot first has =
    elim (cases_eq dot lists.0) [
      | inl same ↦ Contains-first digit digits (48 + dot) (omega arith)
      | inr other ↦ Contains-append_right (digit ∷ []) digits (48 + dot) (Contains-from_HasDot digits lists.1 lists.5 dot first (sym (bit_at-others digit digits mask dot lists first other) ∙ has))
    ]

-- each digit has its dot
HasDot-from_Contains : (text : List ℕ) (mask : ℕ) → ListsDots text mask → (dot : ℕ) → 1 ≤ dot → Contains text (48 + dot) → HasDot mask dot
HasDot-from_Contains [] mask none dot first h = absurd (omega (arith, h.1))
HasDot-from_Contains (digit ∷ digits) mask lists dot first h =
    elim (cases_eq dot lists.0) [
      | inl same ↦ HasDot-first digit digits mask dot lists same
      | inr other ↦ elim (Contains-append_cases (digit ∷ []) digits (48 + dot) h) [
        | inl one ↦ absurd (let digit_is = Contains-single digit (48 + dot) one in other (omega arith))
        | inr rest ↦ bit_at-others digit digits mask dot lists first other ∙ HasDot-from_Contains digits lists.1 lists.5 dot first rest
      ]
    ]

pub digits_are_dots : (text : List ℕ) (mask : ℕ) → ListsDots text mask → (mask < 2 ^ 8) × ((dot : ℕ) → 1 ≤ dot → dot ≤ 8 → (HasDot mask dot ↔ Contains text (48 + dot)))
digits_are_dots text mask lists = (
  ListsDots-lt text mask lists,
  λ dot first last. (Contains-from_HasDot text mask lists dot first, HasDot-from_Contains text mask lists dot first),
)

same_bit : (mask others i : ℕ) → ((bit_at mask i ≡ 1) ↔ (bit_at others i ≡ 1)) → bit_at mask i ≡ bit_at others i
same_bit mask others i both =
    let below = bit_at-lt mask i in
    let below' = bit_at-lt others i in
    elim (cases_eq (bit_at mask i) 1) [
      | inl set ↦ set ∙ sym (both.0 set)
      | inr clear ↦ elim (cases_eq (bit_at others i) 1) [ inl set ↦ absurd (clear (both.1 set)) | inr clear' ↦ omega arith ]
    ]

-- a mask of the dots 1 to 8 is known by its dots
pub same_from_dots : (mask others : ℕ) → mask < 2 ^ 8 → others < 2 ^ 8 → ((dot : ℕ) → 1 ≤ dot → dot ≤ 8 → (HasDot mask dot ↔ HasDot others dot)) → mask ≡ others
same_from_dots mask others below below' both =
    same_from_bits_below 8 mask others below below'
    (λ i within. same_bit mask others i (let dots = both (i + 1) (omega arith) (omega arith) in let place : (i + 1) - 1 ≡ i = omega arith in rw place at dots))
