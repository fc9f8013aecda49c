-- A dot that is added to a mask.
use Rattle.std.proofs.Common.{◌≡◌, ◌≢◌, ℕ, ◌+◌, ◌-◌, ◌*◌, ◌%◌, ◌^◌, ◌<◌, ◌≤◌, refl, sym, ap, ◌∙◌, subst, arith, inl, inr, bit_or, mod-eq_of_lt, add_comm}
use Rattle.std.specs.Int.{bit_at}
use Rattle.std.proofs.lemmas.Nat.{or_disjoint, or_lt}
use Rattle.std.proofs.lemmas.Nat.Bits.{and_pow, bit_at-lt, bit_at_or, bit_at-pow_same, bit_at-pow_other, bit_at-zero}
use Rattle.std.proofs.lemmas.Bool.{cases_eq}
use Rattle.std.proofs.Math.Pow.{pow-lt}
use Rattle.cell_core.specs.Cell.{HasDot, dot_value}

-- a bit that is not set is clear
bit_at_clear : (n i : ℕ) → ¬ (bit_at n i ≡ 1) → bit_at n i ≡ 0
bit_at_clear n i unset = let below = bit_at-lt n i in omega arith

-- a dot that is not there is added by `|`
bit_or-dot_value : (mask dot : ℕ) → ¬ HasDot mask dot → bit_or mask (dot_value dot) ≡ dot_value dot + mask
bit_or-dot_value mask dot apart =
    or_disjoint mask (dot_value dot) (and_pow mask (dot - 1) ∙ rw (bit_at_clear mask (dot - 1) apart) (omega arith))
    ∙ add_comm mask (dot_value dot)

pub dot_value-lt : (dot : ℕ) → dot ≤ 8 → 1 ≤ dot → dot_value dot < 2 ^ 8
dot_value-lt dot last first = let place : dot - 1 < 8 = omega arith in pow-lt place

-- the same as the code computes it
pub bit_or-shifted : (mask dot : ℕ) → 1 ≤ dot → dot ≤ 8 → ¬ HasDot mask dot → bit_or mask (1 * 2 ^ (dot - 1) % 256) ≡ dot_value dot + mask
bit_or-shifted mask dot first last apart =
    let small : 1 * 2 ^ (dot - 1) < 256 = omega (arith, dot_value-lt dot last first) in
    rw (mod-eq_of_lt small) (ap (bit_or mask) (omega arith) ∙ bit_or-dot_value mask dot apart)

-- a mask of the dots 1 to 8 stays one
pub added-lt : (mask dot : ℕ) → 1 ≤ dot → dot ≤ 8 → ¬ HasDot mask dot → mask < 2 ^ 8 → dot_value dot + mask < 2 ^ 8
added-lt mask dot first last apart below =
    subst (λ (n : ℕ). n < 2 ^ 8) (bit_or-dot_value mask dot apart) (or_lt 8 mask (dot_value dot) below (dot_value-lt dot last first))

pub bit_at-added_same : (mask dot : ℕ) → ¬ HasDot mask dot → bit_at (dot_value dot + mask) (dot - 1) ≡ 1
bit_at-added_same mask dot apart =
    ap (λ (n : ℕ). bit_at n (dot - 1)) (sym (bit_or-dot_value mask dot apart))
    ∙ (bit_at_or mask (dot_value dot) (dot - 1)
    ∙ rw (bit_at-pow_same (dot - 1), bit_at_clear mask (dot - 1) apart) refl)

pub bit_at-added_other : (mask dot i : ℕ) → ¬ HasDot mask dot → i ≢ dot - 1 → bit_at (dot_value dot + mask) i ≡ bit_at mask i
bit_at-added_other mask dot i apart other =
    ap (λ (n : ℕ). bit_at n i) (sym (bit_or-dot_value mask dot apart))
    ∙ (bit_at_or mask (dot_value dot) i
    ∙ rw (bit_at-pow_other (dot - 1) i other) (omega arith))

-- no dot is in both masks
abbrev pub AreApart : ℕ → ℕ → Type 0
AreApart mask others = (i : ℕ) → bit_at mask i ≡ 1 → ¬ (bit_at others i ≡ 1)

pub AreApart-zero_left : (mask : ℕ) → AreApart 0 mask
AreApart-zero_left mask i set = let clear = bit_at-zero i in omega arith

pub AreApart-zero_right : (mask : ℕ) → AreApart mask 0
AreApart-zero_right mask i set other = let clear = bit_at-zero i in omega arith

-- a dot that is in neither may be moved from one to the other
pub AreApart-moved_right : (seen others dot : ℕ) → ¬ HasDot seen dot → ¬ HasDot others dot → AreApart (dot_value dot + seen) others → AreApart seen (dot_value dot + others)
AreApart-moved_right seen others dot new fresh apart i set =
    elim (cases_eq i (dot - 1)) [
      | inl same ↦ absurd (new (subst (λ (k : ℕ). bit_at seen k ≡ 1) same set))
      | inr other ↦ λ h. apart i (bit_at-added_other seen dot i new other ∙ set) (sym (bit_at-added_other others dot i fresh other) ∙ h)
    ]

pub AreApart-moved_left : (seen others dot : ℕ) → ¬ HasDot seen dot → ¬ HasDot others dot → AreApart seen (dot_value dot + others) → AreApart (dot_value dot + seen) others
AreApart-moved_left seen others dot new fresh apart i set h =
    elim (cases_eq i (dot - 1)) [
      | inl same ↦ fresh (subst (λ (k : ℕ). bit_at others k ≡ 1) same h)
      | inr other ↦ apart i (sym (bit_at-added_other seen dot i new other) ∙ set) (bit_at-added_other others dot i fresh other ∙ h)
    ]
