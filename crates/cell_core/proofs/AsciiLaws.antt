-- Each byte of Braille ASCII has a cell, and each cell of the dots 1 to 6 a byte.
use Rattle.std.proofs.Common.{◌≡◌, ℕ, zero, suc, ◌+◌, ◌-◌, ◌<◌, ◌≤◌, Bool, true, false, ◌&&◌, eqb, List, [], ◌∷◌, length, Option, Some, None, refl, sym, ap, ◌∙◌, arith, inl, inr, slice_get, slice_index}
use Rattle.std.proofs.lemmas.Bool.{eqb-true, le-ltb, lt-ltb, cond-false, cases_lt}
use Rattle.std.proofs.lemmas.Option.{slice_get-get_or, slice_get_past, slice_get_within, get_or_from_slice_get}
use Rattle.cell_core.specs.Ascii.{ascii_masks, ascii_cell}
use Rattle.cell_core.specs.Cell.{HasDot}

-- the bytes in the order of their masks
abbrev pub ascii_bytes : List ℕ
ascii_bytes =
    32 ∷ 65 ∷ 49 ∷ 66 ∷ 39 ∷ 75 ∷ 50 ∷ 76 ∷
    64 ∷ 67 ∷ 73 ∷ 70 ∷ 47 ∷ 77 ∷ 83 ∷ 80 ∷
    34 ∷ 69 ∷ 51 ∷ 72 ∷ 57 ∷ 79 ∷ 54 ∷ 82 ∷
    94 ∷ 68 ∷ 74 ∷ 71 ∷ 62 ∷ 78 ∷ 84 ∷ 81 ∷
    44 ∷ 42 ∷ 53 ∷ 60 ∷ 45 ∷ 85 ∷ 56 ∷ 86 ∷
    46 ∷ 37 ∷ 91 ∷ 36 ∷ 43 ∷ 88 ∷ 33 ∷ 38 ∷
    59 ∷ 58 ∷ 52 ∷ 92 ∷ 48 ∷ 90 ∷ 55 ∷ 40 ∷
    95 ∷ 63 ∷ 87 ∷ 93 ∷ 35 ∷ 89 ∷ 41 ∷ 61 ∷ []

-- the value there is n
abbrev is_some_of : Option ℕ → ℕ → Bool
is_some_of None n = false
is_some_of (Some m) n = eqb m n

-- f answers the numbers from n on for the numbers of the list, in order
abbrev counts_up : (ℕ → Option ℕ) → ℕ → List ℕ → Bool
counts_up f n [] = true
counts_up f n (x ∷ xs) = is_some_of (f x) n && counts_up f (suc n) xs

some_of : (o : Option ℕ) (n : ℕ) → is_some_of o n ≡ true → o ≡ Some n
some_of None n e = absurd cc
some_of (Some m) n e = ap Some (eqb-true m n e)

both : (a b : Bool) → a && b ≡ true → (a ≡ true) × (b ≡ true)
both true b e = (refl, e)
both false b e = absurd cc

counted : (f : ℕ → Option ℕ) (n : ℕ) (xs : List ℕ) (i : ℕ) → counts_up f n xs ≡ true → i < length xs → f (slice_index xs i) ≡ Some (i + n)
counted f n [] i e lt = absurd (omega arith)
counted f n (x ∷ xs) zero e lt = some_of (f x) n (both _ _ e).0 ∙ ap Some (omega arith)
counted f n (x ∷ xs) (suc i) e lt = counted f (suc n) xs i (both _ _ e).1 (omega arith) ∙ ap Some (omega arith)

-- the byte of a mask has that mask
pub ascii_cell-bytes : (mask : ℕ) → mask < 64 → ascii_cell (slice_index ascii_bytes mask) ≡ Some mask
ascii_cell-bytes mask lt = counted ascii_cell 0 ascii_bytes mask refl lt ∙ ap Some (omega arith)

-- the cell of a byte from 0x20 on is that of the table at its place
pub ascii_cell-masks : (byte place : ℕ) → (32 ≤ byte) × (place ≡ byte - 32) → place < 64 → ascii_cell byte ≡ Some (slice_index ascii_masks place)
ascii_cell-masks byte place at lt =
    cond-false _ _ _ (le-ltb byte 32 at.0) ∙ (ap (slice_get ascii_masks) (sym at.1) ∙ slice_get-get_or ascii_masks place 0 lt)

-- and none past the table
pub ascii_cell-past : (byte place : ℕ) → (32 ≤ byte) × (place ≡ byte - 32) → 64 ≤ place → ascii_cell byte ≡ None
ascii_cell-past byte place at past =
    cond-false _ _ _ (le-ltb byte 32 at.0) ∙ (ap (slice_get ascii_masks) (sym at.1) ∙ slice_get_past ascii_masks place past)

-- a byte by its mask
abbrev byte_of : ℕ → Option ℕ
byte_of mask = slice_get ascii_bytes mask

masks_again : (i : ℕ) → i < 64 → byte_of (slice_index ascii_masks i) ≡ Some (i + 32)
masks_again i lt = counted byte_of 32 ascii_masks i refl lt

byte_of-cell : (byte mask : ℕ) → ascii_cell byte ≡ Some mask → byte_of mask ≡ Some byte
byte_of-cell byte mask e =
    elim (cases_lt byte 32) [
      | inl lt ↦ let h = rw (lt-ltb byte 32 lt) at e in absurd cc
      | inr le ↦
          let h : slice_get ascii_masks (byte - 32) ≡ Some mask = sym (cond-false _ _ _ (le-ltb byte 32 le)) ∙ e in
          let lt : byte - 32 < 64 = slice_get_within ascii_masks (byte - 32) mask h in
          ap byte_of (sym (get_or_from_slice_get ascii_masks (byte - 32) mask 0 h)) ∙ (masks_again (byte - 32) lt ∙ ap Some (omega arith))
    ]

-- two bytes of one cell are the same
pub same_byte : (byte other mask : ℕ) → ascii_cell byte ≡ Some mask → ascii_cell other ≡ Some mask → byte ≡ other
same_byte byte other mask e f = let h = byte_of-cell byte mask e in let k = byte_of-cell other mask f in cc

-- each byte of the table has a cell of the dots 1 to 6
pub byte_cell : (byte : ℕ) → 0x20 ≤ byte → byte ≤ 0x5F → (mask : ℕ) × (ascii_cell byte ≡ Some mask) × (¬ HasDot mask 7) × (¬ HasDot mask 8)
byte_cell byte first last =
    let within : byte - 32 < 64 = omega arith in
    let mask : ℕ = slice_index ascii_masks (byte - 32) in
    let small : mask < 64 = slice_get_within ascii_bytes mask _ (masks_again (byte - 32) within) in
    (mask, ascii_cell-masks byte (byte - 32) (first, refl) within, (λ h. omega arith), (λ h. omega arith))
