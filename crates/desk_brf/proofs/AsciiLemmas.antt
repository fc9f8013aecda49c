-- Cells and their bytes.
use Rattle.std.proofs.Common.{◌≡◌, ℕ, zero, suc, ◌-◌, ◌<◌, Bool, true, ◌&&◌, inl, inr, List, [], ◌∷◌, ◌++◌, length, Option, Some, None, refl, sym, ap, ◌∙◌, arith}
use Rattle.std.specs.Prelude.{map, replicate, All, IfSome, is_some, nat_lt, slice_get, slice_index}
use Rattle.std.proofs.lemmas.Bool.{both_ways, cases_lt, cond-false, le-ltb, lt-ltb, and_parts}
use Rattle.std.proofs.lemmas.List.{map-append}
use Rattle.cell_core.specs.Ascii.{ascii_cell, ascii_masks}
use Rattle.cell_core.proofs.AsciiLaws.{ascii_bytes, ascii_cell-bytes, same_byte}
use Rattle.desk_brf.specs.Placing.{IsAscii}
use Rattle.desk_brf.specs.Volume.{IsSixDot}

pub ascii-append : (cells others bytes more : List ℕ) → IsAscii cells bytes → IsAscii others more → IsAscii (cells ++ others) (bytes ++ more)
ascii-append cells others bytes more h k =
    map-append ascii_cell bytes more
    ∙ (ap (λ (xs : List (Option ℕ)). xs ++ map ascii_cell more) h
    ∙ (ap (λ (xs : List (Option ℕ)). map Some cells ++ xs) k ∙ sym (map-append Some cells others)))

pub ascii-one : (cell byte : ℕ) → ascii_cell byte ≡ Some cell → IsAscii (cell ∷ []) (byte ∷ [])
ascii-one cell byte h = ap (λ (o : Option ℕ). o ∷ []) h

pub ascii-blanks : (count : ℕ) → IsAscii (replicate count 0) (replicate count 32)
ascii-blanks zero = refl
ascii-blanks (suc count) = ap (λ (xs : List (Option ℕ)). Some 0 ∷ xs) (ascii-blanks count)

abbrev head_of : Option ℕ → List (Option ℕ) → Option ℕ
head_of d [] = d
head_of d (x ∷ xs) = x

abbrev tail_of : List (Option ℕ) → List (Option ℕ)
tail_of [] = []
tail_of (x ∷ xs) = xs

pub ascii-head : (cell byte : ℕ) (cells bytes : List ℕ) → IsAscii (cell ∷ cells) (byte ∷ bytes) → (ascii_cell byte ≡ Some cell) × IsAscii cells bytes
ascii-head cell byte cells bytes h = (ap (head_of None) h, ap tail_of h)

pub ascii-length : (cells bytes : List ℕ) → IsAscii cells bytes → length bytes ≡ length cells
ascii-length [] [] h = refl
ascii-length [] (byte ∷ bytes) h = absurd cc
ascii-length (cell ∷ cells) [] h = absurd cc
ascii-length (cell ∷ cells) (byte ∷ bytes) h = ap suc (ascii-length cells bytes (ascii-head cell byte cells bytes h).1)

-- cells have one text
pub ascii-same : (cells bytes others : List ℕ) → IsAscii cells bytes → IsAscii cells others → bytes ≡ others
ascii-same [] [] [] h k = refl
ascii-same [] (byte ∷ bytes) others h k = absurd cc
ascii-same [] [] (other ∷ others) h k = absurd cc
ascii-same (cell ∷ cells) [] others h k = absurd cc
ascii-same (cell ∷ cells) (byte ∷ bytes) [] h k = absurd cc
ascii-same (cell ∷ cells) (byte ∷ bytes) (other ∷ others) h k =
    let p = ascii-head cell byte cells bytes h in
    let q = ascii-head cell other cells others k in
    ap (λ b. b ∷ bytes) (same_byte byte other cell p.0 q.0) ∙ ap (λ (bs : List ℕ). other ∷ bs) (ascii-same cells bytes others p.1 q.1)

-- the bytes of cells
pub text_of : List ℕ → List ℕ
text_of cells = map (λ cell. slice_index ascii_bytes cell) cells

-- cells of six dots have a text
pub ascii-text : (cells : List ℕ) → All IsSixDot cells → IsAscii cells (text_of cells)
unfolding text_of
ascii-text [] all = refl
ascii-text (cell ∷ cells) all =
    ap (λ (o : Option ℕ). o ∷ map ascii_cell (text_of cells)) (ascii_cell-bytes cell (all 0 0 (omega arith)))
    ∙ ap (λ (xs : List (Option ℕ)). Some cell ∷ xs) (ascii-text cells (λ k d lt. all (suc k) d (omega arith)))

below : List ℕ → Bool
below [] = true
below (x ∷ xs) = nat_lt x 64 && below xs

below-at : (xs : List ℕ) → below xs ≡ true → (k x : ℕ) → slice_get xs k ≡ Some x → x < 64
unfolding below
below-at [] all k x e = cc
below-at (y ∷ xs) all zero x e =
    let same : y ≡ x = cc in
    elim (cases_lt x 64) [
      | inl lt ↦ lt
      | inr le ↦ absurd (both_ways (nat_lt x 64) (le-ltb x 64 le) (ap (λ n. nat_lt n 64) (sym same) ∙ (and_parts _ _ all).0))
    ]
below-at (y ∷ xs) all (suc k) x e = below-at xs (and_parts _ _ all).1 k x e

masks-below : below ascii_masks ≡ true
unfolding below
masks-below = refl

-- the cell of a byte is one of six dots
six_dots-byte : (byte cell : ℕ) → ascii_cell byte ≡ Some cell → IsSixDot cell
six_dots-byte byte cell e =
    elim (cases_lt byte 32) [
      | inl lt ↦ let h = rw (lt-ltb byte 32 lt) at e in absurd cc
      | inr le ↦ below-at ascii_masks masks-below (byte - 32) cell (sym (cond-false _ _ _ (le-ltb byte 32 le)) ∙ e)
    ]

pub six_dots-some : (cell : ℕ) (byte : Option ℕ) → is_some byte ≡ true → IfSome byte (λ b. ascii_cell b ≡ Some cell) → IsSixDot cell
six_dots-some cell None there h = cc
six_dots-some cell (Some byte) there h = six_dots-byte byte cell h
