-- The lines of a text, one after another.
use Rattle.std.proofs.Common.{◌≡◌, ◌≢◌, ℕ, ◌+◌, false, eqb, List, [], ◌∷◌, ◌++◌, take, drop, refl, ap, ◌∙◌, inl, inr, one-add, add-one, rules, map}
use Rattle.std.specs.List.{onto_first, before_first, after_first, position_or_len}
use Rattle.std.specs.Io.BufRead.{strip_last}
use Rattle.std.proofs.lemmas.Bool.{cases_Bool}
use Rattle.louis_table.specs.Lines.{pieces_of, lines_of}

-- no line feed is among the bytes
abbrev pub IsOneLine : List ℕ → Type 0
IsOneLine [] = Unit {0}
IsOneLine (b ∷ bytes) = (eqb b 10 ≡ false) × IsOneLine bytes

pub pieces_of-line : (front rest : List ℕ) → IsOneLine front → pieces_of (front ++ 10 ∷ rest) ≡ front ∷ pieces_of rest
pieces_of-line [] rest h = refl
pieces_of-line (x ∷ front) rest h = rw h.0 (ap (onto_first x) (pieces_of-line front rest h.1))

pub pieces_of-last : (x : ℕ) (front : List ℕ) → IsOneLine (x ∷ front) → pieces_of (x ∷ front) ≡ (x ∷ front) ∷ []
pieces_of-last x [] h = rw h.0 refl
pieces_of-last x (y ∷ front) h = rw h.0 (ap (onto_first x) (pieces_of-last y front h.1))

first_longer : (b n : ℕ) (bytes : List ℕ) → onto_first b (take n bytes ∷ pieces_of (drop (n + 1) bytes)) ≡ take (1 + n) (b ∷ bytes) ∷ pieces_of (drop ((1 + n) + 1) (b ∷ bytes))
first_longer b n bytes = simp (one-add, add-one) refl

-- the first piece ends before the first line feed, and the others follow it
pub pieces_of-split : (bytes : List ℕ) → bytes ≢ [] → pieces_of bytes ≡ before_first (λ b. eqb b 10) bytes ∷ pieces_of (after_first (λ b. eqb b 10) bytes)
pieces_of-split [] ne = absurd (ne refl)
pieces_of-split (b ∷ []) ne = elim (cases_Bool (eqb b 10)) [ inl e ↦ rw e refl | inr e ↦ rw e refl ]
pieces_of-split (b ∷ c ∷ bytes) ne =
    elim (cases_Bool (eqb b 10)) [
      | inl e ↦ rw e refl
      | inr e ↦ rw e (ap (onto_first b) (pieces_of-split (c ∷ bytes) (λ h. cc)) ∙ first_longer b (position_or_len (λ x. eqb x 10) (c ∷ bytes)) (c ∷ bytes))
    ]

pub lines_of-split : (bytes : List ℕ) → bytes ≢ [] → lines_of bytes ≡ strip_last 13 (before_first (λ b. eqb b 10) bytes) ∷ lines_of (after_first (λ b. eqb b 10) bytes)
lines_of-split bytes ne = ap (map (strip_last 13)) (pieces_of-split bytes ne)

pub lines_of-next : (text piece line rest : List ℕ) → text ≢ [] → piece ≡ before_first (λ b. eqb b 10) text → line ≡ strip_last 13 piece
    → rest ≡ after_first (λ b. eqb b 10) text → lines_of text ≡ line ∷ lines_of rest
lines_of-next text piece line rest ne p l r = search (rules, lines_of-split)
