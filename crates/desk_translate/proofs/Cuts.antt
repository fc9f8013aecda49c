-- What is answered to bytes that are cut into lines, and the lines that are whole.
use Rattle.std.proofs.Common.{◌≡◌, ◌≢◌, ◌⊎◌, ℕ, List, [], ◌∷◌, ◌++◌, refl, sym, ap, ◌∙◌, append_assoc, inl, inr, flat_map, append-nil}
use Rattle.std.proofs.lemmas.Grind.{flat_map-append}
use Rattle.louis_table.specs.Lines.{lines_of}
use Rattle.louis_table.specs.Meaning.{Meaning}
use Rattle.desk_ends.specs.Lines.{EndsLine, HasNoFeed, IsFed, IsLine, without_ending}
use Rattle.desk_ends.proofs.ManyLines.{lines-then}
use Rattle.desk_ends.proofs.OneLine.{ends-append, fed-ends, one-line}
use Rattle.desk_translate.specs.Run.{IsBeginning, whole_from, whole_lines}
use Rattle.desk_translate.proofs.Answering.{answer_to, output_of}

-- the bytes are whole lines, or none
abbrev pub AreWhole : List ℕ → Type 0
AreWhole bytes = (bytes ≡ []) ⊎ EndsLine bytes

pub AreWhole-more : (lines line : List ℕ) → IsFed line → AreWhole (lines ++ line)
AreWhole-more lines line fed = inr (ends-append lines line (fed-ends line fed))

-- ---- what is answered

-- what comes after whole lines is answered after them
pub output_of-then : (meaning : Meaning) (lines rest : List ℕ) → AreWhole lines → output_of meaning (lines ++ rest) ≡ output_of meaning lines ++ output_of meaning rest
output_of-then meaning lines rest (inl none) =
    ap (λ (t : List ℕ). output_of meaning (t ++ rest)) none
    ∙ sym (ap (λ (t : List ℕ). output_of meaning t ++ output_of meaning rest) none)
output_of-then meaning lines rest (inr (front, is)) =
    let answered : List (List ℕ) → List ℕ = flat_map (λ line. answer_to meaning line ++ 10 ∷ []) in
    ap (λ (t : List ℕ). output_of meaning (t ++ rest)) is
    ∙ (ap answered (lines-then front rest)
    ∙ (flat_map-append (λ line. answer_to meaning line ++ 10 ∷ []) (lines_of (front ++ 10 ∷ [])) (lines_of rest)
    ∙ sym (ap (λ (t : List ℕ). output_of meaning t ++ output_of meaning rest) is)))

pub output_of-line : (meaning : Meaning) (line : List ℕ) → IsLine line → line ≢ [] → output_of meaning line ≡ answer_to meaning (without_ending line) ++ 10 ∷ []
output_of-line meaning line is some =
    ap (flat_map (λ l. answer_to meaning l ++ 10 ∷ [])) (one-line line is some) ∙ append-nil (answer_to meaning (without_ending line) ++ 10 ∷ [])

-- what is answered to whole lines is a beginning
pub output_of-begins : (meaning : Meaning) (lines rest : List ℕ) → AreWhole lines → IsBeginning (output_of meaning lines) (output_of meaning (lines ++ rest))
output_of-begins meaning lines rest whole = (output_of meaning rest, sym (output_of-then meaning lines rest whole))

-- ---- the lines that are whole

whole_lines-open : (bytes : List ℕ) → HasNoFeed bytes → whole_lines bytes ≡ []
whole_lines-open [] none = refl
whole_lines-open (b ∷ bytes) none = ap (whole_from b) (whole_lines-open bytes none.1) ∙ rw none.0 refl

whole_from-feed : (rest : List ℕ) → whole_from 10 rest ≡ 10 ∷ rest
whole_from-feed [] = refl
whole_from-feed (c ∷ rest) = refl

whole_lines-feed : (front rest : List ℕ) → whole_lines (front ++ 10 ∷ rest) ≡ front ++ 10 ∷ whole_lines rest
whole_lines-feed [] rest = whole_from-feed (whole_lines rest)
whole_lines-feed (x ∷ []) rest = ap (whole_from x) (whole_from-feed (whole_lines rest))
whole_lines-feed (x ∷ y ∷ front) rest = ap (whole_from x) (whole_lines-feed (y ∷ front) rest)

pub whole_lines-then : (lines rest : List ℕ) → AreWhole lines → HasNoFeed rest → whole_lines (lines ++ rest) ≡ lines
whole_lines-then lines rest (inl empty) none =
    ap (λ (t : List ℕ). whole_lines (t ++ rest)) empty ∙ (whole_lines-open rest none ∙ sym empty)
whole_lines-then lines rest (inr (front, is)) none =
    ap (λ (t : List ℕ). whole_lines (t ++ rest)) is
    ∙ (ap whole_lines (append_assoc front (10 ∷ []) rest)
    ∙ (whole_lines-feed front rest
    ∙ (ap (λ (t : List ℕ). front ++ 10 ∷ t) (whole_lines-open rest none) ∙ sym is)))
