-- The lines of a paragraph have its cells, and nothing else.
use Rattle.std.proofs.Common.{◌≡◌, ℕ, List, [], ◌∷◌, ◌++◌, refl, sym, ap, ◌∙◌, append_assoc, inl, inr}
use Rattle.std.specs.Prelude.{filter, not}
use Rattle.std.specs.List.{flat_map, slice_split, onto_first}
use Rattle.std.proofs.lemmas.Bool.{cases_Bool}
use Rattle.std.proofs.lemmas.List.{append-nil}
use Rattle.std.proofs.lemmas.List.Concat.{flat_map-append}
use Rattle.desk_brf.specs.Placing.{IsLine, IsPlacing}
use Rattle.desk_brf.specs.Words.{has_cells, is_blank, words}

abbrev pub Word : Type 0
Word = List ℕ

abbrev pub all : List Word → List ℕ
all ws = flat_map (λ w. w) ws

abbrev pub kept : List ℕ → List ℕ
kept cells = filter (λ cell. not (is_blank cell)) cells

onto_all : (cell : ℕ) (parts : List Word) → all (filter has_cells (onto_first cell parts)) ≡ cell ∷ all (filter has_cells parts)
onto_all cell [] = refl
onto_all cell ([] ∷ parts) = refl
onto_all cell ((c ∷ part) ∷ parts) = refl

words-all : (cells : List ℕ) → all (words cells) ≡ kept cells
words-all [] = refl
words-all (cell ∷ cells) =
    elim (cases_Bool (is_blank cell)) [
      | inl e ↦ rw e (words-all cells)
      | inr e ↦ rw e (onto_all cell (slice_split is_blank cells) ∙ ap (λ (cs : List ℕ). cell ∷ cs) (words-all cells))
    ]

line-all : (room : ℕ) (ws pieces left : List Word) → IsLine room ws pieces left → all ws ≡ all pieces ++ all left
line-all room ws pieces left (IsLine.cut front back others e at some pe le) =
    ap all e
    ∙ (append_assoc front back (all others)
    ∙ (ap (λ (t : List ℕ). t ++ all (back ∷ others)) (sym (append-nil front))
    ∙ (ap (λ (ps : List Word). all ps ++ all (back ∷ others)) (sym pe) ∙ ap (λ (ls : List Word). all pieces ++ all ls) (sym le))))
line-all room ws pieces left (IsLine.whole e some fits full) = ap all e ∙ flat_map-append (λ (w : Word). w) pieces left

placing-all : (first other : ℕ) (ws : List Word) (placing : List (List Word)) → IsPlacing first other ws placing → all (flat_map (λ line. line) placing) ≡ all ws
placing-all first other ws [] none = ap all (sym none)
placing-all first other ws (pieces ∷ lines) (left, is, rest) =
    flat_map-append (λ (w : Word). w) pieces (flat_map (λ (line : List Word). line) lines)
    ∙ (ap (λ (cs : List ℕ). all pieces ++ cs) (placing-all other other left lines rest) ∙ sym (line-all first ws pieces left is))

pub nothing_lost : (first other : ℕ) (cells : List ℕ) (placing : List (List Word)) → IsPlacing first other (words cells) placing
    → flat_map (λ piece. piece) (flat_map (λ line. line) placing) ≡ filter (λ cell. not (is_blank cell)) cells
nothing_lost first other cells placing is = placing-all first other (words cells) placing is ∙ words-all cells
