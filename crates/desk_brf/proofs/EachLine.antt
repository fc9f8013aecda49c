-- Each line of a volume is narrow, ends in no blank, and is in Braille ASCII.
use Rattle.std.proofs.Common.{◌≡◌, ℕ, ◌+◌, ◌-◌, ◌%◌, ◌<◌, ◌≤◌, Bool, true, false, cond, eqb, List, [], ◌∷◌, ◌++◌, length, take, drop, Some, sym, ap, subst, ◌∙◌, append_assoc, length-append, inl, inr, arith}
use Rattle.std.specs.Prelude.{All, replicate}
use Rattle.std.specs.List.{AllByRecursion, slice_split}
use Rattle.std.proofs.Math.Seq.{take-append_seam, drop-append_seam}
use Rattle.std.proofs.lemmas.Bool.{cases_Bool, cases_lt, cond-false, le-ltb, lt-ltb}
use Rattle.std.proofs.lemmas.List.{append-nil, length-replicate}
use Rattle.std.proofs.lemmas.List.Elements.{All-nil, All-cons, All-append, All-same, All-take, All-drop, All-contains, Contains-push}
use Rattle.std.proofs.lemmas.Option.{slice_get_within}
use Rattle.cell_core.specs.Ascii.{ascii_cell, ascii_masks}
use Rattle.desk_model.specs.Book.{Book, Paragraph}
use Rattle.desk_model.specs.declared.style.Style.{Style}
use Rattle.desk_model.specs.declared.style.Style.TheVariants.{Body, Heading}
use Rattle.desk_brf.specs.Embossed.{IsCellByte, IsTextLine}
use Rattle.desk_brf.specs.Laying.{with_blanks}
use Rattle.desk_brf.specs.PageLayout.{Layout, IsLayout, text_lines}
use Rattle.desk_brf.specs.Placing.{AreTexts, IsAscii, IsLine, IsPlacing, IsText, cells_of_pieces, first_indent, other_indent}
use Rattle.desk_brf.specs.Volume.{AreLines, IsVolume, gap_before}
use Rattle.desk_brf.specs.Volumes.{volume_of}
use Rattle.desk_brf.specs.Words.{is_blank, words}
use Rattle.desk_brf.proofs.AsciiLemmas.{ascii-head, ascii-length}
use Rattle.desk_brf.proofs.ExistLemmas.{AreWords, onto, words_of_parts}
use Rattle.desk_brf.proofs.LineLemmas.{cells_of_pieces-led}
use Rattle.desk_brf.proofs.PutLemmas.{first_indent-small, other_indent-small}

-- what is true of all of two lists is true of each

pub all-front : {X : Type 0} (P : X → Type 0) (xs ys : List X) → All P (xs ++ ys) → All P xs
all-front P xs ys all = All-same P xs (take (length xs) (xs ++ ys)) (sym (take-append_seam xs ys)) (All-take P (length xs) (xs ++ ys) all)

pub all-after : {X : Type 0} (P : X → Type 0) (xs ys : List X) → All P (xs ++ ys) → All P ys
all-after P xs ys all = All-same P ys (drop (length xs) (xs ++ ys)) (sym (drop-append_seam xs ys)) (All-drop P (length xs) (xs ++ ys) all)

-- ---- cells that are not blank

abbrev HasDots : ℕ → Type 0
HasDots cell = is_blank cell ≡ false

parts-dots : (cells : List ℕ) → AllByRecursion (All HasDots) (slice_split is_blank cells)
parts-dots [] = (All-nil HasDots, tt)
parts-dots (cell ∷ cells) =
    elim (cases_Bool (is_blank cell)) [
      | inl e ↦ rw e (All-nil HasDots, parts-dots cells)
      | inr e ↦ rw e (onto HasDots cell (slice_split is_blank cells) e (parts-dots cells))
    ]

words-dots : (cells : List ℕ) → AreWords HasDots (words cells)
words-dots cells = words_of_parts HasDots (slice_split is_blank cells) (parts-dots cells)

split-words : (xs ys : List (List ℕ)) → AreWords HasDots (xs ++ ys) → AreWords HasDots xs × AreWords HasDots ys
split-words [] ys all = (tt, all)
split-words (x ∷ xs) ys all = let r = split-words xs ys all.1 in ((all.0, r.0), r.1)

line-words : (room : ℕ) (ws pieces left : List (List ℕ)) → 0 < room → IsLine room ws pieces left → AreWords HasDots ws → AreWords HasDots pieces × AreWords HasDots left
line-words room ws pieces left some (IsLine.cut front back others e at more pe le) all =
    let h : AreWords HasDots ((front ++ back) ∷ others) = subst (AreWords HasDots) e all in
    let before = all-front HasDots front back h.0.1 in
    let after = all-after HasDots front back h.0.1 in
    (subst (AreWords HasDots) (sym pe) ((omega (arith, at, some), before), tt), subst (AreWords HasDots) (sym le) ((more, after), h.1))
line-words room ws pieces left some (IsLine.whole e filled fits full) all = split-words pieces left (subst (AreWords HasDots) e all)

line-some : (room : ℕ) (ws pieces left : List (List ℕ)) → IsLine room ws pieces left → 0 < length pieces
line-some room ws pieces left (IsLine.cut front back others e at more pe le) = let size = ap length pe in omega (arith, size)
line-some room ws pieces left (IsLine.whole e filled fits full) = filled

line-fits : (room : ℕ) (ws pieces left : List (List ℕ)) → IsLine room ws pieces left → length (cells_of_pieces pieces) ≤ room
line-fits room ws pieces left (IsLine.cut front back others e at more pe le) =
    let size = ap (λ (ps : List (List ℕ)). length (cells_of_pieces ps)) pe in
    omega (arith, size, at)
line-fits room ws pieces left (IsLine.whole e filled fits full) = fits

-- ---- the end of a line

abbrev EndsInBlank : List ℕ → Type 0
EndsInBlank cells = (front : List ℕ) × (cells ≡ front ++ 0 ∷ [])

ends-after : (xs ys front : List ℕ) → 0 < length ys → xs ++ ys ≡ front ++ 0 ∷ [] → EndsInBlank ys
ends-after [] ys front some e = (front, e)
ends-after (x ∷ xs) ys [] some e =
    let size = ap length e in
    let both = length-append xs ys in
    absurd (omega (arith, size, both, some))
ends-after (x ∷ xs) ys (f ∷ front) some e = ends-after xs ys front some (let rest : xs ++ ys ≡ front ++ 0 ∷ [] = cc in rest)

word-ends : (word : List ℕ) → All HasDots word → EndsInBlank word → ⊥
word-ends word all (front, e) =
    let last : HasDots 0 = All-contains HasDots (front ++ 0 ∷ []) 0 (subst (All HasDots) e all) (Contains-push front 0) in
    absurd cc

with_blanks-ends : (cells : List ℕ) (ps : List (List ℕ)) → AreWords HasDots ps → (EndsInBlank cells → ⊥) → EndsInBlank (cells ++ with_blanks ps) → ⊥
with_blanks-ends cells [] all never (front, e) = never (front, sym (append-nil cells) ∙ e)
with_blanks-ends cells (p ∷ ps) all never (front, e) =
    with_blanks-ends (cells ++ 0 ∷ p) ps all.1
    (λ ends. word-ends p all.0.1 (ends-after (cells ++ 0 ∷ []) p ends.0 all.0.0 (append_assoc cells (0 ∷ []) p ∙ ends.1)))
    (front, append_assoc cells (0 ∷ p) (with_blanks ps) ∙ e)

cells_of_pieces-ends : (ps : List (List ℕ)) → 0 < length ps → AreWords HasDots ps → EndsInBlank (cells_of_pieces ps) → ⊥
cells_of_pieces-ends [] some all ends = omega (arith, some)
cells_of_pieces-ends (p ∷ ps) some all (front, e) = with_blanks-ends p ps all.1 (word-ends p all.0.1) (front, sym (cells_of_pieces-led p ps) ∙ e)

cells_of_pieces-some : (ps : List (List ℕ)) → 0 < length ps → AreWords HasDots ps → 0 < length (cells_of_pieces ps)
cells_of_pieces-some [] some all = absurd (omega (arith, some))
cells_of_pieces-some (p ∷ ps) some all = omega (arith, ap length (cells_of_pieces-led p ps), length-append p (with_blanks ps), all.0.0)

-- ---- bytes

cell_byte : (byte cell : ℕ) → ascii_cell byte ≡ Some cell → IsCellByte byte
cell_byte byte cell e =
    elim (cases_lt byte 32) [
      | inl lt ↦ let h = rw (lt-ltb byte 32 lt) at e in absurd cc
      | inr le ↦
          let within = slice_get_within ascii_masks (byte - 32) cell (sym (cond-false _ _ _ (le-ltb byte 32 le)) ∙ e) in
          (le, omega (arith, le, within))
    ]

cell_bytes : (cells bytes : List ℕ) → IsAscii cells bytes → All IsCellByte bytes
cell_bytes cells [] h = All-nil IsCellByte
cell_bytes [] (byte ∷ bytes) h = absurd cc
cell_bytes (cell ∷ cells) (byte ∷ bytes) h =
    let p = ascii-head cell byte cells bytes h in
    All-cons IsCellByte byte bytes (cell_byte byte cell p.0) (cell_bytes cells bytes p.1)

blank-end : (cells front : List ℕ) → IsAscii cells (front ++ 32 ∷ []) → EndsInBlank cells
blank-end [] [] h = absurd cc
blank-end [] (byte ∷ front) h = absurd cc
blank-end (cell ∷ []) [] h =
    let p = (ascii-head cell 32 [] [] h).0 in
    let none : 0 ≡ cell = cc in
    ([], ap (λ c. c ∷ []) (sym none))
blank-end (cell ∷ next ∷ cells) [] h = let size = ascii-length (cell ∷ next ∷ cells) (32 ∷ []) h in absurd (omega (arith, size))
blank-end (cell ∷ cells) (byte ∷ front) h =
    let rest = blank-end cells front (ascii-head cell byte cells (front ++ 32 ∷ []) h).1 in
    (cell ∷ rest.0, ap (λ (cs : List ℕ). cell ∷ cs) rest.1)

-- ---- each line

text-line : (width indent : ℕ) (ws pieces left : List (List ℕ)) (line : List ℕ) → indent < width → AreWords HasDots ws → IsLine (width - indent) ws pieces left
    → IsText indent pieces line → IsTextLine width line
text-line width indent ws pieces left line narrow all is text =
    let cells = replicate indent 0 ++ cells_of_pieces pieces in
    let size = ascii-length cells line text in
    let both = length-append (replicate indent 0) (cells_of_pieces pieces) in
    let blanks = length-replicate {A = ℕ} indent 0 in
    let fits = line-fits (width - indent) ws pieces left is in
    let some = line-some (width - indent) ws pieces left is in
    let mine = (line-words (width - indent) ws pieces left (omega (arith, narrow)) is all).0 in
    record {
      narrow = omega (arith, size, both, blanks, fits, narrow);
      no_blank_at_end = λ front e.
          let ends = blank-end cells front (subst (IsAscii cells) e text) in
          cells_of_pieces-ends pieces some mine (ends-after (replicate indent 0) (cells_of_pieces pieces) ends.0 (cells_of_pieces-some pieces some mine) ends.1);
      cells = cell_bytes cells line text;
    }

placed-lines : (width first other : ℕ) (ws : List (List ℕ)) (placing : List (List (List ℕ))) (lines : List (List ℕ)) → first < width → other < width → AreWords HasDots ws
    → IsPlacing (width - first) (width - other) ws placing → AreTexts first other placing lines → All (IsTextLine width) lines
placed-lines width first other ws [] lines narrow narrow' all none texts = All-same (IsTextLine width) lines [] texts (All-nil (IsTextLine width))
placed-lines width first other ws (pieces ∷ placing) lines narrow narrow' all (left, is, more) (line, rest, parts, text, texts) =
    let others = (line-words (width - first) ws pieces left (omega (arith, narrow)) is all).1 in
    All-same (IsTextLine width) lines (line ∷ rest) parts
    (All-cons (IsTextLine width) line rest (text-line width first ws pieces left line narrow all is text)
    (placed-lines width other other left placing rest narrow' narrow' others more texts))

empty-line : (width : ℕ) → IsTextLine width []
empty-line width = record { narrow = omega arith; no_blank_at_end = λ front e. let size = ap length e ∙ length-append front (32 ∷ []) in omega (arith, size); cells = All-nil IsCellByte }

gap-lines : (layout : Layout) (before : ℕ) (style : Style) (lines : List (List ℕ)) → All (IsTextLine layout.width) (gap_before layout before style lines)
gap-lines layout before Body lines = All-nil (IsTextLine layout.width)
gap-lines layout before Heading [] = All-nil (IsTextLine layout.width)
gap-lines layout before Heading (line ∷ lines) = by (eqb (before % text_lines layout) 0)
  where
    by : (b : Bool) → All (IsTextLine layout.width) (cond b [] ([] ∷ []))
    by true = All-nil (IsTextLine layout.width)
    by false = All-cons (IsTextLine layout.width) [] [] (empty-line layout.width) (All-nil (IsTextLine layout.width))

all-lines : (book : Book) (layout : Layout) (wide : 4 < layout.width) (before : ℕ) (paragraphs : List Paragraph) (lines : List (List ℕ)) → AreLines book layout before paragraphs lines
    → All (IsTextLine layout.width) lines
all-lines book layout wide before [] lines none = All-same (IsTextLine layout.width) lines [] none (All-nil (IsTextLine layout.width))
all-lines book layout wide before (paragraph ∷ paragraphs) lines (cells, own, rest, is, (placing, placed, texts), (parts, more)) =
    let style = paragraph.style in
    let first = first_indent style in
    let other = other_indent style in
    let small = first_indent-small style in
    let other_small = other_indent-small style in
    let mine = placed-lines layout.width first other (words cells) placing own (omega (arith, small, wide)) (omega (arith, other_small, wide)) (words-dots cells) placed texts in
    let gap = gap_before layout before style own in
    All-same (IsTextLine layout.width) lines ((gap ++ own) ++ rest) parts
    (All-append (IsTextLine layout.width) (gap ++ own) rest (All-append (IsTextLine layout.width) gap own (gap-lines layout before style own) mine)
    (all-lines book layout wide (before + length (gap ++ own)) paragraphs rest more))

pub each_line : (book : Book) (layout : Layout) (number : ℕ) (bytes : List ℕ) (pages : ℕ) → IsLayout layout.width layout.lines → (volume : IsVolume book layout number bytes pages)
    → All (IsTextLine layout.width) volume.lines
each_line book layout number bytes pages limits volume =
    let wide = limits.0 in
    all-lines book layout (omega (arith, wide)) 0 (volume_of book number) volume.lines volume.placed
