-- The lines of a volume have the cells with dots of its paragraphs' braille, and no others.
use Rattle.std.proofs.Common.{◌≡◌, ℕ, zero, suc, ◌+◌, ◌-◌, ◌%◌, Bool, true, false, cond, eqb, List, [], ◌∷◌, ◌++◌, length, Option, refl, sym, ap, ◌∙◌, inl, inr}
use Rattle.std.specs.Prelude.{filter, not, replicate}
use Rattle.std.specs.List.{cons_option, filter_map, flat_map}
use Rattle.std.proofs.lemmas.Bool.{cases_Bool}
use Rattle.std.proofs.lemmas.List.{append-nil}
use Rattle.std.proofs.lemmas.List.Concat.{flat_map-append}
use Rattle.std.proofs.lemmas.List.Elements.{filter-append}
use Rattle.cell_core.specs.Ascii.{ascii_cell}
use Rattle.desk_model.specs.Book.{Book, Paragraph}
use Rattle.desk_model.specs.declared.style.Style.{Style}
use Rattle.desk_model.specs.declared.style.Style.TheVariants.{Body, Heading}
use Rattle.desk_brf.specs.Embossed.{AreBrailles, dots_in}
use Rattle.desk_brf.specs.PageLayout.{Layout, text_lines}
use Rattle.desk_brf.specs.Placing.{AreTexts, IsAscii, IsText, cells_of_pieces, first_indent, other_indent}
use Rattle.desk_brf.specs.Volume.{AreLines, IsVolume, gap_before}
use Rattle.desk_brf.specs.Volumes.{volume_of}
use Rattle.desk_brf.specs.Words.{is_blank}
use Rattle.desk_brf.proofs.AsciiLemmas.{ascii-head}
use Rattle.desk_brf.proofs.WholeWords.{Word, all, kept, nothing_lost}

-- ---- cells with dots

abbrev has_dots : ℕ → Bool
has_dots cell = not (is_blank cell)

kept-cell : (cell : ℕ) (cells : List ℕ) → is_blank cell ≡ false → kept (cell ∷ cells) ≡ cell ∷ kept cells
kept-cell cell cells e = ap (λ b. cond (not b) (cell ∷ kept cells) (kept cells)) e

kept-twice : (cells : List ℕ) → kept (kept cells) ≡ kept cells
kept-twice [] = refl
kept-twice (cell ∷ cells) =
    elim (cases_Bool (is_blank cell)) [
      | inl e ↦ rw e (kept-twice cells)
      | inr e ↦
          ap kept (kept-cell cell cells e)
          ∙ (kept-cell cell (kept cells) e ∙ (ap (λ (cs : List ℕ). cell ∷ cs) (kept-twice cells) ∙ sym (kept-cell cell cells e)))
    ]

kept-blanks : (count : ℕ) (cells : List ℕ) → kept (replicate count 0 ++ cells) ≡ kept cells
kept-blanks zero cells = refl
kept-blanks (suc count) cells = kept-blanks count cells

kept-joined : (pieces : List Word) → kept (cells_of_pieces pieces) ≡ kept (all pieces)
kept-joined [] = refl
kept-joined (piece ∷ []) = ap kept (sym (append-nil piece))
kept-joined (piece ∷ next ∷ pieces) =
    filter-append has_dots piece (0 ∷ cells_of_pieces (next ∷ pieces))
    ∙ (ap (λ (cs : List ℕ). kept piece ++ cs) (kept-joined (next ∷ pieces)) ∙ sym (filter-append has_dots piece (all (next ∷ pieces))))

-- ---- lines

-- the cells that bytes stand for
ascii-cells : (cells bytes : List ℕ) → IsAscii cells bytes → filter_map ascii_cell bytes ≡ cells
ascii-cells [] [] h = refl
ascii-cells [] (byte ∷ bytes) h = absurd cc
ascii-cells (cell ∷ cells) [] h = absurd cc
ascii-cells (cell ∷ cells) (byte ∷ bytes) h =
    let p = ascii-head cell byte cells bytes h in
    ap (λ (o : Option ℕ). cons_option o (filter_map ascii_cell bytes)) p.0 ∙ ap (λ (cs : List ℕ). cell ∷ cs) (ascii-cells cells bytes p.1)

abbrev dots_of : List ℕ → List ℕ
dots_of line = kept (filter_map ascii_cell line)

text-dots : (indent : ℕ) (pieces : List Word) (line : List ℕ) → IsText indent pieces line → dots_of line ≡ kept (all pieces)
text-dots indent pieces line text =
    ap kept (ascii-cells (replicate indent 0 ++ cells_of_pieces pieces) line text) ∙ (kept-blanks indent (cells_of_pieces pieces) ∙ kept-joined pieces)

texts-dots : (first other : ℕ) (placing : List (List Word)) (lines : List (List ℕ)) → AreTexts first other placing lines
    → dots_in lines ≡ kept (all (flat_map (λ line. line) placing))
texts-dots first other [] lines none = ap dots_in none
texts-dots first other (pieces ∷ placing) lines (line, rest, parts, text, texts) =
    let others = flat_map (λ (l : List Word). l) placing in
    ap dots_in parts
    ∙ (ap (λ (cs : List ℕ). cs ++ dots_in rest) (text-dots first pieces line text)
    ∙ (ap (λ (cs : List ℕ). kept (all pieces) ++ cs) (texts-dots other other placing rest texts)
    ∙ (sym (filter-append has_dots (all pieces) (all others)) ∙ ap kept (sym (flat_map-append (λ (w : Word). w) pieces others)))))

gap-dots : (layout : Layout) (before : ℕ) (style : Style) (lines : List (List ℕ)) → dots_in (gap_before layout before style lines) ≡ []
gap-dots layout before Body lines = refl
gap-dots layout before Heading [] = refl
gap-dots layout before Heading (line ∷ lines) = by (eqb (before % text_lines layout) 0)
  where
    by : (b : Bool) → dots_in (cond b [] ([] ∷ [])) ≡ []
    by true = refl
    by false = refl

-- ---- a volume

lines-dots : (book : Book) (layout : Layout) (before : ℕ) (paragraphs : List Paragraph) (lines : List (List ℕ)) → AreLines book layout before paragraphs lines
    → (brailles : List (List ℕ)) × AreBrailles book paragraphs brailles × (dots_in lines ≡ flat_map kept brailles)
lines-dots book layout before [] lines none = ([], refl, ap dots_in none)
lines-dots book layout before (paragraph ∷ paragraphs) lines (cells, own, rest, is, (placing, placed, texts), (parts, more)) =
    let first = first_indent paragraph.style in
    let other = other_indent paragraph.style in
    let gap = gap_before layout before paragraph.style own in
    let after = lines-dots book layout (before + length (gap ++ own)) paragraphs rest more in
    let mine : dots_in own ≡ kept cells =
    texts-dots first other placing own texts ∙ (ap kept (nothing_lost (layout.width - first) (layout.width - other) cells placing placed) ∙ kept-twice cells) in
    let here : dots_in (gap ++ own) ≡ kept cells =
    flat_map-append dots_of gap own ∙ (ap (λ (cs : List ℕ). cs ++ dots_in own) (gap-dots layout before paragraph.style own) ∙ mine) in (
      cells ∷ after.0,
      (cells, after.0, refl, is, after.1),
      ap dots_in parts
          ∙ (flat_map-append dots_of (gap ++ own) rest
          ∙ (ap (λ (cs : List ℕ). cs ++ dots_in rest) here ∙ ap (λ (cs : List ℕ). kept cells ++ cs) after.2)),
    )

pub whole_volume : (book : Book) (layout : Layout) (number : ℕ) (bytes : List ℕ) (pages : ℕ) → (volume : IsVolume book layout number bytes pages)
    → (brailles : List (List ℕ)) × AreBrailles book (volume_of book number) brailles
    × (dots_in volume.lines ≡ flat_map (λ cells. filter (λ cell. not (is_blank cell)) cells) brailles)
whole_volume book layout number bytes pages volume = lines-dots book layout 0 (volume_of book number) volume.lines volume.placed
