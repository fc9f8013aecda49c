-- Each byte of a volume stands for a cell, or ends a line or a page.
use Rattle.std.proofs.Common.{ℕ, zero, suc, ◌+◌, ◌-◌, ◌/◌, ◌%◌, ◌<◌, ◌≤◌, Bool, true, false, cond, eqb, List, [], ◌∷◌, ◌++◌, length, map, refl, sym, subst, inl, inr, arith}
use Rattle.std.specs.Prelude.{All, replicate}
use Rattle.std.specs.Fmt.{digit_glyph, digits, digits_onto, decimal}
use Rattle.std.specs.List.{flat_map, enumerate_from}
use Rattle.std.proofs.lemmas.Bool.{cond-true, lt-ltb}
use Rattle.std.proofs.lemmas.List.Elements.{All-nil, All-cons, All-append, All-map, All-push, All-replicate, All-weaker}
use Rattle.louis_table.proofs.CellLimits.{all_joined}
use Rattle.desk_model.specs.Book.{Book}
use Rattle.desk_brf.specs.Embossed.{IsCellByte, IsEmbossedByte, IsTextLine}
use Rattle.desk_brf.specs.PageLayout.{Layout, IsLayout}
use Rattle.desk_brf.specs.Pages.{digit_letter, number_line, number_text, page_text, with_ending}
use Rattle.desk_brf.specs.Volume.{IsVolume}
use Rattle.desk_brf.proofs.EachLine.{all-front, all-after, each_line}

-- ---- the line of a number

abbrev IsDigit : ℕ → Type 0
IsDigit byte = (48 ≤ byte) × (byte ≤ 57)

glyph-digit : (digit : ℕ) → digit < 10 → IsDigit (digit_glyph false digit)
glyph-digit digit few = subst IsDigit (sym (cond-true _ _ _ (lt-ltb digit 10 few))) (omega (arith, few), omega (arith, few))

either-digits : (b : Bool) (bytes others : List ℕ) → All IsDigit bytes → All IsDigit others → All IsDigit (cond b bytes others)
either-digits true bytes others all more = all
either-digits false bytes others all more = more

digits-onto : (most n : ℕ) (after : List ℕ) → All IsDigit after → All IsDigit (digits_onto most 10 false n after)
digits-onto zero n after all = all
digits-onto (suc most) n after all =
    let digit = digit_glyph false (n % 10) in
    let more : All IsDigit (digit ∷ after) = All-cons IsDigit digit after (glyph-digit (n % 10) (omega arith)) all in
    either-digits (eqb (n / 10) 0) (digit ∷ after) (digits_onto most 10 false (n / 10) (digit ∷ after)) more (digits-onto most (n / 10) (digit ∷ after) more)

decimal-digits : (n : ℕ) → All IsDigit (decimal n)
unfolding digits
decimal-digits n = digits-onto 64 n [] (All-nil IsDigit)

letter-byte : (digit : ℕ) → IsDigit digit → IsCellByte (digit_letter digit)
letter-byte digit is = by (eqb digit 48)
  where
    by : (b : Bool) → IsCellByte (cond b 74 (digit + 16))
    by true = (omega arith, omega arith)
    by false = let low = is.0 in let high = is.1 in (omega (arith, low), omega (arith, high))

pub number-bytes : (width number : ℕ) → All IsCellByte (number_line width number)
number-bytes width number =
    All-append IsCellByte (replicate (width - length (number_text number)) 32) (number_text number)
    (All-replicate IsCellByte (width - length (number_text number)) 32 (omega arith, omega arith))
    (All-cons IsCellByte 35 (map digit_letter (decimal number)) (omega arith, omega arith)
    (All-map IsCellByte digit_letter (decimal number) (All-weaker IsDigit (λ d. IsCellByte (digit_letter d)) letter-byte (decimal number) (decimal-digits number))))

-- ---- lines and pages

abbrev pub AreCellBytes : List ℕ → Type 0
AreCellBytes line = All IsCellByte line

with_ending-bytes : (line : List ℕ) → AreCellBytes line → All IsEmbossedByte (with_ending line)
with_ending-bytes line all =
    All-append IsEmbossedByte line (13 ∷ 10 ∷ []) (All-weaker IsCellByte IsEmbossedByte (λ b h. inl h) line all)
    (All-cons IsEmbossedByte 13 (10 ∷ []) (inr (inl refl)) (All-cons IsEmbossedByte 10 [] (inr (inr (inl refl))) (All-nil IsEmbossedByte)))

page-bytes : (width number : ℕ) (page : List (List ℕ)) → All AreCellBytes page → All IsEmbossedByte (page_text width number page)
page-bytes width number page all =
    let lines = page ++ number_line width number ∷ [] in
    All-append IsEmbossedByte (flat_map with_ending lines) (12 ∷ [])
    (all_joined IsEmbossedByte with_ending lines
    (All-weaker AreCellBytes (λ line. All IsEmbossedByte (with_ending line)) with_ending-bytes lines (All-push AreCellBytes page (number_line width number) all (number-bytes width number))))
    (All-cons IsEmbossedByte 12 [] (inr (inr (inr refl))) (All-nil IsEmbossedByte))

pages-bytes : (width number : ℕ) (pages : List (List (List ℕ))) → All AreCellBytes (flat_map (λ page. page) pages)
    → All IsEmbossedByte (flat_map (λ e. page_text width e.0 e.1) (enumerate_from number pages))
pages-bytes width number [] all = All-nil IsEmbossedByte
pages-bytes width number (page ∷ pages) all =
    let others = flat_map (λ (p : List (List ℕ)). p) pages in
    All-append IsEmbossedByte (page_text width number page) (flat_map (λ (e : ℕ × List (List ℕ)). page_text width e.0 e.1) (enumerate_from (number + 1) pages))
    (page-bytes width number page (all-front AreCellBytes page others all))
    (pages-bytes width (number + 1) pages (all-after AreCellBytes page others all))

-- the lines that the pages of a volume hold
pub pages_lines-bytes : (book : Book) (layout : Layout) (number : ℕ) (bytes : List ℕ) (pages : ℕ) → IsLayout layout.width layout.lines
    → (volume : IsVolume book layout number bytes pages) → All AreCellBytes (flat_map (λ page. page) volume.paged.pages)
pages_lines-bytes book layout number bytes pages limits volume =
    let paged = volume.paged in
    let lines : All AreCellBytes volume.lines =
    All-weaker (IsTextLine layout.width) AreCellBytes (λ line is. is.cells) volume.lines (each_line book layout number bytes pages limits volume) in
    let all : All AreCellBytes (volume.lines ++ replicate paged.blank []) =
    All-append AreCellBytes volume.lines (replicate paged.blank []) lines (All-replicate AreCellBytes paged.blank [] (All-nil IsCellByte)) in
    subst (All AreCellBytes) (sym paged.holds) all

pub each_byte : (book : Book) (layout : Layout) (number : ℕ) (bytes : List ℕ) (pages : ℕ) → IsLayout layout.width layout.lines
    → IsVolume book layout number bytes pages → All IsEmbossedByte bytes
each_byte book layout number bytes pages limits volume =
    let paged = volume.paged in
    subst (All IsEmbossedByte) (sym paged.bytes_are)
    (pages-bytes layout.width 1 paged.pages (pages_lines-bytes book layout number bytes pages limits volume))
