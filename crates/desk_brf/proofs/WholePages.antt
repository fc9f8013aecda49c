-- The bytes of a volume are its pages, and each page has all its lines.
use Rattle.std.proofs.Common.{◌≡◌, ◌≢◌, ℕ, suc, ◌+◌, ◌≤◌, false, cond, eqb, List, [], ◌∷◌, ◌++◌, length, ap, refl, sym, subst, ◌∙◌, length-append, arith}
use Rattle.std.specs.Prelude.{All}
use Rattle.std.specs.List.{count_by, flat_map, enumerate_from}
use Rattle.std.proofs.lemmas.Bool.{ne_eqb}
use Rattle.std.proofs.lemmas.List.Elements.{All-nil, All-cons, All-append, All-head, All-tail, All-push, All-weaker}
use Rattle.std.proofs.lemmas.List.Sums.{sum_by-append, sum_by-cons}
use Rattle.louis_table.proofs.CellLimits.{all_joined}
use Rattle.desk_model.specs.Book.{Book}
use Rattle.desk_brf.specs.Embossed.{ArePageTexts, IsCellByte, IsPageText}
use Rattle.desk_brf.specs.PageLayout.{Layout, IsLayout, text_lines}
use Rattle.desk_brf.specs.Pages.{number_line, page_text, with_ending}
use Rattle.desk_brf.specs.Volume.{IsVolume}
use Rattle.desk_brf.proofs.EachByte.{AreCellBytes, number-bytes, pages_lines-bytes}
use Rattle.desk_brf.proofs.EachLine.{all-front, all-after}

-- ---- line feeds

abbrev line_feeds : List ℕ → ℕ
line_feeds text = count_by (λ byte. eqb byte 10) text

cells-feeds : (line : List ℕ) → AreCellBytes line → line_feeds line ≡ 0
cells-feeds [] all = refl
cells-feeds (byte ∷ line) all =
    let is = (All-head IsCellByte byte line all).0 in
    let no : eqb byte 10 ≡ false = ne_eqb byte 10 (λ e. omega (arith, e, is)) in
    let here : ◌≡◌ {A = ℕ} (cond {A = ℕ} (eqb byte 10) 1 0) 0 = ap (λ b. cond {A = ℕ} b 1 0) no in
    let rest = cells-feeds line (All-tail IsCellByte byte line all) in
    let none : ◌≡◌ {A = ℕ} (cond {A = ℕ} (eqb byte 10) 1 0 + line_feeds line) 0 = omega (arith, here, rest) in
    sum_by-cons (λ b. cond (eqb b 10) 1 0) byte line ∙ none

with_ending-feeds : (line : List ℕ) → AreCellBytes line → line_feeds (with_ending line) ≡ 1
with_ending-feeds line all =
    sum_by-append (λ byte. cond (eqb byte 10) 1 0) line (13 ∷ 10 ∷ []) ∙ ap (λ n. n + 1) (cells-feeds line all)

lines-feeds : (lines : List (List ℕ)) → All AreCellBytes lines → line_feeds (flat_map with_ending lines) ≡ length lines
lines-feeds [] all = refl
lines-feeds (line ∷ lines) all =
    let here = with_ending-feeds line (All-head AreCellBytes line lines all) in
    let rest = lines-feeds lines (All-tail AreCellBytes line lines all) in
    let both : line_feeds (with_ending line ++ flat_map with_ending lines) ≡ line_feeds (with_ending line) + line_feeds (flat_map with_ending lines) =
    sum_by-append (λ byte. cond (eqb byte 10) 1 0) (with_ending line) (flat_map with_ending lines) in
    let n : ◌≡◌ {A = ℕ} (line_feeds (with_ending line ++ flat_map with_ending lines)) (suc (length lines)) = omega (arith, both, here, rest) in
    n

-- ---- no form feed

abbrev IsNoFormFeed : ℕ → Type 0
IsNoFormFeed byte = byte ≢ 12

with_ending-none : (line : List ℕ) → AreCellBytes line → All IsNoFormFeed (with_ending line)
with_ending-none line all =
    All-append IsNoFormFeed line (13 ∷ 10 ∷ []) (All-weaker IsCellByte IsNoFormFeed (λ byte is e. let low = is.0 in omega (arith, low, e)) line all)
    (All-cons IsNoFormFeed 13 (10 ∷ []) (λ e. omega (arith, e)) (All-cons IsNoFormFeed 10 [] (λ e. omega (arith, e)) (All-nil IsNoFormFeed)))

-- ---- pages

module _ (layout : Layout) (some : 1 ≤ layout.lines) where
  page-whole : (number : ℕ) (page : List (List ℕ)) → All AreCellBytes page → length page ≡ text_lines layout
      → IsPageText layout.lines (flat_map with_ending (page ++ number_line layout.width number ∷ []))
  page-whole number page all full =
      let last = number_line layout.width number in
      let lines = page ++ last ∷ [] in
      let cells = All-push AreCellBytes page last all (number-bytes layout.width number) in
      let size = length-append page (last ∷ []) in
      record {
        line_feeds = lines-feeds lines cells ∙ (let n : length lines ≡ layout.lines = omega (arith, size, full, some) in n);
        no_form_feed = all_joined IsNoFormFeed with_ending lines (All-weaker AreCellBytes (λ line. All IsNoFormFeed (with_ending line)) with_ending-none lines cells);
      }

  pages-whole : (number : ℕ) (pages : List (List (List ℕ))) → All AreCellBytes (flat_map (λ page. page) pages)
      → All (λ page. length page ≡ text_lines layout) pages
      → ArePageTexts layout.lines (length pages) (flat_map (λ e. page_text layout.width e.0 e.1) (enumerate_from number pages))
  pages-whole number [] all full = record { texts = []; bytes_are = refl; count_is = refl; whole = All-nil (IsPageText layout.lines) }
  pages-whole number (page ∷ pages) all full =
      let others = flat_map (λ (p : List (List ℕ)). p) pages in
      let text = flat_map with_ending (page ++ number_line layout.width number ∷ []) in
      let here = page-whole number page (all-front AreCellBytes page others all) (All-head (λ (p : List (List ℕ)). length p ≡ text_lines layout) page pages full) in
      let rest = pages-whole (number + 1) pages (all-after AreCellBytes page others all) (All-tail (λ (p : List (List ℕ)). length p ≡ text_lines layout) page pages full) in
      record {
        texts = text ∷ rest.texts;
        bytes_are = ap (λ (t : List ℕ). (text ++ 12 ∷ []) ++ t) rest.bytes_are;
        count_is = ap suc rest.count_is;
        whole = All-cons (IsPageText layout.lines) text rest.texts here rest.whole;
      }

pub whole_pages : (book : Book) (layout : Layout) (number : ℕ) (bytes : List ℕ) (pages : ℕ) → IsLayout layout.width layout.lines
    → IsVolume book layout number bytes pages → ArePageTexts layout.lines pages bytes
whole_pages book layout number bytes pages limits volume =
    let paged = volume.paged in
    let count = paged.count_is in
    let high = limits.2 in
    let all = pages-whole layout (omega (arith, high)) 1 paged.pages (pages_lines-bytes book layout number bytes pages limits volume) paged.full in
    subst (λ n. ArePageTexts layout.lines n bytes) (sym count) (subst (ArePageTexts layout.lines (length paged.pages)) (sym paged.bytes_are) all)
