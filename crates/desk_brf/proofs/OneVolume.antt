-- A volume has one text.
use Rattle.std.proofs.Common.{◌≡◌, ℕ, ◌+◌, ◌*◌, ◌<◌, ◌≤◌, inl, inr, List, [], ◌∷◌, ◌++◌, length, take, refl, sym, ap, subst, ◌∙◌, length-append, arith}
use Rattle.std.specs.Prelude.{All, replicate}
use Rattle.std.specs.List.{flat_map, enumerate_from}
use Rattle.std.proofs.Math.Nat.{mul-le-mul_right}
use Rattle.std.proofs.Math.Seq.{take-append_seam}
use Rattle.std.proofs.lemmas.Bool.{cases_order}
use Rattle.std.proofs.lemmas.List.{append_cancel_left, length-replicate}
use Rattle.std.proofs.lemmas.List.Elements.{All-head, All-tail}
use Rattle.desk_model.specs.Book.{Book, Paragraph}
use Rattle.desk_brf.specs.PageLayout.{Layout, text_lines}
use Rattle.desk_brf.specs.Pages.{ArePages, page_text}
use Rattle.desk_brf.specs.Placing.{ArePlaced, first_indent, other_indent}
use Rattle.desk_brf.specs.Volume.{AreLines, IsVolume, gap_before}
use Rattle.desk_brf.specs.Volumes.{volume_of}
use Rattle.desk_brf.specs.Words.{words}
use Rattle.desk_brf.proofs.PuttingLemmas.{one_braille, lines-one}

abbrev Line : Type 0
Line = List ℕ

-- ---- its lines

lines-same : (book : Book) (layout : Layout) (before : ℕ) (paragraphs : List Paragraph) (lines others : List Line) → AreLines book layout before paragraphs lines
    → AreLines book layout before paragraphs others → lines ≡ others
lines-same book layout before [] lines others h k = h ∙ sym k
lines-same book layout before (paragraph ∷ paragraphs) lines others (cells, own, rest, is, placed, (parts, more)) (cells', own', rest', is', placed', (parts', more')) =
    let style = paragraph.style in
    let first = first_indent style in
    let other = other_indent style in
    let mine : ArePlaced layout.width first other (words cells') own =
    subst (λ (cs : List ℕ). ArePlaced layout.width first other (words cs) own) (one_braille book paragraph cells cells' is is') placed in
    let same : own ≡ own' = lines-one layout.width first other (words cells') own own' mine placed' in
    let after = before + length (gap_before layout before style own' ++ own') in
    let next : AreLines book layout after paragraphs rest =
    subst (λ (ls : List Line). AreLines book layout (before + length (gap_before layout before style ls ++ ls)) paragraphs rest) same more in
    parts
    ∙ (ap (λ (ls : List Line). (gap_before layout before style ls ++ ls) ++ rest) same
    ∙ (ap (λ (ls : List Line). (gap_before layout before style own' ++ own') ++ ls) (lines-same book layout after paragraphs rest rest' next more') ∙ sym parts'))

-- ---- its pages

joined-length : (room : ℕ) (pages : List (List Line)) → All (λ page. length page ≡ room) pages → length (flat_map (λ page. page) pages) ≡ length pages * room
joined-length room [] all = omega arith
joined-length room (page ∷ pages) all =
    let here = All-head (λ (p : List Line). length p ≡ room) page pages all in
    let rest = joined-length room pages (All-tail (λ (p : List Line). length p ≡ room) page pages all) in
    let both = length-append page (flat_map (λ (p : List Line). p) pages) in
    omega (arith, here, rest, both)

pages-same : (room : ℕ) (pages others : List (List Line)) → All (λ page. length page ≡ room) pages → All (λ page. length page ≡ room) others
    → flat_map (λ page. page) pages ≡ flat_map (λ page. page) others → length pages ≡ length others → pages ≡ others
pages-same room [] [] all all' e l = refl
pages-same room [] (other ∷ others) all all' e l = absurd (omega (arith, l))
pages-same room (page ∷ pages) [] all all' e l = absurd (omega (arith, l))
pages-same room (page ∷ pages) (other ∷ others) all all' e l =
    let P : List Line → Type 0 = λ p. length p ≡ room in
    let size : length page ≡ length other = All-head P page pages all ∙ sym (All-head P other others all') in
    let rest = flat_map (λ (p : List Line). p) pages in
    let rest' = flat_map (λ (p : List Line). p) others in
    let same : page ≡ other =
    sym (take-append_seam page rest) ∙ (ap (λ k. take k (page ++ rest)) size ∙ (ap (take (length other)) e ∙ take-append_seam other rest')) in
    let tails : rest ≡ rest' = append_cancel_left other rest rest' (ap (λ (p : List Line). p ++ rest) (sym same) ∙ e) in
    ap (λ (p : List Line). p ∷ pages) same
    ∙ ap (λ (ps : List (List Line)). other ∷ ps) (pages-same room pages others (All-tail P page pages all) (All-tail P other others all') tails (omega (arith, l)))

-- as many pages as are needed, and no more
not_more : (room lines blank others k m : ℕ) → blank < room → lines + blank ≡ m * room → lines + others ≡ k * room → k < m → ⊥
not_more room lines blank others k m few e f lt =
    let le = mul-le-mul_right room (let more : k + 1 ≤ m = omega (arith, lt) in more) in
    let product : (k + 1) * room ≡ k * room + room = omega arith in
    omega (arith, few, e, f, le, product)

same_count : (room lines blank others k m : ℕ) → blank < room → others < room → lines + blank ≡ m * room → lines + others ≡ k * room → k ≡ m
same_count room lines blank others k m few few' e f =
    elim (cases_order k m) [
      | inl same ↦ same
      | inr ne ↦ elim ne [ inl lt ↦ absurd (not_more room lines blank others k m few e f lt) | inr gt ↦ absurd (not_more room lines others blank m k few' f e gt) ]
    ]

module _ (layout : Layout) (lines : List Line) (bytes texts : List ℕ) (n m : ℕ) (p : ArePages layout lines bytes n) (q : ArePages layout lines texts m) where
  filled : (blank : ℕ) (pages : List (List Line)) → flat_map (λ page. page) pages ≡ lines ++ replicate blank [] → All (λ page. length page ≡ text_lines layout) pages
      → length lines + blank ≡ length pages * text_lines layout
  filled blank pages e all =
      omega (arith, length-append lines (replicate blank []), length-replicate {A = Line} blank [], ap length e, joined-length (text_lines layout) pages all)

  counts : length q.pages ≡ length p.pages
  counts =
      same_count (text_lines layout) (length lines) p.blank q.blank (length q.pages) (length p.pages) p.fewest q.fewest
      (filled p.blank p.pages p.holds p.full) (filled q.blank q.pages q.holds q.full)

  blanks : q.blank ≡ p.blank
  blanks =
      let f = filled q.blank q.pages q.holds q.full ∙ ap (λ k. k * text_lines layout) counts in
      omega (arith, filled p.blank p.pages p.holds p.full, f)

  pages-one : (texts ≡ bytes) × (m ≡ n)
  pages-one =
      let held : flat_map (λ page. page) q.pages ≡ flat_map (λ page. page) p.pages =
      q.holds ∙ (ap (λ k. lines ++ replicate k []) blanks ∙ sym p.holds) in
      let same : q.pages ≡ p.pages = pages-same (text_lines layout) q.pages p.pages q.full p.full held counts in (
        q.bytes_are ∙ (ap (λ (ps : List (List Line)). flat_map (λ e. page_text layout.width e.0 e.1) (enumerate_from 1 ps)) same ∙ sym p.bytes_are),
        q.count_is ∙ (counts ∙ sym p.count_is),
      )

pub one_volume : (book : Book) (layout : Layout) (number : ℕ) (bytes others : List ℕ) (pages count : ℕ) → IsVolume book layout number bytes pages → IsVolume book layout number others count
    → (others ≡ bytes) × (count ≡ pages)
one_volume book layout number bytes others pages count v w =
    let same : w.lines ≡ v.lines = lines-same book layout 0 (volume_of book number) w.lines v.lines w.placed v.placed in
    pages-one layout v.lines bytes others pages count v.paged (subst (λ (ls : List Line). ArePages layout ls others count) same w.paged)
