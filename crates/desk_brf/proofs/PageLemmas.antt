-- Lines as they are written are pages.
use Rattle.std.proofs.Common.{◌≡◌, ℕ, zero, suc, ◌+◌, ◌*◌, ◌/◌, ◌%◌, ◌<◌, ◌-◌, Bool, true, false, eqb, List, [], ◌∷◌, ◌++◌, length, Option, Result, Ok, Err, is_ok, inl, inr, take, drop, refl, sym, ap, subst, ◌∙◌, append_assoc, length-append, length-take, length-drop, take-append-drop, arith}
use Rattle.std.specs.Prelude.{All, IfOk, replicate}
use Rattle.std.specs.List.{flat_map, enumerate_from}
use Rattle.std.proofs.lemmas.Bool.{cases_Bool, ne_eqb}
use Rattle.std.proofs.lemmas.List.{append-nil, length-replicate}
use Rattle.std.proofs.lemmas.List.Concat.{flat_map-append}
use Rattle.std.proofs.lemmas.List.Elements.{All-nil, All-cons}
use Rattle.std.proofs.lemmas.Nat.{mod-mul-add, div-mul-add, div-add-mod'}
use Rattle.desk_model.specs.Book.{Book, Paragraph}
use Rattle.desk_ends.specs.Sending.{Transmits}
use Rattle.desk_brf.specs.Laying.{FillsPage, PutsPages, PutsParagraphs, bytes_of_lines, page_end}
use Rattle.desk_brf.specs.PageLayout.{Layout, text_lines}
use Rattle.desk_brf.specs.Pages.{ArePages, number_line, page_text, with_ending}
use Rattle.desk_brf.specs.Volume.{AreLines}
use Rattle.desk_brf.proofs.ParagraphLemmas.{bytes_of_lines-append}
use Rattle.desk_brf.proofs.SendLemmas.{Transmits-then, Transmits-stop, Transmits-same, Transmits-reported, missing-few, missing-fill, page_end-full}

abbrev Line : Type 0
Line = List ℕ

-- lines cut into so many pages
abbrev cut : ℕ → ℕ → List Line → List (List Line)
cut room zero lines = []
cut room (suc n) lines = take room lines ∷ cut room n (drop room lines)

cut-holds : (room n : ℕ) (lines : List Line) → length lines ≡ n * room → flat_map (λ page. page) (cut room n lines) ≡ lines
cut-holds room zero [] e = refl
cut-holds room zero (line ∷ lines) e = absurd (omega (arith, e))
cut-holds room (suc n) lines e =
    let size = length-drop room lines in
    let product : suc n * room ≡ n * room + room = omega arith in
    ap (λ (ls : List Line). take room lines ++ ls) (cut-holds room n (drop room lines) (omega (arith, e, size, product))) ∙ take-append-drop room lines

cut-full : (room n : ℕ) (lines : List Line) → length lines ≡ n * room → All (λ page. length page ≡ room) (cut room n lines)
cut-full room zero lines e = All-nil (λ (page : List Line). length page ≡ room)
cut-full room (suc n) lines e =
    let size = length-drop room lines in
    let front = length-take room lines in
    let product : suc n * room ≡ n * room + room = omega arith in
    All-cons (λ (page : List Line). length page ≡ room) (take room lines) (cut room n (drop room lines)) (omega (arith, front, e, product))
    (cut-full room n (drop room lines) (omega (arith, e, size, product)))

cut-count : (room n : ℕ) (lines : List Line) → length (cut room n lines) ≡ n
cut-count room zero lines = refl
cut-count room (suc n) lines = ap suc (cut-count room n (drop room lines))

module _ (layout : Layout) (room : ℕ) (is : room ≡ text_lines layout) (some : 0 < room) where
  -- what ends a page
  abbrev foot : ℕ → List ℕ
  foot number = with_ending (number_line layout.width number) ++ 12 ∷ []

  within_page : (j i : ℕ) → i + 1 < room → page_end layout (j * room + i + 1) ≡ []
  within_page j i lt =
      let at : (j * room + (i + 1)) % text_lines layout ≡ i + 1 = ap (λ k. (j * room + (i + 1)) % k) (sym is) ∙ mod-mul-add j room (i + 1) lt in
      let n : j * room + i + 1 ≡ j * room + (i + 1) = omega arith in
      let more : eqb (i + 1) 0 ≡ false = ne_eqb (i + 1) 0 (λ e. omega (arith, e)) in
      ap (page_end layout) n ∙ rw (at, more) refl

  end_of_page : (j i : ℕ) → i + 1 ≡ room → page_end layout (j * room + i + 1) ≡ foot (j + 1)
  end_of_page j i e =
      let n : j * room + i + 1 ≡ (j + 1) * room + 0 = omega (arith, e) in
      let at : ((j + 1) * room + 0) % room ≡ 0 = mod-mul-add (j + 1) room 0 some in
      ap (page_end layout) n
      ∙ (sym (page_end-full layout ((j + 1) * room + 0) room layout.width is refl at)
      ∙ ap (λ k. with_ending (number_line layout.width k) ++ 12 ∷ []) (div-mul-add (j + 1) room 0 some))

  rest_of_page : (j i : ℕ) (line : Line) (lines : List Line) → i + suc (length lines) ≡ room
      → bytes_of_lines layout (j * room + i) (line ∷ lines) ≡ flat_map with_ending (line ∷ lines) ++ foot (j + 1)
  rest_of_page j i line [] e =
      append-nil (with_ending line ++ page_end layout (j * room + i + 1))
      ∙ (ap (λ (t : List ℕ). with_ending line ++ t) (end_of_page j i (omega (arith, e)))
      ∙ ap (λ (t : List ℕ). t ++ foot (j + 1)) (sym (append-nil (with_ending line))))
  rest_of_page j i line (next ∷ lines) e =
      let n : j * room + i + 1 ≡ j * room + (i + 1) = omega arith in
      let text = bytes_of_lines layout (j * room + i + 1) (next ∷ lines) in
      ap (λ (t : List ℕ). (with_ending line ++ t) ++ text) (within_page j i (omega (arith, e)))
      ∙ (ap (λ (t : List ℕ). t ++ text) (append-nil (with_ending line))
      ∙ (ap (λ k. with_ending line ++ bytes_of_lines layout k (next ∷ lines)) n
      ∙ (ap (λ (t : List ℕ). with_ending line ++ t) (rest_of_page j (i + 1) next lines (omega (arith, e)))
      ∙ sym (append_assoc (with_ending line) (flat_map with_ending (next ∷ lines)) (foot (j + 1))))))

  page_is : (number : ℕ) (page : List Line) → flat_map with_ending page ++ foot number ≡ page_text layout.width number page
  page_is number page =
      let last = number_line layout.width number in
      sym (append_assoc (flat_map with_ending page) (with_ending last) (12 ∷ []))
      ∙ ap (λ (t : List ℕ). t ++ 12 ∷ []) (sym (flat_map-append with_ending page (last ∷ []) ∙ ap (λ (t : List ℕ). flat_map with_ending page ++ t) (append-nil (with_ending last))))

  whole_page : (j : ℕ) (page : List Line) → length page ≡ room → bytes_of_lines layout (j * room) page ≡ page_text layout.width (j + 1) page
  whole_page j [] e = absurd (omega (arith, e, some))
  whole_page j (line ∷ lines) e =
      ap (λ k. bytes_of_lines layout k (line ∷ lines)) (let n : j * room ≡ j * room + 0 = omega arith in n)
      ∙ (rest_of_page j 0 line lines (omega (arith, e)) ∙ page_is (j + 1) (line ∷ lines))

  all_pages : (n j : ℕ) (lines : List Line) → length lines ≡ n * room
      → bytes_of_lines layout (j * room) lines ≡ flat_map (λ e. page_text layout.width e.0 e.1) (enumerate_from (j + 1) (cut room n lines))
  all_pages zero j [] e = refl
  all_pages zero j (line ∷ lines) e = absurd (omega (arith, e))
  all_pages (suc n) j lines e =
      let size = length-drop room lines in
      let front = length-take room lines in
      let product : suc n * room ≡ n * room + room = omega arith in
      let page = take room lines in
      let others = drop room lines in
      let text = bytes_of_lines layout (j * room + length page) others in
      let next : j * room + length page ≡ (j + 1) * room = omega (arith, front, e, product) in
      ap (bytes_of_lines layout (j * room)) (sym (take-append-drop room lines))
      ∙ (bytes_of_lines-append layout (j * room) page others
      ∙ (ap (λ (t : List ℕ). t ++ text) (whole_page j page (omega (arith, front, e, product)))
      ∙ ap (λ (t : List ℕ). page_text layout.width (j + 1) page ++ t)
      (ap (λ k. bytes_of_lines layout k others) next ∙ all_pages n (j + 1) others (omega (arith, e, size, product)))))

  -- lines that are filled up with empty ones are written as pages
  pub are_pages : (lines : List Line) (blank : ℕ) → blank < room → (length lines + blank) % room ≡ 0
      → ArePages layout lines (bytes_of_lines layout 0 (lines ++ replicate blank [])) ((length lines + blank) / room)
  are_pages lines blank few fills =
      let all = lines ++ replicate blank [] in
      let count = (length lines + blank) / room in
      let long = length-append lines (replicate blank []) in
      let filled = length-replicate {A = Line} blank [] in
      let parts = div-add-mod' (length lines + blank) room in
      let size : length all ≡ count * room = omega (arith, long, filled, parts, fills) in
      record {
        pages = cut room count all;
        blank = blank;
        holds = cut-holds room count all size;
        full = subst (λ (k : ℕ). All (λ page. length page ≡ k) (cut room count all)) is (cut-full room count all size);
        fewest = subst (λ (k : ℕ). blank < k) is few;
        count_is = sym (cut-count room count all);
        bytes_are = ap (λ k. bytes_of_lines layout k all) (let none : 0 ≡ 0 * room = omega arith in none) ∙ all_pages count 0 all size;
      }

-- ---- the pages of paragraphs as they are sent

pub not_ok : {T E : Type 0} (r : Result T E) (P : T → Type 0) → is_ok r ≡ false → IfOk r P
not_ok (Ok x) P f = absurd cc
not_ok (Err e) P f = tt

module _ (F : Type 0) (book : Book) (layout : Layout) (paragraphs : List Paragraph) (room : ℕ) (is : room ≡ text_lines layout) (some : 0 < room) {E : Type 0} (answer : Result ℕ E) where
  filled : (a b : Option (List ℕ)) (lines : List Line) (blank : ℕ) → AreLines book layout 0 paragraphs lines → blank < room → (length lines + blank) % room ≡ 0
      → Transmits F a b (bytes_of_lines layout 0 lines ++ bytes_of_lines layout (length lines) (replicate blank [])) [] (is_ok answer) → IfOk answer (λ pages. pages ≡ (length lines + blank) / room)
      → PutsPages F a b book layout paragraphs answer
  filled a b lines blank placed few fills sent count =
      let from : 0 + length lines ≡ length lines = omega arith in
      let joined : bytes_of_lines layout 0 (lines ++ replicate blank []) ≡ bytes_of_lines layout 0 lines ++ bytes_of_lines layout (length lines) (replicate blank []) =
      bytes_of_lines-append layout 0 lines (replicate blank []) ∙ ap (λ k. bytes_of_lines layout 0 lines ++ bytes_of_lines layout k (replicate blank [])) from in
      record {
        lines = lines;
        placed = placed;
        bytes = bytes_of_lines layout 0 (lines ++ replicate blank []);
        pages = (length lines + blank) / room;
        paged = are_pages layout room is some lines blank few fills;
        sent = Transmits-same F a b _ _ [] (is_ok answer) (sym joined) sent;
        count = count;
      }

  -- their lines fail
  pub Pages-stop : (a b : Option (List ℕ)) (after : ℕ) (ok : Bool) → PutsParagraphs F a b book layout paragraphs after ok → ok ≡ false → is_ok answer ≡ false
      → PutsPages F a b book layout paragraphs answer
  Pages-stop a b after ok p f f' =
      let blank = (room - length p.lines % room) % room in
      filled a b p.lines blank p.placed (missing-few (length p.lines) room some) (missing-fill (length p.lines) room some)
      (Transmits-stop F a b b (bytes_of_lines layout 0 p.lines) (bytes_of_lines layout (length p.lines) (replicate blank [])) ok (is_ok answer) p.sent f f')
      (not_ok answer (λ pages. pages ≡ (length p.lines + blank) / room) f')

  -- the last page is filled after them, or fails
  pub Pages-goes : (a b c : Option (List ℕ)) (lines after : ℕ) (ok reported : Bool) → PutsParagraphs F a b book layout paragraphs lines ok → ok ≡ true
      → FillsPage F b c layout lines after reported → is_ok answer ≡ reported → IfOk answer (λ pages. pages ≡ after / room) → PutsPages F a c book layout paragraphs answer
  Pages-goes a b c lines after ok reported p t f same number =
      let size : lines ≡ length p.lines = p.count t in
      let full : (length p.lines + f.blank) % room ≡ 0 = ap (λ k. (length p.lines + f.blank) % k) is ∙ (ap (λ k. (k + f.blank) % text_lines layout) (sym size) ∙ f.full) in
      let sent : Transmits F b c (bytes_of_lines layout (length p.lines) (replicate f.blank [])) [] reported =
      Transmits-same F b c _ _ [] reported (ap (λ k. bytes_of_lines layout k (replicate f.blank [])) size) f.sent in
      filled a c p.lines f.blank p.placed (subst (λ k. f.blank < k) (sym is) f.fewest) full
      (Transmits-reported F a c _ [] reported (is_ok answer) (sym same) (Transmits-then F a b c (bytes_of_lines layout 0 p.lines) (bytes_of_lines layout (length p.lines) (replicate f.blank [])) ok reported p.sent t sent))
      (elim (cases_Bool reported) [
        | inl whole ↦
            let all : after ≡ length p.lines + f.blank = f.count whole ∙ ap (λ k. k + f.blank) size in
            subst (λ k. IfOk answer (λ pages. pages ≡ k / room)) all number
        | inr stopped ↦ not_ok answer (λ pages. pages ≡ (length p.lines + f.blank) / room) (same ∙ stopped)
      ])
