-- A paragraph after its gap.
use Rattle.std.proofs.Common.{◌≡◌, ℕ, suc, ◌+◌, ◌<◌, Bool, true, false, eqb, List, [], ◌∷◌, ◌++◌, length, Option, refl, sym, ap, ◌∙◌, append_assoc, length-append, arith}
use Rattle.std.specs.Prelude.{filter}
use Rattle.std.specs.List.{slice_split, onto_first}
use Rattle.std.proofs.lemmas.Bool.{both_ways}
use Rattle.std.proofs.KnownBytes.{Appends-nil}
use Rattle.desk_model.specs.declared.style.Style.{Style}
use Rattle.desk_model.specs.declared.style.Style.TheVariants.{Body, Heading}
use Rattle.desk_ends.specs.Sending.{Transmits}
use Rattle.desk_ends.proofs.Sending.{Transmits-whole}
use Rattle.desk_brf.specs.PageLayout.{Layout}
use Rattle.desk_brf.specs.Laying.{PutsLines, PutsParagraph, page_end, bytes_of_lines, AreLaid}
use Rattle.desk_brf.specs.Pages.{with_ending}
use Rattle.desk_brf.specs.Placing.{first_indent, other_indent}
use Rattle.desk_brf.specs.Volume.{gap_before, IsSixDot}
use Rattle.desk_brf.specs.Words.{is_blank, has_cells, words, IsAtWord}
use Rattle.desk_brf.proofs.ExistLemmas.{AreWords, placed-some}
use Rattle.desk_brf.proofs.SendLemmas.{Transmits-then, Transmits-stop, Transmits-same}

-- lines and more lines
pub bytes_of_lines-append : (layout : Layout) (n : ℕ) (xs ys : List (List ℕ)) → bytes_of_lines layout n (xs ++ ys) ≡ bytes_of_lines layout n xs ++ bytes_of_lines layout (n + length xs) ys
bytes_of_lines-append layout n [] ys = ap (λ k. bytes_of_lines layout k ys) (let e : n ≡ n + 0 = omega arith in e)
bytes_of_lines-append layout n (x ∷ xs) ys =
    let here = with_ending x ++ page_end layout (n + 1) in
    ap (λ (t : List ℕ). here ++ t) (bytes_of_lines-append layout (n + 1) xs ys ∙ ap (λ k. bytes_of_lines layout (n + 1) xs ++ bytes_of_lines layout k ys) (let e : (n + 1) + length xs ≡ n + suc (length xs) = omega arith in e))
    ∙ sym (append_assoc here (bytes_of_lines layout (n + 1) xs) (bytes_of_lines layout (n + suc (length xs)) ys))

pub gap-none : (layout : Layout) (n : ℕ) (style : Style) → gap_before layout n style [] ≡ []
gap-none layout n Body = refl
gap-none layout n Heading = refl

pub gap-some : (layout : Layout) (n : ℕ) (style : Style) (line : List ℕ) (lines : List (List ℕ)) → gap_before layout n style (line ∷ lines) ≡ gap_before layout n style ([] ∷ [])
gap-some layout n Body line lines = refl
gap-some layout n Heading line lines = refl

onto-words : (cell : ℕ) (parts : List (List ℕ)) → filter has_cells (onto_first cell parts) ≡ [] → ⊥
onto-words cell [] e = absurd cc
onto-words cell (part ∷ parts) e = absurd cc

pub at_word-words : (cells : List ℕ) → IsAtWord cells → 0 < length cells → words cells ≡ [] → ⊥
at_word-words [] at some e = omega (arith, some)
at_word-words (cell ∷ cells) at some e = onto-words cell (slice_split is_blank cells) (rw at at e)

-- no words, no lines
pub paragraph-none : (F : Type 0) (a : Option (List ℕ)) (layout : Layout) (style : Style) (ws : List (List ℕ)) (n : ℕ) → ws ≡ [] → PutsParagraph F a a layout style ws n n true
paragraph-none F a layout style ws n none =
    let e = gap-none layout n style in
    record {
      lines = [];
      placed = none;
      sent = Transmits-same F a a [] (bytes_of_lines layout n (gap_before layout n style [] ++ [])) [] true (ap (λ (g : List (List ℕ)). bytes_of_lines layout n (g ++ [])) (sym e)) (Transmits-whole F a a [] true (Appends-nil a) refl);
      count = λ _. let k = ap (λ (g : List (List ℕ)). length (g ++ [])) e in omega (arith, k);
    }

module _ (F : Type 0) (a b : Option (List ℕ)) (layout : Layout) (style : Style) (ws : List (List ℕ)) (n : ℕ) (some : ws ≡ [] → ⊥) where
  gap-is : (own : List (List ℕ)) → AreLaid layout.width (first_indent style) (other_indent style) ws own → gap_before layout n style own ≡ gap_before layout n style ([] ∷ [])
  gap-is [] none = absurd (some none)
  gap-is (line ∷ lines) placed = gap-some layout n style line lines

  text-is : (own : List (List ℕ)) → AreLaid layout.width (first_indent style) (other_indent style) ws own
      → bytes_of_lines layout n (gap_before layout n style ([] ∷ [])) ++ bytes_of_lines layout (n + length (gap_before layout n style ([] ∷ []))) own
      ≡ bytes_of_lines layout n (gap_before layout n style own ++ own)
  text-is own placed =
      sym (bytes_of_lines-append layout n (gap_before layout n style ([] ∷ [])) own)
      ∙ ap (λ (g : List (List ℕ)). bytes_of_lines layout n (g ++ own)) (sym (gap-is own placed))

  -- the gap fails
  pub paragraph-stops : first_indent style < layout.width → other_indent style < layout.width → AreWords IsSixDot ws → (ok reported : Bool) (after : ℕ) → ok ≡ false → reported ≡ false
      → Transmits F a b (bytes_of_lines layout n (gap_before layout n style ([] ∷ []))) [] ok → PutsParagraph F a b layout style ws n after reported
  paragraph-stops narrow narrow' all ok reported after f f' s =
      let own = placed-some layout.width (first_indent style) (other_indent style) ws narrow narrow' all in
      record {
        lines = own.0;
        placed = own.1;
        sent = Transmits-same F a b _ _ [] reported (text-is own.0 own.1) (Transmits-stop F a b b (bytes_of_lines layout n (gap_before layout n style ([] ∷ []))) (bytes_of_lines layout (n + length (gap_before layout n style ([] ∷ []))) own.0) ok reported s f f');
        count = λ whole. absurd (both_ways reported f' whole);
      }

  -- its lines after the gap
  pub paragraph-goes : (c : Option (List ℕ)) (ok reported : Bool) (mid after : ℕ) → ok ≡ true → mid ≡ n + length (gap_before layout n style ([] ∷ []))
      → Transmits F a b (bytes_of_lines layout n (gap_before layout n style ([] ∷ []))) [] ok
      → PutsLines F b c layout (first_indent style) (other_indent style) ws mid after reported → PutsParagraph F a c layout style ws n after reported
  paragraph-goes c ok reported mid after t mid_is s p =
      record {
        lines = p.lines;
        placed = p.placed;
        sent = Transmits-same F a c _ _ [] reported (text-is p.lines p.placed)
            (Transmits-then F a b c (bytes_of_lines layout n (gap_before layout n style ([] ∷ []))) (bytes_of_lines layout (n + length (gap_before layout n style ([] ∷ []))) p.lines) ok reported s t
            (Transmits-same F b c _ _ [] reported (ap (λ k. bytes_of_lines layout k p.lines) mid_is) p.sent));
        count = λ whole.
            let count = p.count whole in
            let e = ap (λ (g : List (List ℕ)). length (g ++ p.lines)) (gap-is p.lines p.placed) in
            let k = length-append (gap_before layout n style ([] ∷ [])) p.lines in
            omega (arith, count, e, k, mid_is);
      }

-- a list that is not empty
pub some-cells : (cells : List ℕ) → eqb (length cells) 0 ≡ false → 0 < length cells
some-cells [] e = absurd cc
some-cells (c ∷ cells) e = omega arith
