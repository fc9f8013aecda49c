-- Words of six dots have a placing.
use Rattle.std.proofs.Common.{◌≡◌, ℕ, zero, suc, ◌+◌, ◌-◌, ◌<◌, ◌≤◌, inl, inr, List, [], ◌∷◌, ◌++◌, length, take, drop, refl, sym, ap, subst, ◌∙◌, length-append, length-take, length-drop, take-append-drop, arith}
use Rattle.std.specs.Prelude.{replicate, All, filter}
use Rattle.std.specs.List.{AllByRecursion, slice_split, onto_first}
use Rattle.std.proofs.lemmas.Bool.{cases_lt, cases_Bool}
use Rattle.std.proofs.lemmas.List.Elements.{All-take, All-drop, All-cons, All-nil}
use Rattle.desk_brf.specs.Placing.{IsAscii, IsText, IsLine, IsPlacing, cells_of_pieces}
use Rattle.desk_brf.specs.Laying.{with_blanks, AreLaid}
use Rattle.desk_brf.specs.Volume.{IsSixDot}
use Rattle.desk_brf.specs.Words.{is_blank, has_cells, words}
use Rattle.desk_brf.proofs.AsciiLemmas.{ascii-append, ascii-blanks, ascii-one, ascii-text, text_of}
use Rattle.desk_brf.proofs.LineLemmas.{cells_of_pieces-led, with_blanks-push}
use Rattle.desk_brf.proofs.PlacingLemmas.{head-same, placing-one}

-- a word, of cells of which P holds
abbrev pub IsWord : (ℕ → Type 0) → List ℕ → Type 0
IsWord P word = (0 < length word) × All P word

abbrev pub AreWords : (ℕ → Type 0) → List (List ℕ) → Type 0
AreWords P ws = AllByRecursion (IsWord P) ws

-- how many cells words have
abbrev pub size : List (List ℕ) → ℕ
size [] = 0
size (w ∷ ws) = length w + size ws

module _ (P : ℕ → Type 0) where
  pub onto : (cell : ℕ) (parts : List (List ℕ)) → P cell → AllByRecursion (All P) parts → AllByRecursion (All P) (onto_first cell parts)
  onto cell [] h all = (All-cons P cell [] h (All-nil P), tt)
  onto cell (part ∷ parts) h all = (All-cons P cell part h all.0, all.1)

  parts_six : (cells : List ℕ) → All P cells → AllByRecursion (All P) (slice_split is_blank cells)
  parts_six [] all = ((All-nil P), tt)
  parts_six (cell ∷ cells) all =
      let rest : AllByRecursion (All P) (slice_split is_blank cells) = parts_six cells (λ k d lt. all (suc k) d (omega arith)) in
      elim (cases_Bool (is_blank cell)) [
        | inl e ↦ rw e ((All-nil P), rest)
        | inr e ↦ rw e (onto cell (slice_split is_blank cells) (all 0 0 (omega arith)) rest)
      ]

  pub words_of_parts : (parts : List (List ℕ)) → AllByRecursion (All P) parts → AreWords P (filter has_cells parts)
  words_of_parts [] all = tt
  words_of_parts ([] ∷ parts) all = words_of_parts parts all.1
  words_of_parts ((c ∷ cs) ∷ parts) all = ((omega arith, all.0), words_of_parts parts all.1)

  pub words-are : (cells : List ℕ) → All P cells → AreWords P (words cells)
  words-are cells all = words_of_parts (slice_split is_blank cells) (parts_six cells all)

  -- ---- one line

  record Filled (room used : ℕ) (ws : List (List ℕ)) : Type 0 where
    pub p : List (List ℕ)
    pub l : List (List ℕ)
    pub parts : ws ≡ p ++ l
    pub fits : used + length (with_blanks p) ≤ room
    pub full : (next : List ℕ) (others : List (List ℕ)) → l ≡ next ∷ others → room < used + length (with_blanks p) + 1 + length next
    pub put : AreWords P p
    pub left : AreWords P l
    pub fewer : size l ≤ size ws

  fill : (room used : ℕ) (ws : List (List ℕ)) → used ≤ room → AreWords P ws → Filled room used ws
  fill room used [] le all = record { p = []; l = []; parts = refl; fits = omega arith; full = λ next others e. absurd cc; put = tt; left = tt; fewer = omega arith }
  fill room used (w ∷ ws) le all =
      elim (cases_lt room (used + 1 + length w)) [
        | inl over ↦ record {
          p = [];
          l = w ∷ ws;
          parts = refl;
          fits = omega arith;
          full = λ next others e. let h = head-same w next ws others e in let k = ap length h.0 in omega (arith, over, k);
          put = tt;
          left = all;
          fewer = omega arith;
        }
        | inr under ↦
            let f = fill room (used + 1 + length w) ws under all.1 in
            let k = length-append w (with_blanks f.p) in
            let fits = f.fits in
            let fewer = f.fewer in
            record {
              p = w ∷ f.p;
              l = f.l;
              parts = ap (λ (xs : List (List ℕ)). w ∷ xs) f.parts;
              fits = omega (arith, k, fits);
              full = λ next others e. let full = f.full next others e in omega (arith, k, full);
              put = (all.0, f.put);
              left = f.left;
              fewer = omega (arith, fewer);
            }
      ]

  record Line (room : ℕ) (ws : List (List ℕ)) : Type 0 where
    pub p : List (List ℕ)
    pub l : List (List ℕ)
    pub is : IsLine room ws p l
    pub put : AreWords P p
    pub left : AreWords P l
    pub fewer : size l < size ws

  line : (room : ℕ) (w : List ℕ) (ws : List (List ℕ)) → 0 < room → AreWords P (w ∷ ws) → Line room (w ∷ ws)
  line room w ws some all =
      elim (cases_lt room (length w)) [
        | inl long ↦
            let front = length-take room w in
            let back = length-drop room w in
            record {
              p = take room w ∷ [];
              l = drop room w ∷ ws;
              is = IsLine.cut (take room w) (drop room w) ws (ap (λ (x : List ℕ). x ∷ ws) (sym (take-append-drop room w))) (omega (arith, front, long)) (omega (arith, back, long)) refl refl;
              put = ((omega (arith, front, long, some), All-take P room w all.0.1), tt);
              left = ((omega (arith, back, long), All-drop P room w all.0.1), all.1);
              fewer = omega (arith, back, long, some);
            }
        | inr short ↦
            let f = fill room (length w) ws short all.1 in
            let j = cells_of_pieces-led w f.p in
            let size_is = ap length j ∙ length-append w (with_blanks f.p) in
            let fits = f.fits in
            let fewer = f.fewer in
            let some_cells = all.0.0 in
            record {
              p = w ∷ f.p;
              l = f.l;
              is = IsLine.whole (ap (λ (xs : List (List ℕ)). w ∷ xs) f.parts) (omega arith) (omega (arith, size_is, fits))
                  (λ next others e.
                  let full = f.full next others e in
                  let a = ap length (cells_of_pieces-led w (f.p ++ next ∷ [])) ∙ length-append w (with_blanks (f.p ++ next ∷ [])) in
                  let b = ap length (with_blanks-push f.p next) ∙ length-append (with_blanks f.p) (0 ∷ next) in
                  omega (arith, full, a, b));
              put = (all.0, f.put);
              left = f.left;
              fewer = omega (arith, fewer, some_cells);
            }
      ]

-- ---- its text

led_text : (ps : List (List ℕ)) → AreWords IsSixDot ps → (bytes : List ℕ) × IsAscii (with_blanks ps) bytes
led_text [] all = ([], refl)
led_text (p ∷ ps) all =
    let r = led_text ps all.1 in (
      32 ∷ (text_of p ++ r.0),
      ascii-append (0 ∷ []) (p ++ with_blanks ps) (32 ∷ []) (text_of p ++ r.0) (ascii-one 0 32 refl)
          (ascii-append p (with_blanks ps) (text_of p) r.0 (ascii-text p all.0.1) r.1),
    )

joined_text : (ps : List (List ℕ)) → AreWords IsSixDot ps → (bytes : List ℕ) × IsAscii (cells_of_pieces ps) bytes
joined_text [] all = ([], refl)
joined_text (p ∷ ps) all =
    let r = led_text ps all.1 in
    (text_of p ++ r.0, subst (λ (cells : List ℕ). IsAscii cells (text_of p ++ r.0)) (sym (cells_of_pieces-led p ps)) (ascii-append p (with_blanks ps) (text_of p) r.0 (ascii-text p all.0.1) r.1))

text : (indent : ℕ) (ps : List (List ℕ)) → AreWords IsSixDot ps → (bytes : List ℕ) × IsText indent ps bytes
text indent ps all =
    let r = joined_text ps all in
    (replicate indent 32 ++ r.0, ascii-append (replicate indent 0) (cells_of_pieces ps) (replicate indent 32) r.0 (ascii-blanks indent) r.1)

-- ---- all lines

placed : (fuel width first other : ℕ) (ws : List (List ℕ)) → first < width → other < width → AreWords IsSixDot ws → size ws ≤ fuel
    → (lines : List (List ℕ)) × AreLaid width first other ws lines
placed fuel width first other [] narrow narrow' all le = ([], refl)
placed zero width first other (w ∷ ws) narrow narrow' all le = let some = all.0.0 in absurd (omega (arith, le, some))
placed (suc fuel) width first other (w ∷ ws) narrow narrow' all le =
    let here = line IsSixDot (width - first) w ws (omega arith) all in
    let t = text first here.p here.put in
    let fewer = here.fewer in
    let rest = placed fuel width other other here.l narrow' narrow' here.left (omega (arith, fewer, le)) in
    (t.0 ∷ rest.0, (here.p, here.l, here.is, t.1, rest.1))

pub placed-some : (width first other : ℕ) (ws : List (List ℕ)) → first < width → other < width → AreWords IsSixDot ws
    → (lines : List (List ℕ)) × AreLaid width first other ws lines
placed-some width first other ws narrow narrow' all = placed (size ws) width first other ws narrow narrow' all (omega arith)

-- ---- a placing

placing : (fuel first other : ℕ) (ws : List (List ℕ)) → 0 < first → 0 < other → AreWords (λ _. Unit {0}) ws → size ws ≤ fuel
    → (lines : List (List (List ℕ))) × IsPlacing first other ws lines
placing fuel first other [] some some' all le = ([], refl)
placing zero first other (w ∷ ws) some some' all le = let cells = all.0.0 in absurd (omega (arith, le, cells))
placing (suc fuel) first other (w ∷ ws) some some' all le =
    let here = line (λ _. Unit {0}) first w ws some all in
    let fewer = here.fewer in
    let rest = placing fuel other other here.l some' some' here.left (omega (arith, fewer, le)) in
    (here.p ∷ rest.0, (here.l, here.is, rest.1))

pub one_placing : (first other : ℕ) (cells : List ℕ) → 0 < first → 0 < other
    → (lines : List (List (List ℕ))) × IsPlacing first other (words cells) lines
    × ((others : List (List (List ℕ))) → IsPlacing first other (words cells) others → others ≡ lines)
one_placing first other cells some some' =
    let p = placing (size (words cells)) first other (words cells) some some' (words-are (λ _. Unit {0}) cells (λ k d lt. tt)) (omega arith) in
    (p.0, p.1, λ others h. placing-one first other (words cells) others p.0 h p.1)
