-- There is one way to place words, and only one.
use Rattle.std.proofs.Common.{◌≡◌, ℕ, ◌-◌, ◌<◌, ◌≤◌, List, [], ◌∷◌, ◌++◌, length, refl, sym, ap, subst, ◌∙◌, length-append, arith}
use Rattle.std.specs.Prelude.{replicate}
use Rattle.desk_brf.specs.Placing.{IsText, IsLine, IsPlacing, ArePlaced, cells_of_pieces}
use Rattle.desk_brf.specs.Laying.{with_blanks, AreLaid}
use Rattle.desk_brf.proofs.AsciiLemmas.{ascii-same}
use Rattle.desk_brf.proofs.LineLemmas.{cells_of_pieces-led}

pub head-same : (x y : List ℕ) (xs ys : List (List ℕ)) → x ∷ xs ≡ y ∷ ys → (x ≡ y) × (xs ≡ ys)
head-same x y xs ys e = (let h : x ≡ y = cc in h, let t : xs ≡ ys = cc in t)

-- the first piece is no longer than all
cells_of_pieces-first : (first : List ℕ) (pieces : List (List ℕ)) → length first ≤ length (cells_of_pieces (first ∷ pieces))
cells_of_pieces-first first pieces = omega (arith, ap length (cells_of_pieces-led first pieces), length-append first (with_blanks pieces))

-- parts of one list of which the first are as long
same_parts : (x y a b : List ℕ) → x ++ a ≡ y ++ b → length x ≡ length y → (x ≡ y) × (a ≡ b)
same_parts [] [] a b e l = (refl, e)
same_parts [] (n ∷ y) a b e l = absurd (omega (arith, l))
same_parts (m ∷ x) [] a b e l = absurd (omega (arith, l))
same_parts (m ∷ x) (n ∷ y) a b e l =
    let h : m ≡ n = cc in let t : x ++ a ≡ y ++ b = cc in
    let r = same_parts x y a b t (omega (arith, l)) in
    (ap (λ k. k ∷ x) h ∙ ap (λ (xs : List ℕ). n ∷ xs) r.0, r.1)

-- two fronts of one list: one is the front of the other
data Fronts (p q l m : List (List ℕ)) : Type 0 where
  same : p ≡ q → l ≡ m → Fronts p q l m
  longer : (next : List ℕ) (more : List (List ℕ)) → q ≡ p ++ next ∷ more → l ≡ next ∷ (more ++ m) → Fronts p q l m
  shorter : (next : List ℕ) (more : List (List ℕ)) → p ≡ q ++ next ∷ more → m ≡ next ∷ (more ++ l) → Fronts p q l m

fronts : (p q l m : List (List ℕ)) → p ++ l ≡ q ++ m → Fronts p q l m
fronts [] [] l m e = Fronts.same refl e
fronts [] (next ∷ more) l m e = Fronts.longer next more refl e
fronts (next ∷ more) [] l m e = Fronts.shorter next more refl (sym e)
fronts (x ∷ p) (y ∷ q) l m e =
    let h = head-same x y (p ++ l) (q ++ m) e in
    by (fronts p q l m h.1) h.0
  where
    by : Fronts p q l m → x ≡ y → Fronts (x ∷ p) (y ∷ q) l m
    by (Fronts.same f g) h = Fronts.same (ap (λ (z : List ℕ). z ∷ p) h ∙ ap (λ (zs : List (List ℕ)). y ∷ zs) f) g
    by (Fronts.longer next more f g) h = Fronts.longer next more (ap (λ (z : List ℕ). z ∷ q) (sym h) ∙ ap (λ (zs : List (List ℕ)). x ∷ zs) f) g
    by (Fronts.shorter next more f g) h = Fronts.shorter next more (ap (λ (z : List ℕ). z ∷ p) h ∙ ap (λ (zs : List (List ℕ)). y ∷ zs) f) g

with_blanks-more : (p : List (List ℕ)) (next : List ℕ) (more : List (List ℕ)) → length (with_blanks (p ++ next ∷ [])) ≤ length (with_blanks (p ++ next ∷ more))
with_blanks-more [] next more = omega (arith, length-append next [], length-append next (with_blanks more))
with_blanks-more (x ∷ p) next more =
    omega (arith, length-append x (with_blanks (p ++ next ∷ [])), length-append x (with_blanks (p ++ next ∷ more)), with_blanks-more p next more)

cells_of_pieces-more : (p : List (List ℕ)) (next : List ℕ) (more : List (List ℕ)) → 0 < length p → length (cells_of_pieces (p ++ next ∷ [])) ≤ length (cells_of_pieces (p ++ next ∷ more))
cells_of_pieces-more [] next more some = absurd (omega (arith, some))
cells_of_pieces-more (x ∷ p) next more some =
    let e = ap length (cells_of_pieces-led x (p ++ next ∷ [])) in
    let f = ap length (cells_of_pieces-led x (p ++ next ∷ more)) in
    omega (arith, e, f, length-append x (with_blanks (p ++ next ∷ [])), length-append x (with_blanks (p ++ next ∷ more)), with_blanks-more p next more)

module _ (room : ℕ) (words p l q m : List (List ℕ)) where
  not_both : (front back : List ℕ) (others : List (List ℕ)) → words ≡ (front ++ back) ∷ others → length front ≡ room → 0 < length back
      → words ≡ p ++ l → 0 < length p → length (cells_of_pieces p) ≤ room → ⊥
  not_both front back others e at some = by p
    where
      by : (p : List (List ℕ)) → words ≡ p ++ l → 0 < length p → length (cells_of_pieces p) ≤ room → ⊥
      by [] f none fits = absurd (omega (arith, none))
      by (first ∷ pieces) f _ fits =
          let h = head-same (front ++ back) first others (pieces ++ l) (sym e ∙ f) in
          omega (arith, length-append front back, ap length h.0, cells_of_pieces-first first pieces, at, some, fits)

-- a line takes the same pieces always
pub line-one : (room : ℕ) (words p l q m : List (List ℕ)) → IsLine room words p l → IsLine room words q m → (p ≡ q) × (l ≡ m)
line-one room words p l q m (IsLine.cut front back others e at some pe le) (IsLine.cut front' back' others' e' at' some' pe' le') =
    let h = head-same (front ++ back) (front' ++ back') others others' (sym e ∙ e') in
    let r = same_parts front front' back back' h.0 (at ∙ sym at') in
    (pe ∙ (ap (λ (x : List ℕ). x ∷ []) r.0 ∙ sym pe'), le ∙ (ap (λ (x : List ℕ). x ∷ others) r.1 ∙ (ap (λ (xs : List (List ℕ)). back' ∷ xs) h.1 ∙ sym le')))
line-one room words p l q m (IsLine.cut front back others e at some pe le) (IsLine.whole f filled fits full) = absurd (not_both room words q m p l front back others e at some f filled fits)
line-one room words p l q m (IsLine.whole f filled fits full) (IsLine.cut front back others e at some pe le) = absurd (not_both room words p l q m front back others e at some f filled fits)
line-one room words p l q m (IsLine.whole f filled fits full) (IsLine.whole f' filled' fits' full') = by (fronts p q l m (sym f ∙ f'))
  where
    by : Fronts p q l m → (p ≡ q) × (l ≡ m)
    by (Fronts.same g h) = (g, h)
    by (Fronts.longer next more g h) =
        let over = full next (more ++ m) h in let k = cells_of_pieces-more p next more filled in
        let e = ap (λ (ps : List (List ℕ)). length (cells_of_pieces ps)) g in absurd (omega (arith, over, k, e, fits'))
    by (Fronts.shorter next more g h) =
        let over = full' next (more ++ l) h in let k = cells_of_pieces-more q next more filled' in
        let e = ap (λ (ps : List (List ℕ)). length (cells_of_pieces ps)) g in absurd (omega (arith, over, k, e, fits))

pub text-one : (indent : ℕ) (p q : List (List ℕ)) (x y : List ℕ) → p ≡ q → IsText indent p x → IsText indent q y → x ≡ y
text-one indent p q x y e h k = ascii-same (replicate indent 0 ++ cells_of_pieces q) x y (subst (λ (ps : List (List ℕ)). IsText indent ps x) e h) k

-- no line takes from no words
pub line-none : (room : ℕ) (p l : List (List ℕ)) → IsLine room [] p l → ⊥
line-none room p l (IsLine.cut front back others e at some pe le) = absurd cc
line-none room [] l (IsLine.whole f filled fits full) = absurd (omega (arith, filled))
line-none room (x ∷ p) l (IsLine.whole f filled fits full) = absurd cc

-- a line at the front of placed words
pub placed-first : (width first other : ℕ) (words pieces left lines : List (List ℕ)) (line : List ℕ) → IsLine (width - first) words pieces left → IsText first pieces line
    → AreLaid width first other words lines → (rest : List (List ℕ)) × (lines ≡ line ∷ rest) × AreLaid width other other left rest
placed-first width first other words pieces left [] line is text none = absurd (line-none (width - first) pieces left (subst (λ (ws : List (List ℕ)). IsLine (width - first) ws pieces left) none is))
placed-first width first other words pieces left (l ∷ lines) line is text (p, m, is', text', placed) =
    let same = line-one (width - first) words pieces left p m is is' in (
      lines,
      ap (λ (x : List ℕ). x ∷ lines) (text-one first p pieces l line (sym same.0) text' text),
      subst (λ (ws : List (List ℕ)). AreLaid width other other ws lines) (sym same.1) placed,
    )

-- there is one placing
pub placing-one : (first other : ℕ) (words : List (List ℕ)) (lines others : List (List (List ℕ))) → IsPlacing first other words lines → IsPlacing first other words others → lines ≡ others
placing-one first other words [] [] h k = refl
placing-one first other words [] (y ∷ others) none (l, is, rest) = absurd (line-none first y l (subst (λ (ws : List (List ℕ)). IsLine first ws y l) none is))
placing-one first other words (x ∷ lines) [] (l, is, rest) none = absurd (line-none first x l (subst (λ (ws : List (List ℕ)). IsLine first ws x l) none is))
placing-one first other words (x ∷ lines) (y ∷ others) (l, is, rest) (m, is', rest') =
    let same = line-one first words x l y m is is' in
    ap (λ (z : List (List ℕ)). z ∷ lines) same.0
    ∙ ap (λ (zs : List (List (List ℕ))). y ∷ zs) (placing-one other other m lines others (subst (λ (ws : List (List ℕ)). IsPlacing other other ws lines) same.1 rest) rest')

-- lines that are laid are those of a placing
pub laid-placed : (width first other : ℕ) (words lines : List (List ℕ)) → AreLaid width first other words lines → ArePlaced width first other words lines
laid-placed width first other words [] none = ([], none, refl)
laid-placed width first other words (line ∷ lines) (pieces, left, is, text, laid) =
    let rest = laid-placed width other other left lines laid in
    (pieces ∷ rest.0, (left, is, rest.1), (line, lines, refl, text, rest.2))
