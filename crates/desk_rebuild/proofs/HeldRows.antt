-- Held paragraphs that are those of rows stay so while other things are read of them.
use Rattle.std.proofs.Common.{◌≡◌, ℕ, zero, suc, ◌-◌, pos, nat_abs, List, [], ◌∷◌, map, length, Some, refl, sym, ap, subst, ◌∙◌, IsPermutation, slice_get}
use Rattle.std.specs.List.{All, range_with_len}
use Rattle.std.proofs.lemmas.List.{length-map}
use Rattle.std.proofs.lemmas.List.Elements.{All-weaker}
use Rattle.std.proofs.lemmas.List.Sorted.{IsPermutation-map, IsPermutation-sym, IsPermutation-trans}
use Rattle.desk_memory.specs.declared.marks.HeldMark.{HeldMark}
use Rattle.desk_memory.specs.declared.paragraphs.Paragraph.{Paragraph as HeldParagraph}
use Rattle.desk_memory.specs.Histories.{HaveTaken, entries_held}
use Rattle.desk_rebuild.specs.Rows.{AreInPlaces, AreOf, HasHeld, HasHistory, HaveMarks, IsOf, without_cells}
use Rattle.desk_model.specs.Damage.{history_of}
use Rattle.desk_model.specs.Print.{corrected_print}
use Rattle.desk_parts.specs.Rows.{NamedCorr, Para}
use Rattle.desk_model.specs.Shows.{flag_number, style_number}
use Rattle.desk_model.proofs.Rows.OneBook.{number, numbers_back}
use Rattle.std.proofs.lemmas.Option.{same_Some}

-- what a row of `para` says of a held paragraph, and that with its history
abbrev pub plain : HeldParagraph → HeldParagraph
plain held = record held { history = []; cells = []; marks = [] }

abbrev pub reported : HeldParagraph → HeldParagraph
reported held = record held { cells = []; marks = [] }

-- ---- lists that agree in a part of each element

module _ {X Y : Type 0} (f : X → Y) where
  -- the element at the same place of the other list
  pub same-at : (xs ys : List X) → map f xs ≡ map f ys → (i : ℕ) (x : X) → slice_get xs i ≡ Some x → (y : X) × (slice_get ys i ≡ Some y) × (f x ≡ f y)
  same-at (z ∷ xs) (y ∷ ys) same zero x at =
      let is : z ≡ x = same_Some z x at in
      let first : f z ≡ f y = cc in
      (y, refl, ap f (sym is) ∙ first)
  same-at (z ∷ xs) (y ∷ ys) same (suc i) x at = let rest : map f xs ≡ map f ys = cc in same-at xs ys rest i x at
  same-at xs ys same i x at = absurd (cc)

  -- lists that agree in more agree in less
  pub less-same : {Z : Type 0} (g : X → Z) (h : Y → Z) → ((x : X) → h (f x) ≡ g x) → (xs ys : List X) → map f xs ≡ map f ys → map g xs ≡ map g ys
  less-same g h is xs ys same = each xs ∙ (ap (map h) same ∙ sym (each ys))
    where
      each : (zs : List X) → map g zs ≡ map h (map f zs)
      each [] = refl
      each (z ∷ zs) = λ i. sym (is z) i ∷ each zs i

-- ---- paragraphs of rows

IsOf-same : (row : Para) (x y : HeldParagraph) → plain x ≡ plain y → IsOf row x → IsOf row y
IsOf-same row x y same of = record {
  table = ap (λ (k : HeldParagraph). k.table) (sym same) ∙ of.table;
  original = ap (λ (k : HeldParagraph). k.original) (sym same) ∙ of.original;
  print = ap (λ (k : HeldParagraph). k.print) (sym same) ∙ of.print;
  style = ap (λ (k : HeldParagraph). style_number k.style) (sym same) ∙ of.style;
  volume = ap (λ (k : HeldParagraph). flag_number k.begins_volume) (sym same) ∙ of.volume;
  struck = ap (λ (k : HeldParagraph). flag_number k.struck) (sym same) ∙ of.struck;
}

module _ (xs ys : List HeldParagraph) (same : map plain xs ≡ map plain ys) where
  HasHeld-same : (row : Para) → HasHeld xs row → HasHeld ys row
  HasHeld-same row has =
      let other = same-at plain xs ys same (nat_abs row.id - 1) has.held has.at in
      record { held = other.0; at = other.1; of = IsOf-same row has.held other.0 other.2 has.of; original = has.original; print = has.print }

  count-same : length xs ≡ length ys
  count-same = sym (length-map xs plain) ∙ (ap length same ∙ length-map ys plain)

  pub AreOf-same : (paras : List Para) → AreOf paras xs → AreOf paras ys
  AreOf-same paras of = record {
    texts = of.texts;
    ids = subst (λ n. IsPermutation (map (λ (row : Para). row.id) paras) (map pos (range_with_len 1 n))) count-same of.ids;
    each = All-weaker (HasHeld xs) (HasHeld ys) HasHeld-same paras of.each;
  }

-- ---- histories and marks

module _ (xs ys : List HeldParagraph) (same : map reported xs ≡ map reported ys) where
  HasHistory-same : (entries : List NamedCorr) (row : Para) → HasHistory entries xs row → HasHistory entries ys row
  HasHistory-same entries row has =
      let other = same-at reported xs ys same (nat_abs row.id - 1) has.held has.at in
      let original : has.held.original ≡ other.0.original = ap (λ (k : HeldParagraph). k.original) other.2 in
      let history : has.held.history ≡ other.0.history = ap (λ (k : HeldParagraph). k.history) other.2 in
      let print : has.held.print ≡ other.0.print = ap (λ (k : HeldParagraph). k.print) other.2 in
      record {
        sorted = has.sorted;
        its_own = has.its_own;
        each = has.each;
        held = other.0;
        at = other.1;
        history = ap entries_held (sym history) ∙ has.history;
        taken = subst (λ o. HaveTaken o other.0.history) original (subst (HaveTaken has.held.original) history has.taken);
        print = ap (λ o. corrected_print o (history_of has.sorted)) (sym original) ∙ (has.print ∙ print);
      }

  pub histories-same : (entries : List NamedCorr) (paras : List Para) → All (HasHistory entries xs) paras → All (HasHistory entries ys) paras
  histories-same entries paras = All-weaker (HasHistory entries xs) (HasHistory entries ys) (HasHistory-same entries) paras

pub HaveMarks-same : (marks : List HeldMark) (xs ys : List HeldParagraph) → map without_cells xs ≡ map without_cells ys → HaveMarks marks xs → HaveMarks marks ys
HaveMarks-same marks xs ys same have index held at =
    let other = same-at without_cells ys xs (sym same) index held at in
    ap (λ (k : HeldParagraph). k.marks) other.2 ∙ have index other.0 other.1

-- ---- the order of the ids

-- the ids in the order of their places are all of them
pub order-permutes : (paras : List Para) (items : List HeldParagraph) (order : List ℕ) → AreOf paras items → AreInPlaces paras order
    → IsPermutation (range_with_len 1 (length items)) order
order-permutes paras items order of places =
    let id = λ (row : Para). row.id in
    let range = range_with_len 1 (length items) in
    let placed = IsPermutation-trans _ _ _
    (IsPermutation-sym _ _ of.ids) (IsPermutation-map id _ _ places.same) in
    let both : IsPermutation (map number (map pos range)) (map number (map pos order)) =
    IsPermutation-map number _ _ (subst (IsPermutation (map pos range)) places.ids placed) in
    subst (λ ids. IsPermutation ids order) (numbers_back range) (subst (IsPermutation (map number (map pos range))) (numbers_back order) both)
