-- The indexes of a paragraph's marks.
use Rattle.std.proofs.Common.{◌≡◌, ℕ, zero, suc, ◌+◌, ◌-◌, ◌<◌, ◌≤◌, true, false, cond, List, [], ◌∷◌, ◌++◌, length, map, set, drop, slice_get, Option, Some, None, refl, sym, ap, subst, ◌∙◌, arith, inl, inr, nat_eq, option_map, option_to_list, ◌==◌, not}
use Rattle.std.specs.List.{All, enumerate_from, flat_map}
use Rattle.std.specs.Option.{option_map_or}
use Rattle.std.proofs.lemmas.Bool.{cases_Bool, cond-false, cond-true, cond_both, eq-eqb}
use Rattle.std.proofs.lemmas.List.{append-nil, length-drop, length-map, set-get_or}
use Rattle.std.proofs.lemmas.List.Elements.{All-cons, All-head, All-nil, All-tail}
use Rattle.std.proofs.lemmas.Option.{slice_get-map, get_or_from_slice_get}
use Rattle.desk_memory.specs.declared.marks.HeldMark.{HeldMark}
use Rattle.desk_model.specs.Book.{Mark}
use Rattle.desk_memory.specs.Held.{mark_held, marks_held}
use Rattle.desk_memory.specs.HeldMarks.{indexes_from, indexes_on, moved_held, moved_held_of, with_held_moved, with_held_resolved}
use Rattle.desk_memory.specs.ItemsLeft.{AreMarks, mark_at, marks_at}
use Rattle.desk_model.specs.ParagraphMarks.{marks_on}
use Rattle.desk_memory.proofs.Renewing.{reached, reached_all, set-reached, slice_get-reached}
use Rattle.std.proofs.lemmas.List.Filters.{length-filter_both}

-- ---- lists

set-same : {X : Type 0} (xs : List X) (i : ℕ) (x : X) → slice_get xs i ≡ Some x → set xs i x ≡ xs
set-same xs i x at = ap (set xs i) (sym (get_or_from_slice_get xs i x x at)) ∙ set-get_or xs i x

pub drop-cons : {X : Type 0} (xs : List X) (i : ℕ) (x : X) (rest : List X) → drop i xs ≡ x ∷ rest → (slice_get xs i ≡ Some x) × (drop (i + 1) xs ≡ rest)
drop-cons {X} xs i x rest at =
    let p = step xs i at in
    let next : suc i ≡ i + 1 = omega arith in
    (p.0, ap (λ n. drop n xs) (sym next) ∙ p.1)
  where
    step : (xs : List X) (i : ℕ) → drop i xs ≡ x ∷ rest → (slice_get xs i ≡ Some x) × (drop (suc i) xs ≡ rest)
    step [] zero at = absurd (cc)
    step [] (suc i) at = absurd (cc)
    step (y ∷ xs) zero at = let same : y ≡ x = cc in let left : xs ≡ rest = cc in (ap (λ z. Some z) same, left)
    step (y ∷ xs) (suc i) at = step xs i at

-- ---- marks that change and stay on their paragraphs

pub indexes-map : (f : HeldMark → HeldMark) → ((m : HeldMark) → (f m).paragraph ≡ m.paragraph) → (id i : ℕ) (ms : List HeldMark) → indexes_from id i (map f ms) ≡ indexes_from id i ms
indexes-map f keeps id i [] = refl
indexes-map f keeps id i (m ∷ ms) =
    ap (λ (n : ℕ). cond (nat_eq n id) (i ∷ indexes_from id (i + 1) (map f ms)) (indexes_from id (i + 1) (map f ms))) (keeps m)
    ∙ ap (λ (rest : List ℕ). cond (nat_eq m.paragraph id) (i ∷ rest) rest) (indexes-map f keeps id (i + 1) ms)

pub indexes-set : (id n i : ℕ) (ms : List HeldMark) (m new : HeldMark) → slice_get ms i ≡ Some m → new.paragraph ≡ m.paragraph → indexes_from id n (set ms i new) ≡ indexes_from id n ms
indexes-set id n i [] m new at same = refl
indexes-set id n zero (k ∷ ms) m new at same =
    let first : k ≡ m = cc in
    ap (λ (p : ℕ). cond (nat_eq p id) (n ∷ indexes_from id (n + 1) ms) (indexes_from id (n + 1) ms)) (same ∙ sym (ap (λ (x : HeldMark). x.paragraph) first))
indexes-set id n (suc i) (k ∷ ms) m new at same = ap (λ (rest : List ℕ). cond (nat_eq k.paragraph id) (n ∷ rest) rest) (indexes-set id (n + 1) i ms m new at same)

moved-keeps : (id start removed added : ℕ) (m : HeldMark) → (moved_held_of id start removed added m).paragraph ≡ m.paragraph
moved-keeps id start removed added m =
    cond_both (nat_eq m.paragraph id) (moved_held start removed added m) m (λ k. k.paragraph ≡ m.paragraph) (λ e. refl) (λ e. refl)

pub indexes-moved : (id start removed added other : ℕ) (ms : List HeldMark) → indexes_on other (with_held_moved id start removed added ms) ≡ indexes_on other ms
indexes-moved id start removed added other ms = indexes-map (moved_held_of id start removed added) (moved-keeps id start removed added) other 0 ms

pub indexes-resolved : (id other : ℕ) (ms : List HeldMark) → indexes_on other (with_held_resolved id ms) ≡ indexes_on other ms
indexes-resolved zero other ms = refl
indexes-resolved (suc i) other ms = by (slice_get ms i) refl
  where
    by : (o : Option HeldMark) → slice_get ms i ≡ o → indexes_on other (option_map_or (λ mark. set ms i (record mark { resolved = true })) o ms) ≡ indexes_on other ms
    by None e = refl
    by (Some m) e = indexes-set other 0 i ms m (record m { resolved = true }) e refl

-- ---- a mark more

indexes-push_from : (id i : ℕ) (ms : List HeldMark) (m : HeldMark)
    → indexes_from id i (ms ++ m ∷ []) ≡ indexes_from id i ms ++ cond (nat_eq m.paragraph id) ((i + length ms) ∷ []) []
indexes-push_from id i [] m =
    let at : i ≡ i + 0 = omega arith in ap (λ (n : ℕ). cond (nat_eq m.paragraph id) (n ∷ []) []) at
indexes-push_from id i (k ∷ ms) m =
    let at : i + 1 + length ms ≡ i + suc (length ms) = omega arith in
    let rest = indexes-push_from id (i + 1) ms m ∙ ap (λ (n : ℕ). indexes_from id (i + 1) ms ++ cond (nat_eq m.paragraph id) (n ∷ []) []) at in
    elim (cases_Bool (nat_eq k.paragraph id)) [
      | inl e ↦ rw e (ap (λ (t : List ℕ). i ∷ t) rest)
      | inr e ↦ rw e rest
    ]

pub indexes-push_on : (ms : List HeldMark) (m : HeldMark) → indexes_on m.paragraph (ms ++ m ∷ []) ≡ indexes_on m.paragraph ms ++ length ms ∷ []
indexes-push_on ms m =
    let at : 0 + length ms ≡ length ms = omega arith in
    indexes-push_from m.paragraph 0 ms m
    ∙ (ap (λ (t : List ℕ). indexes_on m.paragraph ms ++ t) (cond-true (nat_eq m.paragraph m.paragraph) ((0 + length ms) ∷ []) [] (eq-eqb m.paragraph m.paragraph refl))
    ∙ ap (λ (n : ℕ). indexes_on m.paragraph ms ++ n ∷ []) at)

pub indexes-push_other : (id : ℕ) (ms : List HeldMark) (m : HeldMark) → nat_eq m.paragraph id ≡ false → indexes_on id (ms ++ m ∷ []) ≡ indexes_on id ms
indexes-push_other id ms m e =
    indexes-push_from id 0 ms m ∙ (ap (λ (t : List ℕ). indexes_on id ms ++ t) (cond-false (nat_eq m.paragraph id) ((0 + length ms) ∷ []) [] e) ∙ append-nil (indexes_on id ms))

-- ---- no marks

pub indexes-none : (id i : ℕ) (ms : List HeldMark) → All (λ m. nat_eq m.paragraph id ≡ false) ms → indexes_from id i ms ≡ []
indexes-none id i [] none = refl
indexes-none id i (m ∷ ms) none =
    cond-false (nat_eq m.paragraph id) (i ∷ indexes_from id (i + 1) ms) (indexes_from id (i + 1) ms) (All-head (λ k. nat_eq k.paragraph id ≡ false) m ms none)
    ∙ indexes-none id (i + 1) ms (All-tail (λ k. nat_eq k.paragraph id ≡ false) m ms none)

-- ---- each has an index, and there is a mark with each

pub count-indexes : (id i n : ℕ) (ms : List HeldMark) → length (indexes_from id i ms) ≡ length (marks_on id (map mark_held (enumerate_from n ms)))
count-indexes id i n [] = refl
count-indexes id i n (m ∷ ms) =
    let rest = count-indexes id (i + 1) (n + 1) ms in
    elim (cases_Bool (nat_eq m.paragraph id)) [
      | inl e ↦ rw e (ap suc rest)
      | inr e ↦ rw e rest
    ]

-- a paragraph has no more marks than the book
pub few-on : (id : ℕ) (ms : List Mark) → length (marks_on id ms) ≤ length ms
few-on id ms = omega (arith, length-filter_both (λ (m : Mark). m.paragraph == id) (λ m. not (m.paragraph == id)) (λ m. refl) ms)

within-indexes : (id i : ℕ) (ms : List HeldMark) → All (λ index. index < i + length ms) (indexes_from id i ms)
within-indexes id i [] = All-nil (λ index. index < i + 0)
within-indexes id i (m ∷ ms) =
    let at : i + 1 + length ms ≡ i + suc (length ms) = omega arith in
    let rest : All (λ index. index < i + suc (length ms)) (indexes_from id (i + 1) ms) = subst (λ (n : ℕ). All (λ index. index < n) (indexes_from id (i + 1) ms)) at (within-indexes id (i + 1) ms) in
    cond_both (nat_eq m.paragraph id) (i ∷ indexes_from id (i + 1) ms) (indexes_from id (i + 1) ms) (All (λ index. index < i + suc (length ms)))
    (λ e. All-cons (λ index. index < i + suc (length ms)) i (indexes_from id (i + 1) ms) (omega arith) rest) (λ e. rest)

pub AreMarks-on : (id : ℕ) (ms : List HeldMark) → AreMarks ms (indexes_on id ms)
AreMarks-on id ms = let at : 0 + length ms ≡ length ms = omega arith in subst (λ (n : ℕ). All (λ index. index < n) (indexes_on id ms)) at (within-indexes id 0 ms)

-- the marks with these indexes are those of the paragraph
module _ (id : ℕ) (all : List HeldMark) where
  marks-at_from : (i n : ℕ) (ms : List HeldMark) → i + 1 ≡ n → drop i all ≡ ms → flat_map (mark_at all) (indexes_from id i ms) ≡ marks_on id (map mark_held (enumerate_from n ms))
  marks-at_from i n [] one at = refl
  marks-at_from i n (m ∷ ms) one at =
      let here = drop-cons all i m ms at in
      let next : i + 1 + 1 ≡ n + 1 = omega arith in
      let rest = marks-at_from (i + 1) (n + 1) ms next here.1 in
      let first : mark_at all i ≡ mark_held (n, m) ∷ [] =
      ap (λ (o : Option HeldMark). option_to_list (option_map (λ k. mark_held (i + 1, k)) o)) here.0 ∙ ap (λ (k : ℕ). mark_held (k, m) ∷ []) one in
      elim (cases_Bool (nat_eq m.paragraph id)) [
        | inl e ↦ rw e (ap (λ (t : List Mark). t ++ flat_map (mark_at all) (indexes_from id (i + 1) ms)) first ∙ ap (λ (t : List Mark). mark_held (n, m) ∷ t) rest)
        | inr e ↦ rw e rest
      ]

  pub marks-at_all : marks_at 0 (indexes_on id all) all ≡ marks_on id (marks_held all)
  marks-at_all = marks-at_from 0 1 all refl refl

-- the first of the marks with the indexes from a place on, and those with the others
pub marks-at_next : (place x : ℕ) (indexes : List ℕ) (marks : List HeldMark) (m : HeldMark) → drop place indexes ≡ x ∷ drop (place + 1) indexes → slice_get marks x ≡ Some m
    → marks_at place indexes marks ≡ mark_held (x + 1, m) ∷ marks_at (place + 1) indexes marks
marks-at_next place x indexes marks m left at =
    let first : mark_at marks x ≡ mark_held (x + 1, m) ∷ [] = ap (λ (o : Option HeldMark). option_to_list (option_map (λ k. mark_held (x + 1, k)) o)) at in
    ap (flat_map (mark_at marks)) left ∙ ap (λ (t : List Mark). t ++ flat_map (mark_at marks) (drop (place + 1) indexes)) first

-- ---- marks that move, one after the other

module _ (id start removed added : ℕ) (old : List HeldMark) where
  abbrev f : HeldMark → HeldMark
  f = moved_held_of id start removed added

  abbrev pub so_far : ℕ → List HeldMark
  so_far n = reached n (map f old) old

  -- the indexes that are left are those of the marks from a place on, and those before it have moved
  abbrev pub HaveMoved : List ℕ → List HeldMark → Type 0
  HaveMoved left marks = (n : ℕ) × (left ≡ indexes_from id n (drop n old)) × (marks ≡ so_far n)

  pass : (n : ℕ) (m : HeldMark) → slice_get old n ≡ Some m → f m ≡ m → so_far n ≡ so_far (n + 1)
  pass n m at same =
      let long = length-map old f in
      sym (set-same (so_far n) n m (slice_get-reached n (map f old) old long ∙ at))
      ∙ set-reached n (map f old) old m (slice_get-map f old n ∙ (ap (option_map f) at ∙ ap (λ (k : HeldMark). Some k) same)) long

  unmoved : (m : HeldMark) → nat_eq m.paragraph id ≡ false → f m ≡ m
  unmoved m e = cond-false (nat_eq m.paragraph id) (moved_held start removed added m) m e

  next_from : (ms : List HeldMark) (n x : ℕ) (rest : List ℕ) → drop n old ≡ ms → x ∷ rest ≡ indexes_from id n ms
      → (m : HeldMark) × (slice_get old x ≡ Some m) × (nat_eq m.paragraph id ≡ true) × (rest ≡ indexes_from id (x + 1) (drop (x + 1) old)) × (so_far n ≡ so_far x)
  next_from [] n x rest at e = absurd (cc)
  next_from (m ∷ ms) n x rest at e =
      let here = drop-cons old n m ms at in
      elim (cases_Bool (nat_eq m.paragraph id)) [
        | inl is ↦
            let both : x ∷ rest ≡ n ∷ indexes_from id (n + 1) ms = e ∙ cond-true (nat_eq m.paragraph id) (n ∷ indexes_from id (n + 1) ms) (indexes_from id (n + 1) ms) is in
            let same : n ≡ x = cc in
            let others : rest ≡ indexes_from id (n + 1) ms = cc in (
              m,
              ap (slice_get old) (sym same) ∙ here.0,
              is,
              others ∙ (ap (indexes_from id (n + 1)) (sym here.1) ∙ ap (λ (k : ℕ). indexes_from id (k + 1) (drop (k + 1) old)) same),
              ap so_far same,
            )
        | inr away ↦
            let both : x ∷ rest ≡ indexes_from id (n + 1) ms = e ∙ cond-false (nat_eq m.paragraph id) (n ∷ indexes_from id (n + 1) ms) (indexes_from id (n + 1) ms) away in
            let later = next_from ms (n + 1) x rest here.1 both in
            (later.0, later.1, later.2, later.3, pass n m here.0 (unmoved m away) ∙ later.4)
      ]

  end_from : (ms : List HeldMark) (n : ℕ) → drop n old ≡ ms → [] ≡ indexes_from id n ms → so_far n ≡ map f old
  end_from [] n at e =
      let short : length old - n ≡ 0 = sym (length-drop n old) ∙ ap length at in
      reached_all n (map f old) old (length-map old f) (omega arith)
  end_from (m ∷ ms) n at e =
      let here = drop-cons old n m ms at in
      elim (cases_Bool (nat_eq m.paragraph id)) [
        | inl is ↦
            let both : [] ≡ n ∷ indexes_from id (n + 1) ms = e ∙ cond-true (nat_eq m.paragraph id) (n ∷ indexes_from id (n + 1) ms) (indexes_from id (n + 1) ms) is in
            absurd (cc)
        | inr away ↦
            let both : [] ≡ indexes_from id (n + 1) ms = e ∙ cond-false (nat_eq m.paragraph id) (n ∷ indexes_from id (n + 1) ms) (indexes_from id (n + 1) ms) away in
            pass n m here.0 (unmoved m away) ∙ end_from ms (n + 1) here.1 both
      ]

  module _ (left : List ℕ) (marks : List HeldMark) (have : HaveMoved left marks) where
    -- the next one that moves is as it was
    pub item-moved : (x : ℕ) (rest : List ℕ) → left ≡ x ∷ rest → (m : HeldMark) × (slice_get old x ≡ Some m) × (slice_get marks x ≡ Some m)
    item-moved x rest is =
        let found = next_from (drop have.0 old) have.0 x rest refl (sym is ∙ have.1) in
        (found.0, found.1, ap (λ (t : List HeldMark). slice_get t x) (have.2 ∙ found.4) ∙ (slice_get-reached x (map f old) old (length-map old f) ∙ found.1))

    -- with the moved one in its place, one more has moved
    pub HaveMoved-next : (x : ℕ) (rest : List ℕ) (m : HeldMark) → left ≡ x ∷ rest → slice_get marks x ≡ Some m → HaveMoved rest (set marks x (moved_held start removed added m))
    HaveMoved-next x rest m is at =
        let found = next_from (drop have.0 old) have.0 x rest refl (sym is ∙ have.1) in
        let mine = item-moved x rest is in
        let both : Some found.0 ≡ Some m = sym found.1 ∙ (mine.1 ∙ (sym mine.2 ∙ at)) in
        let one : found.0 ≡ m = cc in
        let moved : f found.0 ≡ moved_held start removed added m =
        cond-true (nat_eq found.0.paragraph id) (moved_held start removed added found.0) found.0 found.2 ∙ ap (moved_held start removed added) one in (
          x + 1,
          found.3,
          ap (λ (t : List HeldMark). set t x (moved_held start removed added m)) (have.2 ∙ found.4)
              ∙ set-reached x (map f old) old (moved_held start removed added m) (slice_get-map f old x ∙ (ap (option_map f) found.1 ∙ ap (λ (k : HeldMark). Some k) moved)) (length-map old f),
        )

    pub HaveMoved-end : left ≡ [] → marks ≡ with_held_moved id start removed added old
    HaveMoved-end is = have.2 ∙ end_from (drop have.0 old) have.0 refl (sym is ∙ have.1)
