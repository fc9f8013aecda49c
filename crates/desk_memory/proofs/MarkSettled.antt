-- What held marks stand for after they move, after one comes and after one is resolved.
use Rattle.std.proofs.Common.{◌≡◌, ℕ, zero, suc, ◌+◌, ◌-◌, ◌<◌, ◌≤◌, Bool, true, false, cond, List, [], ◌∷◌, ◌++◌, length, map, set, Option, Some, None, refl, sym, ap, subst, ◌∙◌, arith, inl, inr, nat_eq, option_map, slice_get, ◌==◌, ◌≢◌}
use Rattle.std.specs.List.{All, enumerate_from, find}
use Rattle.std.specs.Option.{option_map_or}
use Rattle.std.proofs.Math.Seq.{take-length}
use Rattle.std.proofs.lemmas.Bool.{cases_Bool, eq-eqb, eqb-false, eqb-true, ne_eqb}
use Rattle.std.proofs.lemmas.List.{length-map, map-append}
use Rattle.std.proofs.lemmas.List.FromFn.{length-enumerate_from}
use Rattle.std.proofs.lemmas.List.Elements.{All-cons, All-head, All-nil, All-tail}
use Rattle.desk_memory.specs.declared.marks.HeldMark.{HeldMark}
use Rattle.desk_model.specs.Book.{Book, Mark}
use Rattle.desk_memory.specs.Held.{mark_held, marks_held}
use Rattle.desk_memory.specs.HeldMarks.{held_mark, AreWithin, IsWithin, moved_held, moved_held_of, with_held_moved, with_held_resolved}
use Rattle.desk_model.specs.Limits.{most_print}
use Rattle.desk_model.specs.Marks.{mark_moved_by}
use Rattle.desk_model.specs.Print.{corrected_print}
use Rattle.desk_model.specs.Sound.{IsSound, IsSoundMark}
use Rattle.desk_model.specs.NextBook.{with_marks_moved, with_resolved}
use Rattle.desk_model.proofs.Books.HistoryLists.{enumerate_from-append}
use Rattle.desk_model.proofs.Lists.Items.{All-from_map}
use Rattle.desk_model.proofs.Books.SoundBooks.{IsSoundParagraph-found, paragraph_of-within}
use Rattle.desk_model.proofs.Books.SoundEntries.{moved_on}

-- ---- marks that move

mark-moved : (id start removed added n : ℕ) (m : HeldMark) → mark_held (n, moved_held_of id start removed added m) ≡ moved_on id (mark_moved_by start removed added) (mark_held (n, m))
mark-moved id start removed added n m = by (m.paragraph == id)
  where
    by : (b : Bool) → mark_held (n, cond b (moved_held start removed added m) m) ≡ cond b (mark_moved_by start removed added (mark_held (n, m))) (mark_held (n, m))
    by true = refl
    by false = refl

pub marks-moved : (id start removed added n : ℕ) (ms : List HeldMark)
    → map mark_held (enumerate_from n (with_held_moved id start removed added ms)) ≡ with_marks_moved id (mark_moved_by start removed added) (map mark_held (enumerate_from n ms))
marks-moved id start removed added n [] = refl
marks-moved id start removed added n (m ∷ ms) = λ i. mark-moved id start removed added n m i ∷ marks-moved id start removed added (n + 1) ms i

-- ---- a mark more

pub marks-push : (ms : List HeldMark) (m : HeldMark) → marks_held (ms ++ m ∷ []) ≡ marks_held ms ++ mark_held (length (marks_held ms) + 1, m) ∷ []
marks-push ms m =
    let long : length (marks_held ms) ≡ length ms = length-map (enumerate_from 1 ms) mark_held ∙ length-enumerate_from 1 ms in
    let number : 1 + length ms ≡ length (marks_held ms) + 1 = omega arith in
    ap (map mark_held) (enumerate_from-append 1 ms (m ∷ []))
    ∙ (map-append mark_held (enumerate_from 1 ms) (enumerate_from (1 + length ms) (m ∷ []))
    ∙ ap (λ (k : ℕ). marks_held ms ++ mark_held (k, m) ∷ []) number)

pub count-marks : (ms : List HeldMark) → length (marks_held ms) ≡ length ms
count-marks ms = length-map (enumerate_from 1 ms) mark_held ∙ length-enumerate_from 1 ms

-- ---- a mark resolved

-- no mark from a number on has a smaller one
pub resolved-none : (id n : ℕ) (ms : List HeldMark) → id < n → with_resolved id (map mark_held (enumerate_from n ms)) ≡ map mark_held (enumerate_from n ms)
resolved-none id n [] lt = refl
resolved-none id n (m ∷ ms) lt =
    let other : nat_eq n id ≡ false = ne_eqb n id (λ same. omega arith) in
    rw other (ap (λ (t : List Mark). mark_held (n, m) ∷ t) (resolved-none id (n + 1) ms (omega arith)))

resolved-behind : (i : ℕ) (m : HeldMark) (ms : List HeldMark) → with_held_resolved (suc (suc i)) (m ∷ ms) ≡ m ∷ with_held_resolved (suc i) ms
resolved-behind i m ms = by (slice_get ms i)
  where
    by : (o : Option HeldMark) → option_map_or (λ x. set (m ∷ ms) (suc i) (record x { resolved = true })) o (m ∷ ms) ≡ m ∷ option_map_or (λ x. set ms i (record x { resolved = true })) o ms
    by None = refl
    by (Some x) = refl

marks-resolved_from : (n i : ℕ) (ms : List HeldMark) → map mark_held (enumerate_from n (with_held_resolved (suc i) ms)) ≡ with_resolved (n + i) (map mark_held (enumerate_from n ms))
marks-resolved_from n i [] = refl
marks-resolved_from n zero (m ∷ ms) =
    let here : nat_eq n (n + 0) ≡ true = eq-eqb n (n + 0) (omega arith) in
    rw here (ap (λ (t : List Mark). mark_held (n, record m { resolved = true }) ∷ t) (sym (resolved-none (n + 0) (n + 1) ms (omega arith))))
marks-resolved_from n (suc i) (m ∷ ms) =
    let other : nat_eq n (n + suc i) ≡ false = ne_eqb n (n + suc i) (λ same. omega arith) in
    let number : n + 1 + i ≡ n + suc i = omega arith in
    ap (λ (t : List HeldMark). map mark_held (enumerate_from n t)) (resolved-behind i m ms)
    ∙ rw other (ap (λ (t : List Mark). mark_held (n, m) ∷ t) (marks-resolved_from (n + 1) i ms ∙ ap (λ (k : ℕ). with_resolved k (map mark_held (enumerate_from (n + 1) ms))) number))

pub marks-resolved : (id : ℕ) (ms : List HeldMark) → marks_held (with_held_resolved id ms) ≡ with_resolved id (marks_held ms)
marks-resolved zero ms = sym (resolved-none 0 1 ms (omega arith))
marks-resolved (suc i) ms =
    let number : 1 + i ≡ suc i = omega arith in
    marks-resolved_from 1 i ms ∙ ap (λ (k : ℕ). with_resolved k (marks_held ms)) number

-- ---- a mark found

missing-mark : (id n : ℕ) (ms : List HeldMark) → id < n → find (λ m. nat_eq m.id id) (map mark_held (enumerate_from n ms)) ≡ None
missing-mark id n [] lt = refl
missing-mark id n (m ∷ ms) lt = let other : nat_eq n id ≡ false = ne_eqb n id (λ same. omega arith) in rw other (missing-mark id (n + 1) ms (omega arith))

found-mark_from : (id n : ℕ) (ms : List HeldMark) → n ≤ id → find (λ m. nat_eq m.id id) (map mark_held (enumerate_from n ms)) ≡ option_map (λ m. mark_held (id, m)) (slice_get ms (id - n))
found-mark_from id n [] le = refl
found-mark_from id n (m ∷ ms) le =
    elim (cases_Bool (nat_eq n id)) [
      | inl e ↦
          let same : n ≡ id = eqb-true n id e in
          let first : 0 ≡ id - n = omega arith in
          rw e (ap (λ (k : ℕ). Some (mark_held (k, m))) same ∙ ap (λ (k : ℕ). option_map (λ x. mark_held (id, x)) (slice_get (m ∷ ms) k)) first)
      | inr e ↦
          let apart : n ≢ id = eqb-false n id e in
          let next : suc (id - (n + 1)) ≡ id - n = omega arith in
          rw e (found-mark_from id (n + 1) ms (omega arith) ∙ ap (λ (k : ℕ). option_map (λ x. mark_held (id, x)) (slice_get (m ∷ ms) k)) next)
    ]

pub found-mark : (id : ℕ) (ms : List HeldMark) → find (λ m. nat_eq m.id id) (marks_held ms) ≡ option_map (λ m. mark_held (id, m)) (held_mark id ms)
found-mark zero ms = missing-mark 0 1 ms (omega arith)
found-mark (suc i) ms =
    let index : suc i - 1 ≡ i = omega arith in
    found-mark_from (suc i) 1 ms (omega arith) ∙ ap (λ (k : ℕ). option_map (λ x. mark_held (suc i, x)) (slice_get ms k)) index

-- ---- marks of a sound book

pub IsWithin-sound : (book : Book) (m : Mark) → IsSound book → IsSoundMark book m → (m.start ≤ m.end) × (m.end ≤ most_print)
IsWithin-sound book m sound s =
    let p = IsSoundParagraph-found book sound m.paragraph s.paragraph s.found in
    let history = s.paragraph.history in
    let short = subst (λ t. length (corrected_print s.paragraph.original t) ≤ most_print) (take-length history) (p.history.short (length history) (omega arith)) in
    let within = s.within in
    (s.ordered, omega arith)

AreWithin-from : (book : Book) (n : ℕ) (ms : List HeldMark) → IsSound book → All (λ entry. IsSoundMark book (mark_held entry)) (enumerate_from n ms) → AreWithin ms
AreWithin-from book n [] sound all = All-nil IsWithin
AreWithin-from book n (m ∷ ms) sound all =
    All-cons IsWithin m ms (IsWithin-sound book (mark_held (n, m)) sound (All-head (λ entry. IsSoundMark book (mark_held entry)) (n, m) (enumerate_from (n + 1) ms) all))
    (AreWithin-from book (n + 1) ms sound (All-tail (λ entry. IsSoundMark book (mark_held entry)) (n, m) (enumerate_from (n + 1) ms) all))

-- no mark is on a paragraph that isn't there yet
pub marks-elsewhere : (book : Book) (id n : ℕ) (ms : List HeldMark) → IsSound book → length book.paragraphs < id
    → All (λ entry. IsSoundMark book (mark_held entry)) (enumerate_from n ms) → All (λ m. nat_eq m.paragraph id ≡ false) ms
marks-elsewhere book id n [] sound past all = All-nil (λ m. nat_eq m.paragraph id ≡ false)
marks-elsewhere book id n (m ∷ ms) sound past all =
    let mine = All-head (λ entry. IsSoundMark book (mark_held entry)) (n, m) (enumerate_from (n + 1) ms) all in
    let within = paragraph_of-within book sound m.paragraph mine.paragraph mine.found in
    All-cons (λ k. nat_eq k.paragraph id ≡ false) m ms (ne_eqb m.paragraph id (λ same. omega arith))
    (marks-elsewhere book id (n + 1) ms sound past (All-tail (λ entry. IsSoundMark book (mark_held entry)) (n, m) (enumerate_from (n + 1) ms) all))

pub AreWithin-sound : (book : Book) (ms : List HeldMark) → IsSound book → All (IsSoundMark book) (marks_held ms) → AreWithin ms
AreWithin-sound book ms sound all = AreWithin-from book 1 ms sound (All-from_map (IsSoundMark book) mark_held (enumerate_from 1 ms) all)
