-- What a new mark puts makes rows that show the book show the next.
use Rattle.std.proofs.Common.{◌≡◌, ℕ, ◌≤◌, pos, Bool, true, List, [], ◌∷◌, ◌++◌, length, map, refl, sym, ap, subst, ◌∙◌, arith, inl, inr}
use Rattle.std.specs.List.{All, filter}
use Rattle.std.specs.List.Sorted.{IsPermutation}
use Rattle.std.specs.Ordering.{int_eq}
use Rattle.std.specs.Prelude.{not}
use Rattle.std.proofs.lemmas.Bool.{cases_Bool, cond-true, cond-false, ne_eqb}
use Rattle.std.proofs.lemmas.List.{length-append, map-append}
use Rattle.std.proofs.lemmas.List.Elements.{All-cons, All-contains, All-filter, All-head, All-map, All-tail, All-weaker, Contains-push}
use Rattle.std.proofs.lemmas.List.Sorted.{IsPermutation-cons, IsPermutation-sym, IsPermutation-to_front, IsPermutation-trans}
use Rattle.desk_memory.specs.declared.marks.HeldMark.{HeldMark}
use Rattle.desk_model.specs.Book.{Book, Mark}
use Rattle.desk_model.specs.Loans.{LeadTo, row_number}
use Rattle.desk_book.specs.ChangePuts.{held_mark_row, version_put}
use Rattle.desk_parts.specs.FileRows.{HasUtf8Texts, spelled}
use Rattle.desk_memory.specs.Held.{mark_held}
use Rattle.desk_parts.specs.declared.file_table.FileTable.TheVariants as tables
use Rattle.desk_parts.specs.Puts.{PutRow, put_by_key}
use Rattle.desk_parts.specs.Rows.{Mark as MarkRow}
use Rattle.desk_model.specs.Shows.{mark_row_of}
use Rattle.desk_model.specs.Sound.{IsSound, IsSoundMark}
use Rattle.desk_model.specs.NextBook.{next_mark, next_with_marks}
use Rattle.desk_model.proofs.Rows.BookRows.{encoded-text, spelled-encoded}
use Rattle.desk_memory.proofs.Callers.{IsWithin-sound}
use Rattle.desk_model.proofs.Lists.Permutations.{IsPermutation-filter}
use Rattle.desk_book.proofs.RowPuts.PutChanges.{same_key, small_mark, shown-marked}
use Rattle.desk_model.proofs.Rows.PutRows.{filter-all, number-small}
use Rattle.desk_model.proofs.Books.SoundBooks.{paragraph_of-within}

-- ---- a row put in place of those with its key

module _ {X : Type 0} (spelled : X → X) (has_key key : X → Bool) (x : X) where
  filter-spelled : (xs : List X) → All (λ y. has_key y ≡ key (spelled y)) xs
      → map spelled (filter (λ y. not (has_key y)) xs) ≡ filter (λ y. not (key y)) (map spelled xs)
  filter-spelled [] all = refl
  filter-spelled (y ∷ ys) all =
      let same : has_key y ≡ key (spelled y) = All-head (λ z. has_key z ≡ key (spelled z)) y ys all in
      let rest = filter-spelled ys (All-tail (λ z. has_key z ≡ key (spelled z)) y ys all) in
      let left : List X = filter (λ z. not (has_key z)) ys in
      let shown : List X = filter (λ z. not (key z)) (map spelled ys) in
      elim (cases_Bool (not (has_key y))) [
        | inl e ↦
            ap (map spelled) (cond-true (not (has_key y)) (y ∷ left) left e)
            ∙ (ap (λ (zs : List X). spelled y ∷ zs) rest
            ∙ sym (cond-true (not (key (spelled y))) (spelled y ∷ shown) shown (ap not (sym same) ∙ e)))
        | inr e ↦
            ap (map spelled) (cond-false (not (has_key y)) (y ∷ left) left e)
            ∙ (rest ∙ sym (cond-false (not (key (spelled y))) (spelled y ∷ shown) shown (ap not (sym same) ∙ e)))
      ]

  pub IsPermutation-put_in : (xs ys : List X) → All (λ y. has_key y ≡ key (spelled y)) xs → IsPermutation (map spelled xs) ys
      → IsPermutation (map spelled (put_by_key has_key x xs)) (spelled x ∷ filter (λ y. not (key y)) ys)
  IsPermutation-put_in xs ys all moved =
      subst (λ (zs : List X). IsPermutation (spelled x ∷ zs) (spelled x ∷ filter (λ y. not (key y)) ys)) (sym (filter-spelled xs all))
      (IsPermutation-cons (spelled x) (filter (λ y. not (key y)) (map spelled xs)) (filter (λ y. not (key y)) ys)
      (IsPermutation-filter (λ y. not (key y)) (map spelled xs) ys moved))

pub All-put_in : {X : Type 0} (P : X → Type 0) (has_key : X → Bool) (x : X) (xs : List X) → P x → All P xs → All P (put_by_key has_key x xs)
All-put_in P has_key x xs here all = All-cons P x (filter (λ y. not (has_key y)) xs) here (All-filter (λ y. not (has_key y)) P xs all)

-- ---- a mark more

module _ (book : Book) (held : HeldMark) (sound : IsSound book) where
  abbrev number : ℕ
  number = next_mark book

  abbrev mark : Mark
  mark = mark_held (number, held)

  abbrev marked : Book
  marked = next_with_marks book (book.marks ++ mark ∷ [])

  module _ (after : IsSound marked) where
    abbrev row : MarkRow
    row = held_mark_row number held

    is_sound : IsSoundMark marked mark
    is_sound = All-contains (IsSoundMark marked) (book.marks ++ mark ∷ []) mark after.marks (Contains-push book.marks mark)

    few : number ≤ 100000
    few = let long = length-append book.marks (mark ∷ []) in let most = after.few_marks in omega arith

    spelled-row : spelled tables.Mark row ≡ mark_row_of mark
    spelled-row =
        let s = is_sound in
        let paragraph = paragraph_of-within marked after held.paragraph s.paragraph s.found in
        let paragraphs = after.few_paragraphs in
        let within = IsWithin-sound marked mark after s in
        let small = few in
        let id = number-small number (omega arith) in
        let para = number-small held.paragraph (omega arith) in
        let start = number-small held.start (omega arith) in
        let stop = number-small held.end (omega arith) in
        let note = spelled-encoded held.note s.clean.characters in
        cc

    others-apart : All (λ (m : MarkRow). not (int_eq m.id (row_number number)) ≡ true) (map mark_row_of book.marks)
    others-apart =
        All-map (λ (m : MarkRow). not (int_eq m.id (row_number number)) ≡ true) mark_row_of book.marks
        (All-weaker (λ (m : Mark). m.id ≤ length book.marks) (λ (m : Mark). not (int_eq (pos m.id) (row_number number)) ≡ true)
        (λ m lower.
        let most = sound.few_marks in
        ap not (same_key m.id number (omega arith) ∙ ne_eqb m.id number (λ same. omega arith)))
        book.marks (small_mark book sound))

    pub mark-lead : LeadTo book (version_put marked.version ∷ PutRow tables.Mark row ∷ []) marked
    mark-lead rows shows has =
        let key : MarkRow → Bool = λ m. int_eq m.id row.id in
        let old : List MarkRow = map mark_row_of book.marks in
        let put : List MarkRow = put_by_key key row rows.marks in
        let moved = IsPermutation-put_in (spelled tables.Mark) key key row rows.marks old (λ k d within. refl) shows.marks in
        let all : filter (λ m. not (key m)) old ≡ old = filter-all (λ m. not (key m)) old others-apart in
        let now : map mark_row_of (book.marks ++ mark ∷ []) ≡ old ++ mark_row_of mark ∷ [] = map-append mark_row_of book.marks (mark ∷ []) in
        shown-marked book (book.marks ++ mark ∷ []) after rows shows put
        (All-put_in (HasUtf8Texts tables.Mark) key row rows.marks (encoded-text held.note is_sound.clean.characters) shows.texts.marks)
        (subst (IsPermutation (map (spelled tables.Mark) put)) (sym now)
        (IsPermutation-trans (map (spelled tables.Mark) put) (mark_row_of mark ∷ old) (old ++ mark_row_of mark ∷ [])
        (subst (IsPermutation (map (spelled tables.Mark) put)) (λ i. spelled-row i ∷ all i) moved)
        (IsPermutation-sym (old ++ mark_row_of mark ∷ []) (mark_row_of mark ∷ old) (IsPermutation-to_front old (mark_row_of mark)))))
