-- What another print of a paragraph puts makes rows that show the book show the next.
use Rattle.std.proofs.Common.{◌≡◌, ℕ, ◌+◌, ◌≤◌, ℤ, pos, true, false, cond, List, [], ◌∷◌, ◌++◌, append_assoc, length, map, Option, Some, None, refl, sym, ap, subst, ◌∙◌, arith, inl, inr}
use Rattle.std.specs.List.{All, enumerate_from, flat_map}
use Rattle.std.specs.List.Sorted.{IsPermutation}
use Rattle.std.specs.Ordering.{int_eq}
use Rattle.std.specs.Prelude.{nat_eq, not, option_map}
use Rattle.std.proofs.lemmas.Bool.{cases_Bool, cond-true, cond-false, eq-eqb, not-true}
use Rattle.std.proofs.lemmas.List.{map-append, map-id}
use Rattle.std.proofs.lemmas.List.Elements.{All-cons, All-head, All-nil, All-tail, All-weaker, filter_passes}
use Rattle.std.proofs.lemmas.List.Sorted.{IsPermutation-cons, IsPermutation-map, IsPermutation-middle, IsPermutation-sym, IsPermutation-trans}
use Rattle.std.proofs.lemmas.Simd.{map-map}
use Rattle.std.proofs.lemmas.Str.{chars-nil}
use Rattle.desk_memory.specs.declared.history.HeldEntry.{HeldEntry}
use Rattle.desk_memory.specs.declared.history.HeldEntry.TheVariants.{Corrects as HeldCorrects, Undoes as HeldUndoes}
use Rattle.desk_model.specs.Book.{Entry, Mark, Paragraph, Replacement}
use Rattle.desk_book.specs.ChangePuts.{entry_row, span_put}
use Rattle.desk_model.specs.Loans.{row_number}
use Rattle.desk_parts.specs.declared.file_table.FileTable.TheVariants as tables
use Rattle.desk_parts.specs.FileRows.{FileRows, HasUtf8Texts, spelled}
use Rattle.desk_memory.specs.Histories.{entry_held}
use Rattle.desk_model.specs.Marks.{mark_moved_by}
use Rattle.desk_model.specs.Print.{corrected_print, newest, with_entry}
use Rattle.desk_parts.specs.Puts.{with_puts}
use Rattle.desk_parts.specs.Rows.{Mark as MarkRow, NamedCorr}
use Rattle.desk_model.specs.Shows.{entry_row_of, entry_rows_of, flag_number}
use Rattle.desk_model.specs.Sound.{IsSoundEntry}
use Rattle.desk_model.specs.NextBook.{with_change}
use Rattle.desk_model.proofs.Rows.BookRows.{encoded-text, spelled-encoded}
use Rattle.desk_model.proofs.Books.HistoryLists.{IsLast-parts, enumerate_from-append, newest-parts}
use Rattle.desk_model.proofs.Books.ParagraphLists.{AreApart, IsPermutation-without_paragraph, changed, found, id-found, without_paragraph}
use Rattle.desk_book.proofs.RowPuts.PutOrder.{IsPermutation-flat_map}
use Rattle.desk_book.proofs.RowPuts.PutPlaces.{map-agree}
use Rattle.desk_model.proofs.Rows.PutRows.{number-small}

-- ---- the entry

module _ (original : List ℕ) (before : List Entry) (id seq : ℕ) (small : id ≤ 20000) (early : seq ≤ 10001) (few : length before ≤ 10000)
    (short : length (corrected_print original before) ≤ 4000) where
  pub entry-spelled : (held : HeldEntry) → IsSoundEntry original before (entry_held held) → spelled tables.NamedCorr (entry_row id seq held) ≡ entry_row_of id (seq, entry_held held)
  entry-spelled (HeldCorrects c) sound =
      let span = sound.0 in
      let para = number-small id (omega arith) in
      let number = number-small seq (omega arith) in
      let start = number-small c.start (omega arith) in
      let len = number-small (length c.taken) (omega arith) in
      let body = spelled-encoded c.text sound.1.characters in
      let who = spelled-encoded c.who sound.3 in
      λ i. record { entry = record { para = para i; seq = number i; kind = pos 0; start = start i; len = len i; body = body i }; who = who i }
  entry-spelled (HeldUndoes n) sound =
      let para = number-small id (omega arith) in
      let number = number-small seq (omega arith) in
      let undone = number-small n (let most = undone-small in omega arith) in
      λ i. record { entry = record { para = para i; seq = number i; kind = pos 1; start = undone i; len = pos 0; body = chars-nil i }; who = chars-nil i }
    where
      undone-small : n ≤ 10001
      undone-small = by (newest before) refl
        where
          by : (o : Option (ℕ × Replacement)) → newest before ≡ o → n ≤ 10001
          by None e = absurd (let both : None ≡ Some n = ap (option_map (λ (correction : ℕ × Replacement). correction.0)) (sym e) ∙ sound in cc)
          by (Some (m, r)) e =
              let both : Some m ≡ Some n = ap (option_map (λ (correction : ℕ × Replacement). correction.0)) (sym e) ∙ sound in
              let same : m ≡ n = cc in
              let parts = newest-parts before m r e in
              let is = IsLast-parts before 1 before parts.0 m r parts.1 in
              let to = is.to in
              omega arith

  pub entry-texts : (held : HeldEntry) → IsSoundEntry original before (entry_held held) → HasUtf8Texts tables.NamedCorr (entry_row id seq held)
  entry-texts (HeldCorrects c) sound = (encoded-text c.text sound.1.characters, encoded-text c.who sound.3)
  entry-texts (HeldUndoes n) sound = (([], (refl, refl)), ([], (refl, refl)))

-- ---- the entries of a book, one more

module _ (id : ℕ) (e : Entry) (p : Paragraph) (ps : List Paragraph) (apart : AreApart ps) (there : found id ps ≡ Some p) where
  pub changed-out : (to : Paragraph → Paragraph) → IsPermutation (with_change id to ps) (to p ∷ without_paragraph id ps)
  changed-out to =
      let out = IsPermutation-map (changed id to) ps (p ∷ without_paragraph id ps) (IsPermutation-without_paragraph id p ps apart there) in
      let first : changed id to p ≡ to p = cond-true (nat_eq p.id id) (to p) p (eq-eqb p.id id (id-found id ps p there)) in
      let rest : map (changed id to) (without_paragraph id ps) ≡ without_paragraph id ps =
      map-agree (changed id to) (λ q. q) (without_paragraph id ps)
      (All-weaker (λ (q : Paragraph). not (nat_eq q.id id) ≡ true) (λ (q : Paragraph). changed id to q ≡ q) (λ q h. cond-false (nat_eq q.id id) (to q) q (not-true (nat_eq q.id id) h)) (without_paragraph id ps)
      (filter_passes (λ (q : Paragraph). not (nat_eq q.id id)) ps)) ∙ map-id (without_paragraph id ps) in
      subst (IsPermutation (with_change id to ps)) (λ i. first i ∷ rest i) out

  pub entries-more : IsPermutation (entry_row_of id (length p.history + 1, e) ∷ flat_map entry_rows_of ps) (flat_map entry_rows_of (with_change id (with_entry e) ps))
  entries-more =
      let row : NamedCorr = entry_row_of id (length p.history + 1, e) in
      let left : List Paragraph = without_paragraph id ps in
      let own : p.id ≡ id = id-found id ps p there in
      let count : 1 + length p.history ≡ length p.history + 1 = omega arith in
      let rows : entry_rows_of (with_entry e p) ≡ entry_rows_of p ++ row ∷ [] =
      ap (map (entry_row_of p.id)) (enumerate_from-append 1 p.history (e ∷ []))
      ∙ (map-append (entry_row_of p.id) (enumerate_from 1 p.history) (enumerate_from (1 + length p.history) (e ∷ []))
      ∙ (λ i. entry_rows_of p ++ entry_row_of (own i) (count i, e) ∷ [])) in
      let old = IsPermutation-flat_map entry_rows_of ps (p ∷ left) (IsPermutation-without_paragraph id p ps apart there) in
      let new = IsPermutation-flat_map entry_rows_of (with_change id (with_entry e) ps) (with_entry e p ∷ left) (changed-out (with_entry e)) in
      let whole : entry_rows_of (with_entry e p) ++ flat_map entry_rows_of left ≡ entry_rows_of p ++ row ∷ flat_map entry_rows_of left =
      ap (λ (es : List NamedCorr). es ++ flat_map entry_rows_of left) rows ∙ append_assoc (entry_rows_of p) (row ∷ []) (flat_map entry_rows_of left) in
      IsPermutation-trans (row ∷ flat_map entry_rows_of ps) (row ∷ (entry_rows_of p ++ flat_map entry_rows_of left)) (flat_map entry_rows_of (with_change id (with_entry e) ps))
      (IsPermutation-cons row (flat_map entry_rows_of ps) (entry_rows_of p ++ flat_map entry_rows_of left) old)
      (IsPermutation-trans (row ∷ (entry_rows_of p ++ flat_map entry_rows_of left)) (entry_rows_of p ++ row ∷ flat_map entry_rows_of left) (flat_map entry_rows_of (with_change id (with_entry e) ps))
      (IsPermutation-sym (entry_rows_of p ++ row ∷ flat_map entry_rows_of left) (row ∷ (entry_rows_of p ++ flat_map entry_rows_of left)) (IsPermutation-middle (entry_rows_of p) row (flat_map entry_rows_of left)))
      (subst (λ (es : List NamedCorr). IsPermutation es (flat_map entry_rows_of (with_change id (with_entry e) ps))) whole
      (IsPermutation-sym (flat_map entry_rows_of (with_change id (with_entry e) ps)) (entry_rows_of (with_entry e p) ++ flat_map entry_rows_of left) new)))

-- ---- spans that are put

abbrev pub Columns : Type 0
Columns = ℤ × ℤ × ℤ

abbrev pub set_span : Columns → MarkRow → MarkRow
set_span t row = record row { start = t.0; stop = t.1; touched = t.2 }

abbrev pub columns_of : MarkRow → Columns
columns_of row = (row.start, row.stop, row.touched)

module _ (start removed added : ℕ) where
  abbrev pub span_columns : Mark → Columns
  span_columns m =
      let moved : Mark = mark_moved_by start removed added m in
      (row_number moved.start, row_number moved.end, flag_number moved.touched)

  abbrev spanned_by : Mark → MarkRow → MarkRow
  spanned_by m row = cond (int_eq row.id (row_number m.id)) (set_span (span_columns m) row) row

  abbrev pub spanned : List Mark → MarkRow → MarkRow
  spanned [] row = row
  spanned (m ∷ ms) row = spanned ms (spanned_by m row)

  pub spans-put : (ms : List Mark) (rows : FileRows) → with_puts (map (span_put start removed added) ms) rows ≡ record rows { marks = map (spanned ms) rows.marks }
  spans-put [] rows = λ i. record rows { marks = sym (map-id rows.marks) i }
  spans-put (m ∷ ms) rows =
      spans-put ms (record rows { marks = map (spanned_by m) rows.marks })
      ∙ (λ i. record rows { marks = map-map (spanned ms) (spanned_by m) rows.marks i })

  span-texts : (m : Mark) (row : MarkRow) → HasUtf8Texts tables.Mark row → HasUtf8Texts tables.Mark (spanned_by m row)
  span-texts m row text =
      elim (cases_Bool (int_eq row.id (row_number m.id))) [
        | inl t ↦ subst (HasUtf8Texts tables.Mark) (sym (cond-true (int_eq row.id (row_number m.id)) (set_span (span_columns m) row) row t)) text
        | inr f ↦ subst (HasUtf8Texts tables.Mark) (sym (cond-false (int_eq row.id (row_number m.id)) (set_span (span_columns m) row) row f)) text
      ]

  pub spanned-texts : (ms : List Mark) (row : MarkRow) → HasUtf8Texts tables.Mark row → HasUtf8Texts tables.Mark (spanned ms row)
  spanned-texts [] row text = text
  spanned-texts (m ∷ ms) row text = spanned-texts ms (spanned_by m row) (span-texts m row text)

  span-spelled : (m : Mark) (row : MarkRow) → spelled tables.Mark (spanned_by m row) ≡ spanned_by m (spelled tables.Mark row)
  span-spelled m row =
      let b = int_eq row.id (row_number m.id) in
      elim (cases_Bool b) [
        | inl t ↦ ap (spelled tables.Mark) (cond-true b (set_span (span_columns m) row) row t) ∙ sym (cond-true b (set_span (span_columns m) (spelled tables.Mark row)) (spelled tables.Mark row) t)
        | inr f ↦ ap (spelled tables.Mark) (cond-false b (set_span (span_columns m) row) row f) ∙ sym (cond-false b (set_span (span_columns m) (spelled tables.Mark row)) (spelled tables.Mark row) f)
      ]

  pub spanned-spelled : (ms : List Mark) (row : MarkRow) → spelled tables.Mark (spanned ms row) ≡ spanned ms (spelled tables.Mark row)
  spanned-spelled [] row = refl
  spanned-spelled (m ∷ ms) row = spanned-spelled ms (spanned_by m row) ∙ ap (spanned ms) (span-spelled m row)

  pub spanned-at : (t : Columns) (ms : List Mark) (row : MarkRow) → All (λ (m : Mark). int_eq row.id (row_number m.id) ≡ true → span_columns m ≡ t) ms
      → (All (λ (m : Mark). int_eq row.id (row_number m.id) ≡ false) ms → columns_of row ≡ t) → spanned ms row ≡ set_span t row
  spanned-at t [] row sends had = λ i. set_span (had (All-nil (λ (m : Mark). int_eq row.id (row_number m.id) ≡ false)) i) row
  spanned-at t (m ∷ ms) row sends had =
      let first = All-head (λ (k : Mark). int_eq row.id (row_number k.id) ≡ true → span_columns k ≡ t) m ms sends in
      let rest = All-tail (λ (k : Mark). int_eq row.id (row_number k.id) ≡ true → span_columns k ≡ t) m ms sends in
      elim (cases_Bool (int_eq row.id (row_number m.id))) [
        | inl h ↦
            ap (spanned ms) (cond-true (int_eq row.id (row_number m.id)) (set_span (span_columns m) row) row h)
            ∙ spanned-at t ms (set_span (span_columns m) row) rest (λ misses. first h)
        | inr f ↦
            ap (spanned ms) (cond-false (int_eq row.id (row_number m.id)) (set_span (span_columns m) row) row f)
            ∙ spanned-at t ms row rest (λ misses. had (All-cons (λ (k : Mark). int_eq row.id (row_number k.id) ≡ false) m ms f misses))
      ]
