-- Rows of paragraphs, marks and braille that show a book have no damage.
use Rattle.std.proofs.Common.{◌≡◌, ℕ, ◌+◌, ◌<◌, ◌≤◌, ℤ, pos, ◌≤ℤ◌, false, List, [], ◌∷◌, map, length, get_or, take, Some, Contains, refl, sym, ap, subst, ◌∙◌, arith, IsPermutation, chars}
use Rattle.std.specs.List.{enumerate_from, range_with_len}
use Rattle.std.proofs.lemmas.List.{length-map}
use Rattle.std.proofs.lemmas.List.Elements.{All-contains}
use Rattle.std.proofs.lemmas.List.Sorted.{Contains-permutation, IsPermutation-map, IsPermutation-sym, IsPermutation-trans, length_permutation}
use Rattle.std.proofs.lemmas.Option.{slice_get-get_or}
use Rattle.std.proofs.lemmas.Simd.{map-map}
use Rattle.louis_table.specs.Meaning.{Meaning}
use Rattle.louis_table.specs.Table.{Means}
use Rattle.louis_translate.specs.Position.{AreDefined}
use Rattle.desk_model.specs.Book.{Entry, Corrects, Undoes, Book, Paragraph, Mark, text_of}
use Rattle.desk_model.specs.Damage.{IsDamagedMark, IsDamagedPara, IsItsTable, IsNumber, IsPrintText, IsSoundMarkRow, IsSoundParaRow, IsSpanned, IsWithin}
use Rattle.desk_parts.specs.declared.file_table.FileTable.TheVariants as file
use Rattle.desk_parts.specs.FileRows.{FileRows, HasUtf8Texts, spelled}
use Rattle.desk_model.specs.Limits.{most_marks, most_note, most_paragraphs, most_print}
use Rattle.desk_model.specs.Print.{print_of}
use Rattle.desk_parts.specs.Rows.{Para, Mark as MarkRow}
use Rattle.desk_model.specs.Shows.{Shows, mark_row_of, para_of}
use Rattle.desk_model.specs.Sound.{IsSoundEntry, IsSoundMark, IsSoundParagraph}
use Rattle.desk_model.specs.BookTexts.{IsUnbarred, is_barred}
use Rattle.desk_model.proofs.Lists.Members.{Contains-map}
use Rattle.desk_model.proofs.Books.ParagraphLists.{Contains-found, id-found, ids_of}
use Rattle.desk_model.proofs.Books.PrintCharacters.{HasText, print-all}
use Rattle.desk_model.proofs.Lists.RowNumbers.{Contains-enumerate, Contains-from_map, IsNumber-key, enumerate-same, from_enumerate, pos_le}
use Rattle.desk_model.proofs.Damage.SoundRows.{IsFlag-flag, IsFlag-number, IsFlag-style, same_bytes, tab_row}
use Rattle.desk_model.proofs.Lists.TableEntries.{Contains-text}
use Rattle.desk_model.proofs.Books.SoundBooks.{short-sound}

-- ---- prints

unbarred-entry : (original : List ℕ) (before : List Entry) (entry : Entry) → IsSoundEntry original before entry → HasText (λ c. is_barred c ≡ false) entry
unbarred-entry original before (Corrects r who) sound = sound.1.unbarred
unbarred-entry original before (Undoes undone) sound = tt

module _ (book : Book) (p : Paragraph) (sound : IsSoundParagraph book p) where
  pub unbarred-print : IsUnbarred (print_of p)
  unbarred-print =
      print-all (λ c. is_barred c ≡ false) p sound.clean.unbarred
      (λ k d within. unbarred-entry p.original (take k p.history) (get_or p.history k d) (sound.history.entries k (get_or p.history k d) (slice_get-get_or p.history k d within)))

  pub short-original : length p.original ≤ most_print
  short-original = sound.history.short 0 (omega arith)

-- ---- keys

ids-rows : (n : ℕ) (ps : List Paragraph) → map (λ (row : Para). row.id) (map para_of (enumerate_from n ps)) ≡ map pos (ids_of ps)
ids-rows n [] = refl
ids-rows n (p ∷ ps) = λ i. pos p.id ∷ ids-rows (n + 1) ps i

module _ (rows : FileRows) (book : Book) (shown : Shows rows book) where
  abbrev ps : List Paragraph
  ps = book.paragraphs

  pub numbers-ids : IsPermutation (map pos (ids_of ps)) (map pos (range_with_len 1 (length ps)))
  numbers-ids = IsPermutation-map pos _ _ (IsPermutation-sym _ _ shown.sound.ids)

  -- the ids of the rows are the numbers from one on, in some order
  pub para-keys : IsPermutation (map (λ row. row.id) rows.paras) (map pos (range_with_len 1 (length ps)))
  para-keys =
      IsPermutation-trans _ _ _
      (subst (λ (zs : List ℤ). IsPermutation zs (map pos (ids_of ps))) (map-map (λ (row : Para). row.id) (spelled file.Para) rows.paras)
      (subst (λ (zs : List ℤ). IsPermutation (map (λ (row : Para). row.id) (map (spelled file.Para) rows.paras)) zs) (ids-rows 1 ps)
      (IsPermutation-map (λ (row : Para). row.id) _ _ shown.paragraphs)))
      numbers-ids

  count-paras : length rows.paras ≡ length ps
  count-paras =
      let one = length-map rows.paras (λ (row : Para). row.id) in
      let four = length-map ps (λ (p : Paragraph). p.id) in
      omega (arith, length_permutation _ _ para-keys, one, length_permutation _ _ numbers-ids, length-map (ids_of ps) pos, four)

  -- ---- the parts of rows, and the rows of parts

  pub para_part : (row : Para) → Contains rows.paras row → (place : ℕ) × (p : Paragraph) × Contains (enumerate_from 1 ps) (place, p) × (para_of (place, p) ≡ spelled file.Para row)
  para_part row c =
      let found = Contains-from_map para_of (enumerate_from 1 ps) (spelled file.Para row)
      (Contains-permutation _ _ (spelled file.Para row) shown.paragraphs (Contains-map (spelled file.Para) rows.paras row c)) in
      (found.0.0, found.0.1, found.1, found.2)

  pub para_row : (p : Paragraph) → Contains ps p → (row : Para) × Contains rows.paras row × (row.id ≡ pos p.id) × (chars row.print ≡ print_of p) × (chars row.tab ≡ p.table)
  para_row p c =
      let numbered = Contains-enumerate 1 ps p c in
      let found = Contains-from_map (spelled file.Para) rows.paras (para_of (numbered.0, p))
      (Contains-permutation _ _ (para_of (numbered.0, p)) (IsPermutation-sym _ _ shown.paragraphs)
      (Contains-map para_of (enumerate_from 1 ps) (numbered.0, p) numbered.1)) in
      (found.0, found.1, ap (λ (r : Para). r.id) found.2, ap (λ (r : Para). r.print) found.2, ap (λ (r : Para). r.tab) found.2)

  -- the table of a paragraph's row is there
  pub its_table : (row : Para) (p : Paragraph) (text : List ℕ) (meaning : Meaning) → Contains rows.paras row → chars row.tab ≡ p.table
      → text_of book p.table ≡ Some text → Means text meaning → IsItsTable rows.tabs row meaning
  its_table row p text meaning in_rows named there means =
      let found = tab_row rows book shown p.table text (Contains-text p.table text book.tables there) in
      let texts = All-contains (HasUtf8Texts file.Para) rows.paras row shown.texts.paras in_rows in
      record {
        table = found.0;
        there = found.1;
        named = same_bytes found.0.name row.tab (All-contains (HasUtf8Texts file.Tab) rows.tabs found.0 shown.texts.tabs found.1) texts.0 (found.2 ∙ sym named);
        means = subst (λ body. Means body meaning) (sym found.3) means;
      }

  pub sound_paragraph : (p : Paragraph) → Contains ps p → IsSoundParagraph book p
  sound_paragraph p c = All-contains (IsSoundParagraph book) ps p shown.sound.paragraphs c

  -- ---- para

  sound-para_row : (row : Para) → Contains rows.paras row → IsSoundParaRow rows.tabs rows.paras row
  sound-para_row row c =
      let part = para_part row c in
      let place : ℕ = part.0 in
      let p : Paragraph = part.1 in
      let is : para_of (place, p) ≡ spelled file.Para row = part.3 in
      let within = from_enumerate 1 ps place p part.2 in
      let s = sound_paragraph p within.0 in
      let print : print_of p ≡ chars row.print = ap (λ (r : Para). r.print) is in
      let at : pos place ≡ row.place = ap (λ (r : Para). r.place) is in
      let low : 1 ≤ place = within.1 in
      let high : place < 1 + length ps = within.2 in
      record {
        number = IsNumber-key (λ other. other.id) rows.paras (length ps) para-keys most_paragraphs shown.sound.few_paragraphs row c;
        place = subst (IsWithin 1 (length rows.paras)) at (pos_le 1 place low, pos_le place (length rows.paras) (omega (arith, high, count-paras)));
        own = λ other among same.
            let its = para_part other among in
            let one : pos its.0 ≡ pos place = ap (λ (r : Para). r.place) its.3 ∙ (same ∙ sym at) in
            let number : its.0 ≡ place = cc in
            let twin : its.1 ≡ p = enumerate-same 1 ps place its.1 p (subst (λ n. Contains (enumerate_from 1 ps) (n, its.1)) number its.2) part.2 in
            let id : row.id ≡ other.id = sym (ap (λ (r : Para). r.id) is) ∙ (ap (λ (q : Paragraph). pos q.id) (sym twin) ∙ ap (λ (r : Para). r.id) its.3) in
            let self : pos p.id ≤ℤ pos p.id = pos_le p.id p.id (omega arith) in
            subst (λ z. row.id ≤ℤ z) id (subst (λ z. z ≤ℤ z) (ap (λ (r : Para). r.id) is) self);
        original = subst IsPrintText (ap (λ (r : Para). r.original) is) (short-original book p s, s.clean.unbarred);
        print = subst IsPrintText print (short-sound book p s, unbarred-print book p s);
        meaning = s.meaning;
        table = its_table row p s.text s.meaning c (sym (ap (λ (r : Para). r.tab) is)) s.found s.means;
        defined = subst (AreDefined s.meaning) print s.defined;
        style = IsFlag-style p.style row.style (ap (λ (r : Para). r.style) is);
        volume = IsFlag-flag p.begins_volume row.volume (ap (λ (r : Para). r.volume) is);
        struck = IsFlag-flag p.struck row.struck (ap (λ (r : Para). r.struck) is);
      }

  pub sound-para : (id : ℤ) → ¬ IsDamagedPara rows.tabs rows.paras id
  sound-para id (row, c, named, unsound) = unsound (sound-para_row row c)

  -- ---- mark

  mark_part : (row : MarkRow) → Contains rows.marks row → (mark : Mark) × Contains book.marks mark × (mark_row_of mark ≡ spelled file.Mark row)
  mark_part row c =
      Contains-from_map mark_row_of book.marks (spelled file.Mark row)
      (Contains-permutation _ _ (spelled file.Mark row) shown.marks (Contains-map (spelled file.Mark) rows.marks row c))

  mark-keys : IsPermutation (map (λ row. row.id) rows.marks) (map pos (range_with_len 1 (length book.marks)))
  mark-keys =
      let ids : map (λ (row : MarkRow). row.id) (map mark_row_of book.marks) ≡ map pos (range_with_len 1 (length book.marks)) =
      map-map (λ (row : MarkRow). row.id) mark_row_of book.marks ∙ (sym (map-map pos (λ (m : Mark). m.id) book.marks) ∙ ap (map pos) shown.sound.numbers) in
      subst (λ (zs : List ℤ). IsPermutation zs (map pos (range_with_len 1 (length book.marks)))) (map-map (λ (row : MarkRow). row.id) (spelled file.Mark) rows.marks)
      (subst (λ (zs : List ℤ). IsPermutation (map (λ (row : MarkRow). row.id) (map (spelled file.Mark) rows.marks)) zs) ids
      (IsPermutation-map (λ (row : MarkRow). row.id) _ _ shown.marks))

  sound-mark_row : (row : MarkRow) → Contains rows.marks row → IsSoundMarkRow rows.paras rows.marks row
  sound-mark_row row c =
      let part = mark_part row c in
      let mark : Mark = part.0 in
      let is : mark_row_of mark ≡ spelled file.Mark row = part.2 in
      let s = All-contains (IsSoundMark book) book.marks mark shown.sound.marks part.1 in
      let para = para_row s.paragraph (Contains-found mark.paragraph book.paragraphs s.paragraph s.found) in
      let own : s.paragraph.id ≡ mark.paragraph = id-found mark.paragraph book.paragraphs s.paragraph s.found in
      let note : mark.note ≡ chars row.note = ap (λ (r : MarkRow). r.note) is in
      -- the row of the mark, with the note in bytes
      let own_row : MarkRow = record (mark_row_of mark) { note = row.note } in
      let same : own_row ≡ row = ap (λ (r : MarkRow). record r { note = row.note }) is in
      let number : IsNumber (λ (other : MarkRow). other.id) most_marks rows.marks own_row.id =
      subst (IsNumber (λ (other : MarkRow). other.id) most_marks rows.marks) (sym (ap (λ (r : MarkRow). r.id) same))
      (IsNumber-key (λ other. other.id) rows.marks (length book.marks) mark-keys most_marks shown.sound.few_marks row c) in
      let span : IsSpanned rows.paras own_row = record {
        paragraph = para.0;
        there = para.1;
        named = para.2 ∙ ap pos own;
        start = pos_le 0 mark.start (omega arith);
        ordered = pos_le mark.start mark.end s.ordered;
        stop = subst (λ (print : List ℕ). pos mark.end ≤ℤ pos (length print)) (sym para.3) (pos_le mark.end (length (print_of s.paragraph)) s.within);
      } in
      let short : length (chars row.note) ≤ most_note = subst (λ (text : List ℕ). length text ≤ most_note) note s.short in
      let unbarred : IsUnbarred (chars row.note) = subst IsUnbarred note s.clean.unbarred in
      let sound : IsSoundMarkRow rows.paras rows.marks own_row = search (IsFlag-number, number, span, short, unbarred) in
      subst (IsSoundMarkRow rows.paras rows.marks) same sound

  pub sound-mark : (id : ℤ) → ¬ IsDamagedMark rows.paras rows.marks id
  sound-mark id (row, c, named, unsound) = unsound (sound-mark_row row c)
