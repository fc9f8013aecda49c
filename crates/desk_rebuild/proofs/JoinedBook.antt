-- What is read of the tables of a book's file is, joined, the book that its rows show.
use Rattle.std.proofs.Common.{◌≡◌, ℕ, ◌+◌, ◌-◌, ℤ, pos, nat_abs, List, [], ◌∷◌, map, length, Some, Contains, refl, sym, ap, subst, ◌∙◌, arith, nat_cmp, nat_eq, slice_get, chars}
use Rattle.std.specs.Cmp.Lexicographic.{pointwise, slice_cmp}
use Rattle.std.specs.List.{All, enumerate_from, flat_map, range_with_len}
use Rattle.std.specs.List.Sorted.{IsPermutation, IsStrictlySortedBy}
use Rattle.std.specs.Map.{lookup}
use Rattle.std.proofs.lemmas.List.Elements.{All-cons, All-contains, All-head, All-nil, All-tail}
use Rattle.std.proofs.lemmas.List.Sorted.{length_permutation}
use Rattle.std.proofs.lemmas.Simd.{map-map}
use Rattle.louis_table.specs.Meaning.{Meaning}
use Rattle.desk_memory.specs.declared.marks.HeldMark.{HeldMark}
use Rattle.desk_memory.specs.declared.paragraphs.Paragraph.{Paragraph as HeldParagraph}
use Rattle.desk_parts.specs.declared.file_table.FileTable.{FileTable}
use Rattle.desk_parts.specs.declared.file_table.FileTable.TheVariants as file
use Rattle.desk_parts.specs.declared.rows.BookRow.{BookRow}
use Rattle.desk_memory.specs.declared.tables.BookTable.{BookTable}
use Rattle.desk_memory.specs.Braille.{AreCellsOf}
use Rattle.desk_model.specs.Damage.{HasItsTables, HasSoundEntries, IsDamaged, history_of}
use Rattle.desk_parts.specs.FileRows.{AreTexts, FileRows, entries_in, spelled}
use Rattle.desk_memory.specs.Histories.{HaveTaken, entries_held}
use Rattle.desk_rebuild.specs.Rows.{AreInPlaces, AreMarksOf, AreOf, AreTables, HasCells, HasHeld, HasHistory, HaveMarks}
use Rattle.desk_memory.specs.Held.{HasMarks, HeldParagraphs, HeldTables, IsHeld, IsHeldParagraph, book_held, mark_held, marks_held, paragraph_held, paragraph_with_id}
use Rattle.desk_memory.specs.HeldMarks.{indexes_on}
use Rattle.desk_model.specs.Print.{corrected_print}
use Rattle.desk_parts.specs.Rows.{Para}
use Rattle.desk_model.specs.Shows.{Shows, tab_of}
use Rattle.desk_memory.proofs.Callers.{paragraph_with_id-cons}
use Rattle.desk_model.proofs.Rows.OneBook.{flag_back, marks_same, number, style_back, tables_same, to_flag, to_style}
use Rattle.desk_model.proofs.Lists.RowNumbers.{numbers, same_number}
use Rattle.desk_model.proofs.Damage.UndamagedBook as whole
use Rattle.desk_model.proofs.Damage.UndamagedRows.{sound-book}
use Rattle.desk_rebuild.proofs.ParaRows.{table-found}
use Rattle.std.proofs.lemmas.Option.{same_Some}

-- the ids of held marks
marks-numbered : (n : ℕ) (marks : List HeldMark) → map (λ mark. mark.id) (map mark_held (enumerate_from n marks)) ≡ range_with_len n (length (map mark_held (enumerate_from n marks)))
marks-numbered n [] = refl
marks-numbered n (mark ∷ marks) = ap (λ ids. n ∷ ids) (marks-numbered (n + 1) marks)

module _ (rows : FileRows) (texts : AreTexts rows) (its : HasItsTables rows) (none : (table : FileTable) (id : ℤ) → ¬ IsDamaged rows table id)
    (version : ℕ) (is_version : (row : BookRow) → rows.books ≡ row ∷ [] → row.version ≡ pos version)
    (tables : HeldTables) (are_tables : AreTables rows.tabs tables)
    (items : List HeldParagraph) (order : List ℕ) (of : AreOf rows.paras items) (places : AreInPlaces rows.paras order)
    (histories : All (HasHistory (entries_in rows.entries) items) rows.paras) (cells : All (HasCells rows.tabs items) rows.paras)
    (marks : List HeldMark) (are_marks : AreMarksOf rows.marks marks) (have_marks : HaveMarks marks items) where
  -- ---- the rows of each paragraph

  abbrev held_of : (row : Para) → Contains rows.paras row → HasHeld items row
  held_of row c = All-contains (HasHeld items) rows.paras row of.each c

  abbrev history_at : (row : Para) → Contains rows.paras row → HasHistory (entries_in rows.entries) items row
  history_at row c = All-contains (HasHistory (entries_in rows.entries) items) rows.paras row histories c

  abbrev cells_at : (row : Para) → Contains rows.paras row → HasCells rows.tabs items row
  cells_at row c = All-contains (HasCells rows.tabs items) rows.paras row cells c

  history-of_it : (row : Para) (c : Contains rows.paras row) → (history_at row c).held ≡ (held_of row c).held
  history-of_it row c = same_Some (history_at row c).held (held_of row c).held (sym (history_at row c).at ∙ (held_of row c).at)

  cells-of_it : (row : Para) (c : Contains rows.paras row) → (cells_at row c).held ≡ (held_of row c).held
  cells-of_it row c = same_Some (cells_at row c).held (held_of row c).held (sym (cells_at row c).at ∙ (held_of row c).at)

  print-of_it : (row : Para) (c : Contains rows.paras row) → corrected_print (chars row.original) (history_of (history_at row c).sorted) ≡ chars row.print
  print-of_it row c =
      let k = held_of row c in
      let h = history_at row c in
      let same = history-of_it row c in
      let original : h.held.original ≡ chars row.original = ap (λ (x : HeldParagraph). x.original) same ∙ k.of.original in
      let print : h.held.print ≡ chars row.print = ap (λ (x : HeldParagraph). x.print) same ∙ k.of.print in
      ap (λ o. corrected_print o (history_of h.sorted)) (sym original) ∙ (h.print ∙ print)

  abbrev history_for : (row : Para) → Contains rows.paras row → HasSoundEntries (entries_in rows.entries) row
  history_for row c =
      let h = history_at row c in
      record { sorted = h.sorted; its_own = h.its_own; each = h.each; print = print-of_it row c }

  abbrev by_place : (sorted : List Para) × IsPermutation rows.paras sorted × (numbers 1 (length rows.paras) ≡ map (λ row. row.place) sorted)
  by_place = (places.placed, places.same, ap (numbers 1) (sym (length_permutation _ _ places.same)) ∙ sym places.places)

  -- ---- the parts of the book

  paragraph-is : (row : Para) (c : Contains rows.paras row) (id : ℕ) → row.id ≡ pos id
      → paragraph_held (id, (held_of row c).held) ≡ whole.paragraph_for rows texts its none by_place history_for row c
  paragraph-is row c id is =
      let k = held_of row c in
      let h = history_at row c in
      let history : entries_held k.held.history ≡ history_of h.sorted = ap (λ (x : HeldParagraph). entries_held x.history) (sym (history-of_it row c)) ∙ h.history in
      let style = sym (style_back k.held.style) ∙ ap to_style k.of.style in
      let struck = sym (flag_back k.held.struck) ∙ ap to_flag k.of.struck in
      λ i. record {
        id = (ap number (sym is)) i;
        table = k.of.table i;
        original = k.of.original i;
        history = history i;
        style = style i;
        begins_volume = (sym (flag_back k.held.begins_volume) ∙ ap to_flag k.of.volume) i;
        struck = struck i;
      }

  at-id : (row : Para) (c : Contains rows.paras row) (id : ℕ) → row.id ≡ pos id → slice_get items (id - 1) ≡ Some (held_of row c).held
  at-id row c id is = ap (λ (z : ℤ). slice_get items (nat_abs z - 1)) (sym is) ∙ (held_of row c).at

  paragraphs-are : (ps : List Para) (all : All (Contains rows.paras) ps) (ids : List ℕ) → map (λ row. row.id) ps ≡ map pos ids
      → map paragraph_held (flat_map (paragraph_with_id items) ids) ≡ whole.made rows texts its none by_place history_for ps all
  paragraphs-are [] all [] is = refl
  paragraphs-are (p ∷ ps) all (id ∷ ids) is =
      let first : p.id ≡ pos id = cc in
      let rest : map (λ (row : Para). row.id) ps ≡ map pos ids = cc in
      let c = All-head (Contains rows.paras) p ps all in
      ap (map paragraph_held) (paragraph_with_id-cons items id ids (held_of p c).held (at-id p c id first))
      ∙ (λ i. paragraph-is p c id first i ∷ paragraphs-are ps (All-tail (Contains rows.paras) p ps all) ids rest i)
  paragraphs-are ps all ids is = absurd (cc)

  abbrev texts_held : List (List ℕ × List ℕ)
  texts_held = map (λ entry. (entry.0, entry.1.text)) tables

  tables-are : whole.tables rows texts its none ≡ texts_held
  tables-are =
      let text_of : List ℕ × BookTable → List ℕ × List ℕ = λ entry. (entry.0, entry.1.text) in
      tables_same (whole.tables rows texts its none) texts_held (map (spelled file.Tab) rows.tabs) (whole.names-sorted rows texts its none)
      (subst (IsStrictlySortedBy (slice_cmp nat_cmp)) (sym (map-map (λ (entry : List ℕ × List ℕ). entry.0) text_of tables)) are_tables.sorted)
      (whole.shown-tables rows texts its none)
      (subst (IsPermutation (map (spelled file.Tab) rows.tabs)) (sym (map-map tab_of text_of tables)) are_tables.rows)

  marks-are : whole.marks rows texts its none by_place history_for ≡ marks_held marks
  marks-are =
      marks_same (whole.marks rows texts its none by_place history_for) (marks_held marks) (map (spelled file.Mark) rows.marks)
      (whole.mark-numbers rows texts its none by_place history_for) (marks-numbered 1 marks) (whole.shown-marks rows texts its none by_place history_for) are_marks

  version-is : whole.version rows texts its none ≡ version
  version-is = let head = sound-book rows.books (λ id. none file.Book id) in ap number (is_version head.0 head.1)

  abbrev paragraphs : HeldParagraphs
  paragraphs = flat_map (paragraph_with_id items) order

  book-is : whole.book rows texts its none by_place history_for ≡ book_held version tables paragraphs marks
  book-is =
      let same = sym (paragraphs-are places.placed (whole.all-in rows texts its none by_place history_for) order places.ids) in
      λ i. record { version = version-is i; tables = tables-are i; paragraphs = same i; marks = marks-are i }

  pub shown : Shows rows (book_held version tables paragraphs marks)
  shown = subst (Shows rows) book-is (whole.shows rows texts its none by_place history_for)

  -- ---- what is held beside the book

  is-held : (row : Para) (c : Contains rows.paras row) (id : ℕ) → row.id ≡ pos id → IsHeldParagraph tables (id, (held_of row c).held)
  is-held row c id is =
      let k = held_of row c in
      let h = history_at row c in
      let s = cells_at row c in
      let table = table-found rows.tabs tables are_tables row s.meaning s.table in
      let own = subst (λ (x : HeldParagraph). AreCellsOf s.meaning x.print x.cells) (cells-of_it row c) s.cells in
      let braille = subst (λ (m : Meaning). AreCellsOf m k.held.print k.held.cells) (sym table.2) own in
      record {
        print = subst (λ (x : HeldParagraph). x.print ≡ corrected_print x.original (entries_held x.history)) (history-of_it row c)
            (sym h.print ∙ ap (corrected_print h.held.original) (sym h.history));
        table = table.0;
        found = ap (λ name. lookup (pointwise nat_eq name) tables) k.of.table ∙ table.1;
        choices = braille.0;
        tiles = braille.1;
        cells = braille.2;
        taken = subst (λ (x : HeldParagraph). HaveTaken x.original x.history) (history-of_it row c) h.taken;
      }

  has-marks : (row : Para) (c : Contains rows.paras row) (id : ℕ) → row.id ≡ pos id → HasMarks marks (id, (held_of row c).held)
  has-marks row c id is =
      let key = whole.key-of rows texts its none row c in
      let next : id - 1 + 1 ≡ id = omega (arith, same_number id key.0 (sym is ∙ key.1), key.2) in
      have_marks (id - 1) (held_of row c).held (at-id row c id is) ∙ ap (λ n. indexes_on n marks) next

  -- what is so of the held paragraph of each row
  each-held : (P : ℕ × HeldParagraph → Type 0) → ((row : Para) (c : Contains rows.paras row) (id : ℕ) → row.id ≡ pos id → P (id, (held_of row c).held))
      → (ps : List Para) (all : All (Contains rows.paras) ps) (ids : List ℕ) → map (λ row. row.id) ps ≡ map pos ids → All P (flat_map (paragraph_with_id items) ids)
  each-held P each [] all [] is = All-nil P
  each-held P each (p ∷ ps) all (id ∷ ids) is =
      let first : p.id ≡ pos id = cc in
      let rest : map (λ (row : Para). row.id) ps ≡ map pos ids = cc in
      let c = All-head (Contains rows.paras) p ps all in
      subst (All P) (sym (paragraph_with_id-cons items id ids (held_of p c).held (at-id p c id first)))
      (All-cons P (id, (held_of p c).held) (flat_map (paragraph_with_id items) ids) (each p c id first)
      (each-held P each ps (All-tail (Contains rows.paras) p ps all) ids rest))
  each-held P each ps all ids is = absurd (cc)

  pub is_held : IsHeld version tables paragraphs marks
  is_held =
      let all = whole.all-in rows texts its none by_place history_for in
      record {
        sound = shown.sound;
        means = are_tables.means;
        translated = each-held (IsHeldParagraph tables) is-held places.placed all order places.ids;
        marked = each-held (HasMarks marks) has-marks places.placed all order places.ids;
      }
