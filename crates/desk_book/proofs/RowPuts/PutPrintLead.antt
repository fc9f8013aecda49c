-- What another print of a paragraph puts makes rows that show the book show the next.
use Rattle.std.proofs.Common.{◌≡◌, ◌⊎◌, ℕ, ◌+◌, ◌≤◌, ℤ, pos, true, false, List, [], ◌∷◌, length, map, get_or, Some, Contains, encode_utf8_all, refl, sym, ap, subst, ◌∙◌, arith, inl, inr}
use Rattle.std.specs.Char.{IsScalar}
use Rattle.std.specs.List.{All, flat_map}
use Rattle.std.specs.List.Sorted.{IsPermutation}
use Rattle.std.specs.Ordering.{int_eq}
use Rattle.std.specs.Prelude.{nat_eq}
use Rattle.std.proofs.Math.Seq.{take-length, take-append_seam}
use Rattle.std.proofs.lemmas.Bool.{cases_Bool, cond-true, cond-false, eqb-true, eq-eqb}
use Rattle.std.proofs.lemmas.List.{get_or-map, get_or_default}
use Rattle.std.proofs.lemmas.List.Elements.{All-cons, All-contains, All-contains_itself, All-filter, All-head, All-map, All-tail, All-weaker, filter_passes}
use Rattle.std.proofs.lemmas.List.FromFn.{get_or-range_with_len}
use Rattle.std.proofs.lemmas.List.Sorted.{IsPermutation-cons, IsPermutation-trans}
use Rattle.std.proofs.lemmas.Simd.{map-map}
use Rattle.louis_translate.specs.Braille.{braille}
use Rattle.louis_translate.specs.Tiling.{Tiles}
use Rattle.desk_memory.specs.declared.paragraphs.PrintChange.{PrintChange}
use Rattle.desk_parts.specs.declared.file_table.FileTable.TheVariants as tables
use Rattle.desk_model.specs.Book.{Book, Entry, Mark, Paragraph, paragraph_of}
use Rattle.desk_model.specs.Loans.{LeadTo, row_number}
use Rattle.desk_book.specs.ChangePuts.{cache_put, entry_row, print_put, span_put, version_put}
use Rattle.desk_book.specs.Changes.{ChangesPrint}
use Rattle.desk_parts.specs.FileRows.{EntryRows, FileRows, HasUtf8Texts, Named, Unnamed, entries_in, format_of, spelled, table_of}
use Rattle.desk_memory.specs.Histories.{entry_held}
use Rattle.desk_model.specs.Marks.{mark_moved_by}
use Rattle.desk_model.specs.ParagraphMarks.{marks_on}
use Rattle.desk_model.specs.Print.{corrected_print, print_of, with_entry}
use Rattle.desk_parts.specs.Puts.{PutRow, RowPut, put_by_key, with_entry_row, with_put, with_puts}
use Rattle.desk_parts.specs.Rows.{Mark as MarkRow, NamedCorr, Para, ParaCells}
use Rattle.desk_model.specs.Shows.{AreCached, Shows, book_row_of, entry_row_of, entry_rows_of, flag_number, mark_row_of, para_of}
use Rattle.desk_model.proofs.Rows.ParaRows.{paras_of}
use Rattle.desk_model.specs.Sound.{IsSound, IsSoundEntry, IsSoundMark, IsSoundParagraph}
use Rattle.desk_model.specs.NextBook.{next_with_entry}
use Rattle.desk_model.specs.BookTexts.{AreCharacters}
use Rattle.desk_model.proofs.Rows.BookRows.{HasCharacters, encoded-text, entry-text, history-characters, spelled-encoded}
use Rattle.desk_memory.proofs.Callers.{IsWithin-sound}
use Rattle.desk_model.proofs.Lists.Members.{Contains-behind, Contains-cases, Contains-here, Contains-map, Contains-none}
use Rattle.desk_model.proofs.Books.ParagraphLists.{found-changed}
use Rattle.desk_model.proofs.Books.PrintCharacters.{HasText, print-all}
use Rattle.desk_book.proofs.RowPuts.PutCells.{ForSome-map, cached-put, id-small}
use Rattle.desk_book.proofs.RowPuts.PutChanges.{Sets, cond-over, para_set, rows-changed, same_key, small_id, small_mark}
use Rattle.desk_book.proofs.RowPuts.PutPlaces.{map-agree}
use Rattle.desk_book.proofs.RowPuts.PutPrints.{Columns, columns_of, entries-more, entry-spelled, entry-texts, set_span, spanned, spanned-at, spanned-spelled, spanned-texts, spans-put}
use Rattle.desk_model.proofs.Rows.PutRows.{All-set_where, IsPermutation-set, number-small, versioned}
use Rattle.desk_model.proofs.Lists.Items.{here-at}
use Rattle.desk_model.proofs.Books.SoundBooks.{IsSoundParagraph-found, paragraph_of-own, paragraph_of-within, paragraphs-apart}
use Rattle.desk_model.proofs.Books.SoundEntries.{moved_on}

-- ---- marks with their numbers

-- marks of one number are one
one-mark : (book : Book) → IsSound book → (k m : Mark) → Contains book.marks k → Contains book.marks m → k.id ≡ m.id → k ≡ m
one-mark book sound k m (i, li, ai) (j, lj, aj) same =
    let ms : List Mark = book.marks in
    let n : ℕ = length ms in
    let first : k.id ≡ 1 + i =
    sym (get_or-map (λ (x : Mark). x.id) ms i k k.id li ∙ ap (λ (x : Mark). x.id) ai) ∙ (ap (λ (ids : List ℕ). get_or ids i k.id) sound.numbers ∙ get_or-range_with_len 1 n i k.id li) in
    let second : m.id ≡ 1 + j =
    sym (get_or-map (λ (x : Mark). x.id) ms j m m.id lj ∙ ap (λ (x : Mark). x.id) aj) ∙ (ap (λ (ids : List ℕ). get_or ids j m.id) sound.numbers ∙ get_or-range_with_len 1 n j m.id lj) in
    let at : i ≡ j = omega arith in
    sym ai ∙ (get_or_default ms i k m li ∙ (ap (λ (x : ℕ). get_or ms x m) at ∙ aj))

own-missed : (id : ℕ) (m : Mark) (ms : List Mark) → m.id ≤ 100000 → Contains ms m → nat_eq m.paragraph id ≡ true → All (λ (k : Mark). int_eq (pos m.id) (row_number k.id) ≡ false) (marks_on id ms) → ⊥
own-missed id m [] small c on misses = Contains-none m c
own-missed id m (k ∷ ms) small c on misses =
    elim (cases_Bool (nat_eq k.paragraph id)) [
      | inl t ↦
          let all : All (λ (x : Mark). int_eq (pos m.id) (row_number x.id) ≡ false) (k ∷ marks_on id ms) =
          subst (All (λ (x : Mark). int_eq (pos m.id) (row_number x.id) ≡ false)) (cond-true (nat_eq k.paragraph id) (k ∷ marks_on id ms) (marks_on id ms) t) misses in
          elim (Contains-cases k m ms c) [
            | inl same ↦
                let yes : int_eq (pos m.id) (row_number k.id) ≡ true = same_key m.id k.id (omega arith) ∙ eq-eqb m.id k.id (sym (ap (λ (x : Mark). x.id) same)) in
                let no = All-head (λ (x : Mark). int_eq (pos m.id) (row_number x.id) ≡ false) k (marks_on id ms) all in
                let both : true ≡ false = sym yes ∙ no in cc
            | inr rest ↦ own-missed id m ms small rest on (All-tail (λ (x : Mark). int_eq (pos m.id) (row_number x.id) ≡ false) k (marks_on id ms) all)
          ]
      | inr f ↦
          let all : All (λ (x : Mark). int_eq (pos m.id) (row_number x.id) ≡ false) (marks_on id ms) =
          subst (All (λ (x : Mark). int_eq (pos m.id) (row_number x.id) ≡ false)) (cond-false (nat_eq k.paragraph id) (k ∷ marks_on id ms) (marks_on id ms) f) misses in
          elim (Contains-cases k m ms c) [
            | inl same ↦ absurd (let t : nat_eq k.paragraph id ≡ true = ap (λ (x : Mark). nat_eq x.paragraph id) same ∙ on in let both : true ≡ false = sym t ∙ f in cc)
            | inr rest ↦ own-missed id m ms small rest on all
          ]
    ]

module _ (book : Book) (id : ℕ) (change : PrintChange) (sound : IsSound book) where
  abbrev entry : Entry
  entry = entry_held change.entry

  abbrev more : Paragraph → Paragraph
  more = with_entry entry

  abbrev move : Mark → Mark
  move = mark_moved_by change.start change.removed change.added

  abbrev next : Book
  next = next_with_entry book id entry move

  module _ (given : ChangesPrint book next id change) (after : IsSound next) where
    abbrev p : Paragraph
    p = given.paragraph

    -- ---- the entry, and the print

    sound-more : IsSoundParagraph next (more p)
    sound-more = IsSoundParagraph-found next after id (more p) (found-changed id more (λ q. refl) book.paragraphs p given.there)

    sound-entry : IsSoundEntry p.original p.history entry
    sound-entry =
        subst (λ (before : List Entry). IsSoundEntry p.original before entry) (take-append_seam p.history (entry ∷ []))
        (sound-more.history.entries (length p.history) entry (here-at p.history [] entry))

    short : length (corrected_print p.original p.history) ≤ 4000
    short =
        let s = IsSoundParagraph-found book sound id p given.there in
        subst (λ (h : List Entry). length (corrected_print p.original h) ≤ 4000) (take-length p.history) (s.history.short (length p.history) (omega arith))

    small : id ≤ 20000
    small = let within = (paragraph_of-within book sound id p given.there).1 in let most = sound.few_paragraphs in omega arith

    characters : AreCharacters change.print
    characters = subst AreCharacters (sym given.print) (print-all IsScalar (more p) sound-more.clean.characters
        (All-weaker HasCharacters (HasText IsScalar) entry-text (more p).history (history-characters next (more p) sound-more)))

    abbrev new_row : NamedCorr
    new_row = entry_row id (length p.history + 1) change.entry

    abbrev entry_put : RowPut
    entry_put = PutRow tables.NamedCorr new_row

    spelled-entry : spelled tables.NamedCorr new_row ≡ entry_row_of id (length p.history + 1, entry)
    spelled-entry = let few = given.few in entry-spelled p.original p.history id (length p.history + 1) small (omega arith) (omega arith) short change.entry sound-entry

    -- ---- the marks

    abbrev shown_at : Mark → Mark → MarkRow
    shown_at m v = set_span (pos v.start, pos v.end, flag_number v.touched) (mark_row_of m)

    row-moved : (m : Mark) → Contains book.marks m
        → spanned change.start change.removed change.added (marks_on id book.marks) (mark_row_of m) ≡ mark_row_of (moved_on id move m)
    row-moved m c =
        let v : Mark = moved_on id move m in
        let t : Columns = (pos v.start, pos v.end, flag_number v.touched) in
        let most = sound.few_marks in
        let lower = All-contains (λ (k : Mark). k.id ≤ length book.marks) book.marks m (small_mark book sound) c in
        let s = All-contains (IsSoundMark next) next.marks v after.marks (Contains-map (moved_on id move) book.marks m c) in
        let within = IsWithin-sound next v after s in
        let begins : row_number v.start ≡ pos v.start = number-small v.start (omega arith) in
        let ends : row_number v.end ≡ pos v.end = number-small v.end (omega arith) in
        spanned-at change.start change.removed change.added t (marks_on id book.marks) (mark_row_of m)
        (λ i d lt h.
        let k : Mark = get_or (marks_on id book.marks) i d in
        let on : nat_eq k.paragraph id ≡ true = filter_passes (λ (x : Mark). nat_eq x.paragraph id) book.marks i d lt in
        let among : Contains book.marks k = All-filter (λ (x : Mark). nat_eq x.paragraph id) (Contains book.marks) book.marks (All-contains_itself book.marks) i d lt in
        let same : m.id ≡ k.id = eqb-true m.id k.id (sym (same_key m.id k.id (omega arith)) ∙ h) in
        let one : k ≡ m = one-mark book sound k m among c (sym same) in
        let moves : v ≡ move k = cond-true (nat_eq m.paragraph id) (move m) m (ap (λ (x : Mark). nat_eq x.paragraph id) (sym one) ∙ on) ∙ ap move (sym one) in
        ap (λ (x : Mark). (row_number x.start, row_number x.end, flag_number x.touched)) (sym moves) ∙ (λ i. (begins i, ends i, flag_number v.touched)))
        (λ misses. stays m c misses (cases_Bool (nat_eq m.paragraph id)))
        ∙ shown (cases_Bool (nat_eq m.paragraph id))
      where
        shown : (nat_eq m.paragraph id ≡ true) ⊎ (nat_eq m.paragraph id ≡ false) → shown_at m (moved_on id move m) ≡ mark_row_of (moved_on id move m)
        shown (inl t) = let is : moved_on id move m ≡ move m = cond-true (nat_eq m.paragraph id) (move m) m t in ap (shown_at m) is ∙ ap mark_row_of (sym is)
        shown (inr f) = let is : moved_on id move m ≡ m = cond-false (nat_eq m.paragraph id) (move m) m f in ap (shown_at m) is ∙ ap mark_row_of (sym is)

        stays : (m : Mark) → Contains book.marks m → All (λ (k : Mark). int_eq (pos m.id) (row_number k.id) ≡ false) (marks_on id book.marks)
            → (nat_eq m.paragraph id ≡ true) ⊎ (nat_eq m.paragraph id ≡ false)
            → columns_of (mark_row_of m) ≡ (let v : Mark = moved_on id move m in (pos v.start, pos v.end, flag_number v.touched))
        stays m c misses (inl t) =
            let most = sound.few_marks in
            let lower = All-contains (λ (k : Mark). k.id ≤ length book.marks) book.marks m (small_mark book sound) c in
            absurd (own-missed id m book.marks (omega arith) c t misses)
        stays m c misses (inr f) =
            let is : moved_on id move m ≡ m = cond-false (nat_eq m.paragraph id) (move m) m f in
            ap (λ (v : Mark). (pos v.start, pos v.end, flag_number v.touched)) (sym is)

    rows-moved : map (spanned change.start change.removed change.added (marks_on id book.marks)) (map mark_row_of book.marks) ≡ map mark_row_of next.marks
    rows-moved =
        map-map (spanned change.start change.removed change.added (marks_on id book.marks)) mark_row_of book.marks
        ∙ (map-agree (λ m. spanned change.start change.removed change.added (marks_on id book.marks) (mark_row_of m)) (λ m. mark_row_of (moved_on id move m)) book.marks
        (All-weaker (Contains book.marks) (λ m. spanned change.start change.removed change.added (marks_on id book.marks) (mark_row_of m) ≡ mark_row_of (moved_on id move m)) row-moved book.marks (All-contains_itself book.marks))
        ∙ sym (map-map mark_row_of (moved_on id move) book.marks))

    -- ---- the braille

    cached-all : (rows : List ParaCells) → AreCached book rows → AreCached next (put_by_key (λ c. int_eq c.para (pos id)) (record { para = pos id; cells = change.cells }) rows)
    cached-all = cached-put book next.version next.marks id more p sound given.there (λ q. refl) change.cells (
      given.meaning,
      given.cells.0,
      record { text = given.source; found = given.found; means = given.means; tiles = subst (λ (t : List ℕ). Tiles given.meaning t given.cells.0) given.print given.cells.1 },
      given.cells.2 ∙ ap (λ (t : List ℕ). braille given.meaning t given.cells.0) given.print,
    )

    -- ---- the rows

    abbrev print_row : Para → Para
    print_row r = record r { print = change.print }

    abbrev print_bytes : Para → Para
    print_bytes r = record r { print = encode_utf8_all change.print }

    spelled-set : (r : Para) → spelled tables.Para (para_set id print_bytes r) ≡ para_set id print_row (spelled tables.Para r)
    spelled-set r =
        cond-over (spelled tables.Para) (int_eq r.id (row_number id)) (print_bytes r) r (print_row (spelled tables.Para r))
        (λ e i. record (spelled tables.Para r) { print = spelled-encoded change.print characters i })

    sets : (q : Paragraph) → Contains book.paragraphs q → Sets id more print_row q
    sets q c = (
      small_id book sound q c,
      λ e place.
          let found : Some q ≡ Some p = sym (paragraph_of-own book sound q c) ∙ (ap (paragraph_of book) e ∙ given.there) in
          let one : p ≡ q = cc in
          let print : change.print ≡ print_of (more q) = given.print ∙ ap (λ (x : Paragraph). print_of (more x)) one in
          λ i. record (para_of (place, q)) { print = print i },
    )

    module _ (rows : FileRows) (shows : Shows rows book) (corrs : List NamedCorr) (named : rows.entries ≡ Named corrs) where
      abbrev at : FileRows
      at = record rows {
        books = (with_put (version_put next.version) rows).books;
        paras = map (para_set id print_bytes) rows.paras;
        entries = Named (new_row ∷ corrs);
        caches = (with_put (PutRow tables.Cache (record { para = pos id; cells = change.cells })) rows).caches;
      }

      had : IsPermutation (map (spelled tables.NamedCorr) corrs) (flat_map entry_rows_of book.paragraphs)
      had = subst (λ (es : EntryRows). IsPermutation (map (spelled tables.NamedCorr) (entries_in es)) (flat_map entry_rows_of book.paragraphs)) named shows.entries

      shown-all : Shows (record at { marks = map (spanned change.start change.removed change.added (marks_on id book.marks)) rows.marks }) next
      shown-all = record {
        sound = after;
        texts = record {
          tabs = shows.texts.tabs;
          paras = All-set_where (λ (r : Para). int_eq r.id (row_number id)) print_bytes (HasUtf8Texts tables.Para) rows.paras (λ r texts. (texts.0, texts.1, encoded-text change.print characters)) shows.texts.paras;
          entries = All-cons (HasUtf8Texts tables.NamedCorr) new_row corrs (let few = given.few in entry-texts p.original p.history id (length p.history + 1) small (omega arith) (omega arith) short change.entry sound-entry)
              (subst (λ (es : EntryRows). All (HasUtf8Texts tables.NamedCorr) (entries_in es)) named shows.texts.entries);
          marks = All-map (HasUtf8Texts tables.Mark) (spanned change.start change.removed change.added (marks_on id book.marks)) rows.marks
              (All-weaker (HasUtf8Texts tables.Mark) (λ m. HasUtf8Texts tables.Mark (spanned change.start change.removed change.added (marks_on id book.marks) m))
              (spanned-texts change.start change.removed change.added (marks_on id book.marks)) rows.marks shows.texts.marks);
        };
        row = versioned 2 book.version next.version rows.books after.version (subst (λ (es : EntryRows). rows.books ≡ book_row_of (format_of es) book.version ∷ []) named shows.row);
        tables = shows.tables;
        paragraphs = subst (IsPermutation (map (spelled tables.Para) (map (para_set id print_bytes) rows.paras)))
            (rows-changed id more print_row 1 book.paragraphs (All-weaker (Contains book.paragraphs) (Sets id more print_row) sets book.paragraphs (All-contains_itself book.paragraphs)))
            (IsPermutation-set (spelled tables.Para) (para_set id print_bytes) (para_set id print_row) spelled-set rows.paras (paras_of book.paragraphs) shows.paragraphs);
        entries =
            subst (λ (e : NamedCorr). IsPermutation (e ∷ map (spelled tables.NamedCorr) corrs) (flat_map entry_rows_of next.paragraphs)) (sym spelled-entry)
            (IsPermutation-trans (entry_row_of id (length p.history + 1, entry) ∷ map (spelled tables.NamedCorr) corrs) (entry_row_of id (length p.history + 1, entry) ∷ flat_map entry_rows_of book.paragraphs) (flat_map entry_rows_of next.paragraphs)
            (IsPermutation-cons (entry_row_of id (length p.history + 1, entry)) (map (spelled tables.NamedCorr) corrs) (flat_map entry_rows_of book.paragraphs) had)
            (entries-more id entry p book.paragraphs (paragraphs-apart book sound) given.there));
        marks = subst (IsPermutation (map (spelled tables.Mark) (map (spanned change.start change.removed change.added (marks_on id book.marks)) rows.marks))) rows-moved
            (IsPermutation-set (spelled tables.Mark) (spanned change.start change.removed change.added (marks_on id book.marks)) (spanned change.start change.removed change.added (marks_on id book.marks))
            (spanned-spelled change.start change.removed change.added (marks_on id book.marks)) rows.marks (map mark_row_of book.marks) shows.marks);
        caches = ForSome-map (put_by_key (λ c. int_eq c.para (pos id)) (record { para = pos id; cells = change.cells })) (AreCached book) (AreCached next) rows.caches shows.caches cached-all;
      }

    abbrev first_puts : ℤ → FileRows → FileRows
    first_puts key rows =
        with_put (PutRow tables.Cache (record { para = key; cells = change.cells })) (with_put (print_put id change.print) (with_put entry_put (with_put (version_put next.version) rows)))

    leads : (es : EntryRows) (rows : FileRows) → rows.entries ≡ es → table_of es ≡ tables.NamedCorr → Shows rows book
        → Shows (with_puts (map (span_put change.start change.removed change.added) (marks_on id book.marks)) (first_puts (pos id) rows)) next
    leads (Unnamed corrs) rows e table shows = absurd (cc)
    leads (Named corrs) rows e table shows =
        let entries : with_entry_row new_row rows.entries ≡ Named (new_row ∷ corrs) = ap (with_entry_row new_row) e in
        subst (λ (r : FileRows). Shows r next) (sym (spans-put change.start change.removed change.added (marks_on id book.marks) (first_puts (pos id) rows)))
        (subst (λ (es : EntryRows). Shows (record (first_puts (pos id) rows) { entries = es; marks = map (spanned change.start change.removed change.added (marks_on id book.marks)) rows.marks }) next) (sym entries) (shown-all rows shows corrs e))

    pub print-lead : LeadTo book (version_put next.version ∷ entry_put ∷ print_put id change.print ∷ cache_put id change.cells
        ∷ map (span_put change.start change.removed change.added) (marks_on id book.marks)) next
    print-lead rows shows has =
        let rest : List RowPut = print_put id change.print ∷ cache_put id change.cells
        ∷ map (span_put change.start change.removed change.added) (marks_on id book.marks) in
        let table : table_of rows.entries ≡ tables.NamedCorr =
        has new_row (Contains-behind (version_put next.version) entry_put (entry_put ∷ rest) (Contains-here entry_put rest)) in
        subst (λ (key : ℤ). Shows (with_puts (map (span_put change.start change.removed change.added) (marks_on id book.marks)) (first_puts key rows)) next)
        (sym (id-small book id p sound given.there)) (leads rows.entries rows refl table shows)
