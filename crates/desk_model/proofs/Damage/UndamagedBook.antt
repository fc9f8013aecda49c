-- Rows without damage show a book.
use Rattle.std.proofs.Common.{◌≡◌, ℕ, ◌+◌, ◌<◌, ◌≤◌, ℤ, pos, ◌≤ℤ◌, true, List, [], ◌∷◌, map, filter, length, take, get_or, Some, Contains, refl, sym, ap, subst, ◌∙◌, arith, inl, inr, int_eq, nat_cmp, IsUtf8, nat_eq, slice_get, chars}
use Rattle.std.specs.Cmp.Lexicographic.{pointwise, slice_cmp}
use Rattle.std.specs.List.{All, enumerate_from, flat_map, range_with_len}
use Rattle.std.specs.List.Sorted.{IsPermutation, IsStrictlySortedBy}
use Rattle.std.specs.Cmp.{signed_Decides}
use Rattle.std.specs.Map.{lookup}
use Rattle.std.proofs.lemmas.List.{length-map, map-append}
use Rattle.std.proofs.lemmas.List.Elements.{All-contains, All-contains_itself, All-cons, All-filter, All-head, All-map, All-nil, All-tail, All-weaker, filter_passes}
use Rattle.std.proofs.lemmas.List.FromFn.{length-range_with_len}
use Rattle.std.proofs.lemmas.List.Sorted.{All-permutation, Contains-permutation, IsPermutation-append, IsPermutation-map, IsPermutation-refl, IsPermutation-sym, IsPermutation-trans, length_permutation}
use Rattle.std.proofs.lemmas.Option.{slice_get-get_or}
use Rattle.std.proofs.lemmas.Simd.{map-map}
use Rattle.std.proofs.lemmas.Str.{encodes-chars}
use Rattle.std.proofs.lemmas.Str.Ascii.{IsAscii-from_all, encodes-IsAscii}
use Rattle.louis_translate.specs.Braille.{braille}
use Rattle.louis_translate.specs.Position.{AreDefined}
use Rattle.louis_translate.specs.Tiling.{Tiles}
use Rattle.louis_table.specs.Meaning.{Meaning}
use Rattle.desk_parts.specs.declared.file_table.FileTable.{FileTable}
use Rattle.desk_parts.specs.declared.file_table.FileTable.TheVariants as file
use Rattle.desk_parts.specs.declared.rows.BookRow.{BookRow}
use Rattle.desk_model.specs.Book.{Book, Mark, Paragraph, paragraph_of, text_of}
use Rattle.desk_model.specs.Damage.{HasItsTables, HasSoundEntries, IsDamaged, IsDamagedCache, IsDamagedEntries, IsItsTable, IsSoundBookRow, IsSoundCacheRow, IsSoundMarkRow, IsSoundParaRow, history_of}
use Rattle.desk_parts.specs.FileRows.{AreTexts, EntryRows, FileRows, HasUtf8Texts, Named, Unnamed, entries_in, format_of, spelled, table_of}
use Rattle.desk_model.specs.Limits.{most_marks, most_paragraphs, most_version}
use Rattle.desk_model.specs.ValidNames.{IsTableName, is_name_character}
use Rattle.desk_model.specs.Print.{corrected_print, print_of}
use Rattle.desk_parts.specs.Rows.{Mark as MarkRow, NamedCorr, Para, ParaCells, Tab}
use Rattle.desk_model.specs.Shows.{AreCached, IsCached, Shows, book_row_of, entry_rows_of, mark_row_of, para_of, tab_of}
use Rattle.desk_model.proofs.Rows.ParaRows.{paras_of}
use Rattle.desk_model.specs.Sound.{IsSound, IsSoundMark, IsSoundParagraph, IsSoundTable}
use Rattle.desk_model.proofs.Rows.BookRows.{name_low}
use Rattle.desk_model.proofs.Lists.Items.{Contains-there}
use Rattle.desk_model.proofs.Lists.NumberedRows.{AreUpTo, all-numbers, few-rows, in_order, keys-numbers, number-of, once-keys, once-permutation, pigeonholes}
use Rattle.desk_model.proofs.Lists.Members.{Contains-behind, Contains-cases, Contains-here, Contains-map, Contains-none}
use Rattle.desk_model.proofs.Lists.Numbering.{IsDistinct-numbers}
use Rattle.desk_model.proofs.Rows.OneBook.{number, to_paragraph, numbers_back}
use Rattle.desk_model.proofs.Books.ParagraphLists.{AreApart, found-own, ids_of}
use Rattle.desk_model.proofs.Lists.RowGroups.{all-grouped, group}
use Rattle.desk_model.proofs.Lists.RowNumbers.{Contains-from_map, key-number, number-key, numbers, pos_le}
use Rattle.desk_model.proofs.Rows.RowParts.{characters-of, entry-row, flag-back, history-rows, mark-back, mark_of_row, number-back, sound-history, style-back}
use Rattle.desk_model.proofs.Rows.SortedTabs.{names-strict}
use Rattle.desk_model.proofs.Lists.Stable.{at_least, le_from}
use Rattle.desk_model.proofs.Lists.TableEntries.{text-there}
use Rattle.desk_model.proofs.Damage.UndamagedEntries.{entry-para, sound-entries}
use Rattle.desk_model.proofs.Damage.UndamagedRows.{each-cached, few-tabs, names-apart, sorted_tabs, sound-book, sound-cache, sound-mark, sound-para, sound-tab, tabs-moved, tabs-rise, by_place, id-number, ids-numbered}

-- ---- lists

map-same : {X Y : Type 0} (f g : X → Y) (xs : List X) → ((x : X) → Contains xs x → f x ≡ g x) → map f xs ≡ map g xs
map-same f g [] same = refl
map-same f g (x ∷ xs) same = λ i. same x (Contains-here x xs) i ∷ map-same f g xs (λ y c. same y (Contains-behind x y xs c)) i

-- a name of a table is its own UTF-8
plain-name : (bytes : List ℕ) → IsUtf8 bytes → IsTableName (chars bytes) → bytes ≡ chars bytes
plain-name bytes utf8 named =
    sym (encodes-chars bytes utf8)
    ∙ encodes-IsAscii (chars bytes) (IsAscii-from_all (chars bytes) (All-weaker (λ c. is_name_character c ≡ true) (λ c. c < 128) name_low (chars bytes) named.characters))

module _ (rows : FileRows) (texts : AreTexts rows) (its : HasItsTables rows) (none : (table : FileTable) (id : ℤ) → ¬ IsDamaged rows table id) where
  abbrev pub entries : List NamedCorr
  entries = entries_in rows.entries

  -- ---- book

  abbrev head : (row : BookRow) × (rows.books ≡ row ∷ []) × IsSoundBookRow row
  head = sound-book rows.books (λ id. none file.Book id)

  abbrev pub version : ℕ
  version = number head.0.version

  few-versions : version ≤ most_version
  few-versions =
      let within = head.2.version in
      le_from version most_version (subst (λ (z : ℤ). z ≤ℤ pos most_version) (sym (number-back head.0.version within.0)) within.1)

  shown-head : rows.books ≡ book_row_of (format_of rows.entries) version ∷ []
  shown-head =
      let format = its head.0 head.1 head.2.format in
      head.1 ∙ (λ i. record { id = head.2.id i; format = format i; version = sym (number-back head.0.version head.2.version.0) i } ∷ [])

  -- ---- tables

  pub no-tab : (id : ℤ) → ¬ IsDamaged rows file.Tab id
  no-tab = none file.Tab

  abbrev pub tabs : List Tab
  tabs = sorted_tabs rows.tabs no-tab

  abbrev pub table_for : Tab → List ℕ × List ℕ
  table_for t = (chars t.name, t.body)

  abbrev pub tables : List (List ℕ × List ℕ)
  tables = map table_for tabs

  tab-text : (t : Tab) → Contains tabs t → HasUtf8Texts file.Tab t
  tab-text t c = All-contains (HasUtf8Texts file.Tab) rows.tabs t texts.tabs (Contains-permutation _ _ t (IsPermutation-sym _ _ (tabs-moved rows.tabs no-tab)) c)

  sound-tables : All IsSoundTable tables
  sound-tables =
      All-map IsSoundTable table_for tabs (λ k d within.
      let s = sound-tab rows.tabs no-tab k (get_or tabs k d) (slice_get-get_or tabs k d within) in
      record { named = s.named; meaning = s.meaning; means = s.means })

  pub names-sorted : IsStrictlySortedBy (slice_cmp nat_cmp) (map (λ entry. entry.0) tables)
  names-sorted =
      let plain : map (λ (t : Tab). t.name) tabs ≡ map (λ t. chars t.name) tabs =
      map-same (λ (t : Tab). t.name) (λ t. chars t.name) tabs (λ t c.
      let s = All-contains IsSoundTable tables (table_for t) sound-tables (Contains-map table_for tabs t c) in
      plain-name t.name (tab-text t c) s.named) in
      subst (IsStrictlySortedBy (slice_cmp nat_cmp)) (plain ∙ sym (map-map (λ (e : List ℕ × List ℕ). e.0) table_for tabs))
      (names-strict tabs (tabs-rise rows.tabs no-tab) (names-apart rows.tabs no-tab))

  pub shown-tables : IsPermutation (map (spelled file.Tab) rows.tabs) (map tab_of tables)
  shown-tables =
      subst (IsPermutation (map (spelled file.Tab) rows.tabs)) (sym (map-map tab_of table_for tabs))
      (IsPermutation-map (spelled file.Tab) _ _ (tabs-moved rows.tabs no-tab))

  -- the text of a table that a row names
  pub text-found : (para : Para) (meaning : Meaning) → (table : IsItsTable rows.tabs para meaning) → lookup (pointwise nat_eq (chars para.tab)) tables ≡ Some table.table.body
  text-found para meaning table =
      text-there (chars para.tab) table.table.body tables names-sorted
      (subst (λ name. Contains tables (chars name, table.table.body)) table.named
      (Contains-map table_for tabs table.table (Contains-permutation _ _ table.table (tabs-moved rows.tabs no-tab) table.there)))

  -- ---- paragraphs

  sound-row : (para : Para) → Contains rows.paras para → IsSoundParaRow rows.tabs rows.paras para
  sound-row = sound-para rows.tabs rows.paras (λ id. none file.Para id)

  abbrev pub count : ℕ
  count = length rows.paras

  abbrev pub id_of : Para → ℤ
  id_of para = para.id

  abbrev pub place_of : Para → ℤ
  place_of para = para.place

  para-keys : IsPermutation (map id_of rows.paras) (numbers 1 count)
  para-keys = ids-numbered rows.tabs rows.paras (λ id. none file.Para id)

  pub key-of : (para : Para) → Contains rows.paras para → (k : ℕ) × (para.id ≡ pos k) × (1 ≤ k) × (k ≤ most_paragraphs)
  key-of = id-number rows.tabs rows.paras (λ id. none file.Para id)

  abbrev own_places : (sorted : List Para) × IsPermutation rows.paras sorted × (numbers 1 count ≡ map place_of sorted)
  own_places = by_place rows.tabs rows.paras (λ id. none file.Para id)

  -- ---- histories

  no-entries : (id : ℤ) → ¬ IsDamagedEntries rows.paras entries id
  no-entries id damaged = by rows.entries refl
    where
      by : (kept : EntryRows) → rows.entries ≡ kept → ⊥
      by (Unnamed corrs) is = none file.Corr id (ap table_of is, damaged)
      by (Named corrs) is = none file.NamedCorr id (ap table_of is, damaged)

  own_history : (para : Para) → Contains rows.paras para → HasSoundEntries entries para
  own_history para c = sound-entries rows.paras entries no-entries para c

  -- of rows in the order of their places, and entries in the order of their numbers
  module _ (by_place : (sorted : List Para) × IsPermutation rows.paras sorted × (numbers 1 count ≡ map place_of sorted))
      (history_for : (para : Para) → Contains rows.paras para → HasSoundEntries entries para) where
    abbrev pub paras : List Para
    paras = by_place.0

    count-paras : length paras ≡ count
    count-paras = length_permutation _ _ by_place.1

    abbrev pub paragraph_for : (para : Para) → Contains rows.paras para → Paragraph
    paragraph_for para c = to_paragraph (spelled file.Para para) (history_of (history_for para c).sorted)

    abbrev pub made : (ps : List Para) → All (Contains rows.paras) ps → List Paragraph
    made [] all = []
    made (p ∷ ps) all = paragraph_for p (All-head (Contains rows.paras) p ps all) ∷ made ps (All-tail (Contains rows.paras) p ps all)

    pub all-in : All (Contains rows.paras) paras
    all-in = All-permutation (Contains rows.paras) _ _ by_place.1 (All-contains_itself rows.paras)

    abbrev pub paragraphs : List Paragraph
    paragraphs = made paras all-in

    -- each row has its paragraph
    made-has : (ps : List Para) (all : All (Contains rows.paras) ps) (q : Para) → Contains ps q → (c : Contains rows.paras q) × Contains (made ps all) (paragraph_for q c)
    made-has [] all q c = absurd (Contains-none q c)
    made-has (p ∷ ps) all q c =
        let first = All-head (Contains rows.paras) p ps all in
        let others = made ps (All-tail (Contains rows.paras) p ps all) in
        elim (Contains-cases p q ps c) [
          | inl same ↦ subst (λ r. (d : Contains rows.paras r) × Contains (made (p ∷ ps) all) (paragraph_for r d)) same (first, Contains-here (paragraph_for p first) others)
          | inr later ↦
              let rest = made-has ps (All-tail (Contains rows.paras) p ps all) q later in
              (rest.0, Contains-behind (paragraph_for p first) (paragraph_for q rest.0) others rest.1)
        ]

    paragraph-of_row : (q : Para) → Contains rows.paras q
        → (p : Paragraph) × Contains paragraphs p × (p.id ≡ number q.id) × (print_of p ≡ chars q.print) × (p.table ≡ chars q.tab)
    paragraph-of_row q c =
        let its_own = made-has paras all-in q (Contains-permutation _ _ q by_place.1 c) in
        (paragraph_for q its_own.0, its_own.1, refl, (history_for q its_own.0).print, refl)

    -- ---- their ids

    made-ids : (ps : List Para) (all : All (Contains rows.paras) ps) → ids_of (made ps all) ≡ map number (map id_of ps)
    made-ids [] all = refl
    made-ids (p ∷ ps) all = λ i. number p.id ∷ made-ids ps (All-tail (Contains rows.paras) p ps all) i

    id-back : (para : Para) → Contains rows.paras para → pos (number para.id) ≡ para.id
    id-back para c = let k = key-of para c in number-back para.id (subst (λ (z : ℤ). pos 0 ≤ℤ z) (sym k.1) (pos_le 0 k.0 (omega arith)))

    paras-keys : IsPermutation (map id_of paras) (numbers 1 count)
    paras-keys =
        IsPermutation-trans _ _ _ (IsPermutation-map id_of _ _ (IsPermutation-sym _ _ by_place.1)) para-keys

    ids-numbers : IsPermutation (ids_of paragraphs) (range_with_len 1 count)
    ids-numbers =
        subst (λ ids. IsPermutation ids (range_with_len 1 count)) (sym (made-ids paras all-in))
        (subst (IsPermutation (map number (map id_of paras))) (numbers_back (range_with_len 1 count)) (IsPermutation-map number _ _ paras-keys))

    count-made : length paragraphs ≡ count
    count-made =
        omega (arith, length_permutation _ _ ids-numbers, length-range_with_len 1 count, length-map paragraphs (λ (p : Paragraph). p.id))

    ids : IsPermutation (range_with_len 1 (length paragraphs)) (ids_of paragraphs)
    ids =
        subst (λ n. IsPermutation (range_with_len 1 n) (ids_of paragraphs)) (sym count-made) (IsPermutation-sym _ _ ids-numbers)

    -- ---- their rows

    row-made : (n : ℕ) (p : Para) (c : Contains rows.paras p) → p.place ≡ pos n → para_of (n, paragraph_for p c) ≡ spelled file.Para p
    row-made n p c at =
        let s = sound-row p c in
        λ i. record {
          id = id-back p c i;
          place = sym at i;
          tab = chars p.tab;
          original = chars p.original;
          print = (history_for p c).print i;
          style = style-back p.style s.style i;
          volume = flag-back p.volume s.volume i;
          struck = flag-back p.struck s.struck i;
        }

    rows-made : (n : ℕ) (ps : List Para) (all : All (Contains rows.paras) ps) → map place_of ps ≡ numbers n (length ps)
        → map para_of (enumerate_from n (made ps all)) ≡ map (spelled file.Para) ps
    rows-made n [] all is = refl
    rows-made n (p ∷ ps) all is =
        let first : p.place ≡ pos n = cc in
        let rest : map place_of ps ≡ numbers (n + 1) (length ps) = cc in
        λ i. row-made n p (All-head (Contains rows.paras) p ps all) first i ∷ rows-made (n + 1) ps (All-tail (Contains rows.paras) p ps all) rest i

    shown-paragraphs : IsPermutation (map (spelled file.Para) rows.paras) (paras_of paragraphs)
    shown-paragraphs =
        let places : map place_of paras ≡ numbers 1 (length paras) = sym by_place.2 ∙ ap (numbers 1) (sym count-paras) in
        subst (IsPermutation (map (spelled file.Para) rows.paras)) (sym (rows-made 1 paras all-in places))
        (IsPermutation-map (spelled file.Para) _ _ by_place.1)

    -- ---- the rows of their histories

    abbrev of_para : NamedCorr → ℤ
    of_para row = row.entry.para

    named-entry : (para : Para) (c : Contains rows.paras para) (i : ℕ) (row : NamedCorr) → slice_get (history_for para c).sorted i ≡ Some row → row.entry.para ≡ para.id
    named-entry para c i row at =
        let h = history_for para c in
        let own = group of_para id_of entries para in
        let test = λ (e : NamedCorr). int_eq e.entry.para para.id in
        let among = Contains-permutation _ _ row (IsPermutation-sym _ _ h.its_own) (Contains-there h.sorted i row at) in
        (signed_Decides row.entry.para para.id).0 (All-contains (λ e. test e ≡ true) (filter test entries) row (filter_passes test entries) among)

    entry-rows-made : (para : Para) (c : Contains rows.paras para) → entry_rows_of (paragraph_for para c) ≡ map (spelled file.NamedCorr) (history_for para c).sorted
    entry-rows-made para c =
        let h = history_for para c in
        history-rows (number para.id) 1 h.sorted (λ i row at.
        let s = h.each i row at in
        let next : i + 1 ≡ 1 + i = omega arith in
        entry-row row (number para.id) (1 + i) (corrected_print (chars para.original) (history_of (take i h.sorted))) (history_of (take i h.sorted))
        (named-entry para c i row at ∙ sym (id-back para c)) (s.number ∙ ap pos next) s.fits)

    groups-made : (ps : List Para) (all : All (Contains rows.paras) ps)
        → IsPermutation (map (spelled file.NamedCorr) (flat_map (group of_para id_of entries) ps)) (flat_map entry_rows_of (made ps all))
    groups-made [] all = IsPermutation-refl []
    groups-made (p ∷ ps) all =
        let c = All-head (Contains rows.paras) p ps all in
        let h = history_for p c in
        let own = group of_para id_of entries p in
        let others = flat_map (group of_para id_of entries) ps in
        subst (λ xs. IsPermutation xs (flat_map entry_rows_of (made (p ∷ ps) all))) (sym (map-append (spelled file.NamedCorr) own others))
        (IsPermutation-append _ _ _ _
        (subst (IsPermutation (map (spelled file.NamedCorr) own)) (sym (entry-rows-made p c)) (IsPermutation-map (spelled file.NamedCorr) _ _ h.its_own))
        (groups-made ps (All-tail (Contains rows.paras) p ps all)))

    shown-entries : IsPermutation (map (spelled file.NamedCorr) entries) (flat_map entry_rows_of paragraphs)
    shown-entries =
        let groups = flat_map (group of_para id_of entries) paras in
        let once = once-permutation (map id_of rows.paras) (map id_of paras) (IsPermutation-map id_of _ _ by_place.1)
        (once-keys id_of rows.paras (λ p c. (sound-row p c).number.once)) in
        let grouped = all-grouped of_para id_of entries paras once (λ row c.
        let para = entry-para rows.paras entries no-entries row c in
        subst (Contains (map id_of paras)) para.2 (Contains-map id_of paras para.0 (Contains-permutation _ _ para.0 by_place.1 para.1))) in
        IsPermutation-trans _ _ _ (IsPermutation-map (spelled file.NamedCorr) _ _ grouped) (groups-made paras all-in)

    -- ---- marks

    pub mark-row : (m : MarkRow) → Contains rows.marks m → IsSoundMarkRow rows.paras rows.marks m
    mark-row = sound-mark rows.paras rows.marks (λ id. none file.Mark id)

    abbrev mark_id : MarkRow → ℤ
    mark_id m = m.id

    abbrev pub by_id : (sorted : List MarkRow) × IsPermutation rows.marks sorted × (numbers 1 (length rows.marks) ≡ map mark_id sorted)
    by_id = in_order mark_id rows.marks (length rows.marks) (keys-numbers mark_id most_marks rows.marks (λ m c. (mark-row m c).number))

    abbrev pub marks : List Mark
    marks = map mark_of_row by_id.0

    stop-low : (m : MarkRow) → Contains rows.marks m → pos 0 ≤ℤ m.stop
    stop-low m c =
        let span = (mark-row m c).span in
        let k = at_least 0 m.start span.start in
        let j = at_least k.0 m.stop (subst (λ (z : ℤ). z ≤ℤ m.stop) k.1 span.ordered) in
        subst (λ (z : ℤ). pos 0 ≤ℤ z) (sym j.1) (pos_le 0 j.0 (omega arith))

    mark-row-made : (m : MarkRow) → Contains rows.marks m → mark_row_of (mark_of_row m) ≡ spelled file.Mark m
    mark-row-made m c =
        let s = mark-row m c in
        let k = number-of mark_id most_marks rows.marks (λ m c. (mark-row m c).number) m c in
        let id : pos 0 ≤ℤ m.id = subst (λ (z : ℤ). pos 0 ≤ℤ z) (sym k.1) (pos_le 0 k.0 (omega arith)) in
        let j = key-of s.span.paragraph s.span.there in
        let para : pos 0 ≤ℤ m.para = subst (λ (z : ℤ). pos 0 ≤ℤ z) (sym j.1 ∙ s.span.named) (pos_le 0 j.0 (omega arith)) in
        mark-back rows.paras rows.marks m id para (stop-low m c) s

    in-marks : (m : MarkRow) → Contains by_id.0 m → Contains rows.marks m
    in-marks m c = Contains-permutation _ _ m (IsPermutation-sym _ _ by_id.1) c

    pub shown-marks : IsPermutation (map (spelled file.Mark) rows.marks) (map mark_row_of marks)
    shown-marks =
        subst (IsPermutation (map (spelled file.Mark) rows.marks))
        (sym (map-map mark_row_of mark_of_row by_id.0 ∙ map-same (λ m. mark_row_of (mark_of_row m)) (spelled file.Mark) by_id.0 (λ m c. mark-row-made m (in-marks m c))))
        (IsPermutation-map (spelled file.Mark) _ _ by_id.1)

    count-marks : length marks ≡ length rows.marks
    count-marks = omega (arith, length_permutation _ _ by_id.1, length-map by_id.0 mark_of_row)

    pub mark-numbers : map (λ mark. mark.id) marks ≡ range_with_len 1 (length marks)
    mark-numbers =
        map-map (λ (mark : Mark). mark.id) mark_of_row by_id.0
        ∙ (sym (map-map number mark_id by_id.0)
        ∙ (ap (map number) (sym by_id.2)
        ∙ (numbers_back (range_with_len 1 (length rows.marks)) ∙ ap (range_with_len 1) (sym count-marks))))

    -- ---- the book

    abbrev pub book : Book
    book = record { version = version; tables = tables; paragraphs = paragraphs; marks = marks }

    sound-paragraph : (para : Para) (c : Contains rows.paras para) → IsSoundParagraph book (paragraph_for para c)
    sound-paragraph para c =
        let s = sound-row para c in
        let h = history_for para c in
        let own = group of_para id_of entries para in
        let test = λ (e : NamedCorr). int_eq e.entry.para para.id in
        let in_utf8 = All-contains (HasUtf8Texts file.Para) rows.paras para texts.paras c in
        let entry_texts = All-permutation (HasUtf8Texts file.NamedCorr) _ _ h.its_own (All-filter test (HasUtf8Texts file.NamedCorr) entries texts.entries) in
        record {
          clean = record { characters = characters-of para.original in_utf8.1; unbarred = s.original.1 };
          history = sound-history (chars para.original) h.sorted s.original.0 entry_texts h.each;
          text = s.table.table.body;
          meaning = s.meaning;
          found = text-found para s.meaning s.table;
          means = s.table.means;
          defined = subst (AreDefined s.meaning) (sym h.print) s.defined;
        }

    sound-made : (ps : List Para) (all : All (Contains rows.paras) ps) → All (IsSoundParagraph book) (made ps all)
    sound-made [] all = All-nil (IsSoundParagraph book)
    sound-made (p ∷ ps) all =
        let c = All-head (Contains rows.paras) p ps all in
        let tail = All-tail (Contains rows.paras) p ps all in
        All-cons (IsSoundParagraph book) (paragraph_for p c) (made ps tail) (sound-paragraph p c) (sound-made ps tail)

    apart : AreApart paragraphs
    apart = IsDistinct-numbers (length paragraphs) (ids_of paragraphs) ids

    sound-mark_of_row : (m : MarkRow) → Contains rows.marks m → IsSoundMark book (mark_of_row m)
    sound-mark_of_row m c =
        let s = mark-row m c in
        let p = paragraph-of_row s.span.paragraph s.span.there in
        let start = number-back m.start s.span.start in
        let stop = number-back m.stop (stop-low m c) in
        let named : number m.para ≡ p.0.id = ap number (sym s.span.named) ∙ sym p.2 in
        record {
          paragraph = p.0;
          found = ap (paragraph_of book) named ∙ found-own paragraphs p.0 apart p.1;
          ordered = le_from (number m.start) (number m.stop)
              (subst (λ (z : ℤ). z ≤ℤ pos (number m.stop)) (sym start) (subst (λ (z : ℤ). m.start ≤ℤ z) (sym stop) s.span.ordered));
          within = le_from (number m.stop) (length (print_of p.0)) (subst (λ (z : ℤ). z ≤ℤ pos (length (print_of p.0))) (sym stop)
              (subst (λ (print : List ℕ). m.stop ≤ℤ pos (length print)) (sym p.3) s.span.stop));
          clean = record { characters = characters-of m.note (All-contains (HasUtf8Texts file.Mark) rows.marks m texts.marks c); unbarred = s.note };
          short = s.short;
        }

    is-sound : IsSound book
    is-sound =
        let few_rows = few-rows id_of most_paragraphs rows.paras (λ para c. (sound-row para c).number) in
        let few_marks_rows = few-rows mark_id most_marks rows.marks (λ m c. (mark-row m c).number) in
        record {
          version = few-versions;
          few_tables = omega (arith, length-map tabs table_for, few-tabs rows.tabs no-tab);
          few_paragraphs = omega (arith, count-made, few_rows);
          few_marks = omega (arith, count-marks, few_marks_rows);
          names = names-sorted;
          tables = sound-tables;
          ids = ids;
          paragraphs = sound-made paras all-in;
          numbers = mark-numbers;
          marks = All-map (IsSoundMark book) mark_of_row by_id.0
              (All-weaker (Contains rows.marks) (λ m. IsSoundMark book (mark_of_row m)) sound-mark_of_row by_id.0
              (All-permutation (Contains rows.marks) _ _ by_id.1 (All-contains_itself rows.marks)));
        }

    -- ---- braille

    module _ (caches : List ParaCells) (no_damage : (id : ℤ) → ¬ IsDamagedCache rows.tabs rows.paras caches id) where
      abbrev cache_id : ParaCells → ℤ
      cache_id row = row.para

      cache-row : (row : ParaCells) → Contains caches row → IsSoundCacheRow rows.tabs rows.paras caches row
      cache-row = sound-cache rows.tabs rows.paras caches no_damage

      is-cached : (row : ParaCells) → Contains caches row → IsCached book row
      is-cached row c =
          let s = cache-row row c in
          let p = paragraph-of_row s.paragraph s.there in
          record {
            paragraph = p.0;
            there = p.1;
            named = sym s.named ∙ (sym (id-back s.paragraph s.there) ∙ ap pos (sym p.2));
            cells = (
              s.meaning,
              s.choices,
              record {
                text = s.table.table.body;
                found = ap (text_of book) p.4 ∙ text-found s.paragraph s.meaning s.table;
                means = s.table.means;
                tiles = subst (λ print. Tiles s.meaning print s.choices) (sym p.3) s.tiles;
              },
              s.cells ∙ ap (λ print. braille s.meaning print s.choices) (sym p.3),
            );
          }

      caches-within : AreUpTo count (map cache_id caches)
      caches-within z c =
          let found = Contains-from_map cache_id caches z c in
          let s = cache-row found.0 found.1 in
          let k = key-number id_of rows.paras count para-keys s.paragraph s.there in
          (k.0, sym found.2 ∙ (sym s.named ∙ k.1), k.2, k.3)

      caches-numbers : IsPermutation (map cache_id caches) (numbers 1 count)
      caches-numbers =
          let holes = pigeonholes count (map cache_id caches) (once-keys cache_id caches (λ row c. (cache-row row c).once)) caches-within in
          let all = all-numbers count (map cache_id caches) (λ k low high.
          let para = number-key id_of rows.paras count para-keys k low high in
          let row = each-cached rows.tabs rows.paras caches no_damage para.0 para.1 in
          subst (Contains (map cache_id caches)) (row.2 ∙ para.2) (Contains-map cache_id caches row.0 row.1)) in
          holes.1 (omega (arith, holes.0, all))

      are-cached : AreCached book caches
      are-cached = record {
        one_each = IsPermutation-trans _ _ _ caches-numbers
            (subst (IsPermutation (numbers 1 count)) (map-map pos (λ (p : Paragraph). p.id) paragraphs)
            (IsPermutation-map pos _ _ (IsPermutation-sym _ _ ids-numbers)));
        cells = All-weaker (Contains caches) (IsCached book) is-cached caches (All-contains_itself caches);
      }

    pub shows : Shows rows book
    shows = record {
      sound = is-sound;
      texts = texts;
      row = shown-head;
      tables = shown-tables;
      paragraphs = shown-paragraphs;
      entries = shown-entries;
      marks = shown-marks;
      caches = λ caches is. are-cached caches (λ id damaged. none file.Cache id (caches, is, damaged));
    }

  pub shown : (one : Book) × Shows rows one
  shown = (book own_places own_history, shows own_places own_history)

-- ---- and where a book is shown, the tables are those of its format

pub its-tables : (rows : FileRows) (one : Book) → Shows rows one → HasItsTables rows
its-tables rows one shows row is format =
    let rows_same : row ∷ [] ≡ book_row_of (format_of rows.entries) one.version ∷ [] = sym is ∙ shows.row in
    let same : row ≡ book_row_of (format_of rows.entries) one.version = cc in
    ap (λ (r : BookRow). r.format) same
