-- Rows of a new file show the empty book, and rows that show a book show it still once they are brought to the second
-- format, or get the braille of its paragraphs.
use Rattle.std.proofs.Common.{◌≡◌, ℕ, ◌<◌, pos, true, false, List, [], ◌∷◌, ◌++◌, map, length, get_or, Option, None, Some, append-nil, refl, sym, ap, ap₂, subst, ◌∙◌, arith, IsPermutation, int_eq, IsNone, IsSome, nat_eq, not}
use Rattle.std.specs.List.{IsDistinct}
use Rattle.std.specs.Option.{ForSome}
use Rattle.std.specs.Cmp.{int_eq_equiv}
use Rattle.std.proofs.lemmas.List.{get_or-map, length-map}
use Rattle.std.proofs.lemmas.Simd.{map-map}
use Rattle.std.proofs.lemmas.List.Elements.{All-append, All-cons, All-map, All-nil, All-from_recursion, All-weaker}
use Rattle.std.proofs.lemmas.List.Sorted.{IsPermutation-map, IsPermutation-middle, IsPermutation-refl, IsPermutation-sym, IsPermutation-trans}
use Rattle.std.proofs.lemmas.Map.Keys.{IsDistinct-from_apart, IsDistinct-head, IsDistinct-IsPermutation, IsDistinct-tail, apart_from_distinct}
use Rattle.desk_model.specs.declared.new_tables.NewTables.{NewTables}
use Rattle.desk_model.specs.declared.new_tables.NewTables.TheVariants.{Braille, Entries, EntriesAndBraille}
use Rattle.desk_parts.specs.declared.file_table.FileTable.TheVariants as tables
use Rattle.desk_parts.specs.declared.rows.BookRow.{BookRow}
use Rattle.desk_model.specs.Book.{Book, Paragraph, empty_book}
use Rattle.desk_parts.specs.FileRows.{EntryRows, FileRows, HasUtf8Texts, Named, entries_in, format_of, table_of}
use Rattle.desk_model.specs.FilledRows.{AreEntriesOf, Fills, entry_puts, in_second_format, new_rows, second_format_puts, with_caches, with_empty, with_new_entries, with_new_tables}
use Rattle.desk_parts.specs.Puts.{HasItsTable, HasTheirTables, PutRow, RowPuts, put_by_key, put_rows, with_put, with_puts}
use Rattle.desk_parts.specs.Rows.{ParaCells, NamedCorr}
use Rattle.desk_model.specs.Shows.{AreCached, IsCached, IsUnnamed, Shows, book_row_of}
use Rattle.desk_model.specs.Sound.{IsSound}
use Rattle.desk_model.proofs.Rows.BookRows.{book_caches, some_rows, some_unnamed_rows}
use Rattle.desk_model.proofs.Rows.PutRows.{filter-all}
use Rattle.desk_model.proofs.Books.ParagraphLists.{ids_of}
use Rattle.desk_model.proofs.Lists.RowNumbers.{int_eq-pos}
use Rattle.desk_model.proofs.Rows.SameRows.{AreCached-moved, AreEntriesOf-moved}
use Rattle.desk_model.proofs.Books.SoundBooks.{paragraphs-apart}
use Rattle.desk_model.proofs.Books.SoundSteps.{IsSound-empty}
use Rattle.std.proofs.lemmas.Option.{same_Some}
use Rattle.desk_model.proofs.Lists.Items.{All-from_map}

-- ---- a new file

pub new-shown : Shows new_rows empty_book
new-shown = record {
  sound = IsSound-empty;
  texts = record { tabs = All-nil (HasUtf8Texts tables.Tab); paras = All-nil (HasUtf8Texts tables.Para); entries = All-nil (HasUtf8Texts tables.NamedCorr); marks = All-nil (HasUtf8Texts tables.Mark) };
  row = refl;
  tables = IsPermutation-refl [];
  paragraphs = IsPermutation-refl [];
  entries = IsPermutation-refl [];
  marks = IsPermutation-refl [];
  caches = λ rows same. let own : [] ≡ rows = cc in subst (AreCached empty_book) own (record { one_each = IsPermutation-refl []; cells = All-nil (IsCached empty_book) });
}

-- ---- with other entries, and with other rows of braille

-- rows that show a book, with these in place of the row of `book`, of the entries and of the braille
module _ (rows : FileRows) (book : Book) (shown : Shows rows book) where
  with-others : (books : List BookRow) (entries : EntryRows) (caches : Option (List ParaCells)) → books ≡ book_row_of (format_of entries) book.version ∷ []
      → AreEntriesOf book (entries_in entries) → ForSome caches (AreCached book) → Shows (record rows { books = books; entries = entries; caches = caches }) book
  with-others books entries caches row are cached = assumption

  its-entries : AreEntriesOf book (entries_in rows.entries)
  its-entries = (shown.texts.entries, shown.entries)

  pub second-shown : Shows (in_second_format rows) book
  second-shown =
      with-others (in_second_format rows).books (Named (entries_in rows.entries)) rows.caches
      (ap (map (λ (row : BookRow). record row { format = pos 2 })) shown.row) its-entries shown.caches

  pub cached-shown : (caches : List ParaCells) → AreCached book caches → Shows (with_caches caches rows) book
  cached-shown caches are =
      with-others rows.books rows.entries (Some caches) shown.row its-entries (λ others same. subst (AreCached book) (same_Some caches others same) are)

  -- without rows of braille
  bare-shown : Shows (record rows { caches = None }) book
  bare-shown = with-others rows.books rows.entries None shown.row its-entries (λ others same. absurd (cc))

  -- with the row of the second format, and these entries
  entered : (entries : List NamedCorr) → AreEntriesOf book entries → Shows (record rows { books = book_row_of 2 book.version ∷ []; entries = Named entries }) book
  entered entries are = with-others (book_row_of 2 book.version ∷ []) (Named entries) rows.caches refl are shown.caches

-- ---- entries put one by one

put-entries : (rows : FileRows) (entries done : List NamedCorr)
    → (made : List NamedCorr) × IsPermutation (entries ++ done) made × (with_puts (put_rows tables.NamedCorr entries) (record rows { entries = Named done }) ≡ record rows { entries = Named made })
put-entries rows [] done = (done, IsPermutation-refl done, refl)
put-entries rows (entry ∷ entries) done =
    let rest = put-entries rows entries (entry ∷ done) in (
      rest.0,
      IsPermutation-trans _ _ _ (IsPermutation-sym _ _ (IsPermutation-middle entries entry done)) rest.1,
      rest.2,
    )

-- the row of the second format, and these entries, put where no entry was
put-second : (rows : FileRows) (format version : ℕ) → rows.books ≡ book_row_of format version ∷ [] → (entries : List NamedCorr)
    → (made : List NamedCorr) × IsPermutation entries made
    × (with_puts (PutRow tables.Book (book_row_of 2 version) ∷ put_rows tables.NamedCorr entries) (with_new_entries rows) ≡ record rows { books = book_row_of 2 version ∷ []; entries = Named made })
put-second rows format version row entries =
    let book_row = book_row_of 2 version in
    let made = put-entries (record rows { books = book_row ∷ [] }) entries [] in
    let one : put_by_key (λ (b : BookRow). int_eq b.id (pos 1)) book_row rows.books ≡ book_row ∷ [] = ap (put_by_key (λ (b : BookRow). int_eq b.id (pos 1)) book_row) row in (
      made.0,
      subst (λ (some : List NamedCorr). IsPermutation some made.0) (append-nil entries) made.1,
      ap (λ (books : List BookRow). with_puts (put_rows tables.NamedCorr entries) (record (with_new_entries rows) { books = books })) one ∙ made.2,
    )

module _ (rows : FileRows) (book : Book) (shown : Shows rows book) (entries : List NamedCorr) (are : AreEntriesOf book entries) where
  pub names-put : Shows (with_puts (entry_puts book entries) (with_new_entries rows)) book
  names-put =
      let made = put-second rows (format_of rows.entries) book.version shown.row entries in
      subst (λ (shows : FileRows). Shows shows book) (sym made.2) (entered rows book shown made.0 (AreEntriesOf-moved book entries made.0 made.1 are))

-- ---- rows of braille put one by one

abbrev AreDistinct : List ParaCells → Type 0
AreDistinct caches = IsDistinct int_eq (map (λ c. c.para) caches)

-- a row of another paragraph than those that are there
added : (row : ParaCells) (done : List ParaCells) → AreDistinct (row ∷ done) → put_by_key (λ (c : ParaCells). int_eq c.para row.para) row done ≡ row ∷ done
added row done apart =
    let others = All-from_map (λ id. int_eq row.para id ≡ false) (λ (c : ParaCells). c.para) done
    (All-from_recursion (λ id. int_eq row.para id ≡ false) (map (λ c. c.para) done) (IsDistinct-head int_eq row.para (map (λ c. c.para) done) apart)) in
    ap (λ (others : List ParaCells). row ∷ others) (filter-all (λ (c : ParaCells). not (int_eq c.para row.para)) done
    (All-weaker (λ c. int_eq row.para c.para ≡ false) (λ c. not (int_eq c.para row.para) ≡ true) (λ c e. ap not (int_eq_equiv.symm c.para row.para ∙ e)) done others))

AreDistinct-moved : (xs ys : List ParaCells) → IsPermutation xs ys → AreDistinct xs → AreDistinct ys
AreDistinct-moved xs ys moved =
    IsDistinct-IsPermutation int_eq (λ x y. int_eq_equiv.symm x y) (map (λ c. c.para) xs) (map (λ c. c.para) ys) (IsPermutation-map (λ (c : ParaCells). c.para) _ _ moved)

AreDistinct-front : (xs ys : List ParaCells) → AreDistinct (xs ++ ys) → AreDistinct ys
AreDistinct-front [] ys apart = apart
AreDistinct-front (x ∷ xs) ys apart = AreDistinct-front xs ys (IsDistinct-tail int_eq x.para (map (λ c. c.para) (xs ++ ys)) apart)

put-caches : (rows : FileRows) (caches done : List ParaCells) → AreDistinct (caches ++ done)
    → (made : List ParaCells) × IsPermutation (caches ++ done) made × (with_puts (put_rows tables.Cache caches) (with_caches done rows) ≡ with_caches made rows)
put-caches rows [] done apart = (done, IsPermutation-refl done, refl)
put-caches rows (row ∷ caches) done apart =
    let moved : IsPermutation (row ∷ caches ++ done) (caches ++ row ∷ done) =
    IsPermutation-sym _ _ (IsPermutation-middle caches row done) in
    let onward = AreDistinct-moved (row ∷ caches ++ done) (caches ++ row ∷ done) moved apart in
    let rest = put-caches rows caches (row ∷ done) onward in (
      rest.0,
      IsPermutation-trans _ _ _ moved rest.1,
      ap (λ (all : List ParaCells). with_puts (put_rows tables.Cache caches) (with_caches all rows)) (added row done (AreDistinct-front caches (row ∷ done) onward)) ∙ rest.2,
    )

IsDistinct-pos : (ids : List ℕ) → IsDistinct nat_eq ids → IsDistinct int_eq (map pos ids)
IsDistinct-pos ids apart =
    IsDistinct-from_apart int_eq (map pos ids) (λ i j d less within.
    let short : j < length ids = omega (arith, length-map ids pos, within) in
    ap₂ int_eq (get_or-map pos ids i 0 d (omega arith)) (get_or-map pos ids j 0 d short)
    ∙ (int_eq-pos (get_or ids i 0) (get_or ids j 0) ∙ apart_from_distinct nat_eq ids i j 0 apart less short))

module _ (book : Book) (sound : IsSound book) (caches : List ParaCells) (are : AreCached book caches) where
  cached-apart : AreDistinct caches
  cached-apart =
      IsDistinct-IsPermutation int_eq (λ x y. int_eq_equiv.symm x y) (map (λ (p : Paragraph). pos p.id) book.paragraphs) (map (λ c. c.para) caches)
      (IsPermutation-sym _ _ are.one_each)
      (subst (IsDistinct int_eq) (map-map pos (λ (p : Paragraph). p.id) book.paragraphs) (IsDistinct-pos (ids_of book.paragraphs) (paragraphs-apart book sound)))

  -- the rows with these put, one by one, where none was
  made_caches : (rows : FileRows) → (made : List ParaCells) × AreCached book made × (with_puts (put_rows tables.Cache caches) (with_caches [] rows) ≡ with_caches made rows)
  made_caches rows =
      let made = put-caches rows caches [] (subst AreDistinct (sym (append-nil caches)) cached-apart) in
      (made.0, AreCached-moved book caches made.0 (subst (λ (some : List ParaCells). IsPermutation some made.0) (append-nil caches) made.1) are, made.2)

with_puts-append : (some more : RowPuts) (rows : FileRows) → with_puts (some ++ more) rows ≡ with_puts more (with_puts some rows)
with_puts-append [] more rows = refl
with_puts-append (put ∷ some) more rows = with_puts-append some more (with_put put rows)

module _ (rows : FileRows) (book : Book) (shown : Shows rows book) (caches : List ParaCells) (are : AreCached book caches) where
  pub caches-put : Shows (with_puts (put_rows tables.Cache caches) (with_caches [] rows)) book
  caches-put =
      let made = made_caches book shown.sound caches are rows in
      subst (λ (shows : FileRows). Shows shows book) (sym made.2) (cached-shown rows book shown made.0 made.1)

  -- with these entries
  both-put : (entries : List NamedCorr) → AreEntriesOf book entries → Shows (with_puts (entry_puts book entries ++ put_rows tables.Cache caches) (with_new_tables rows)) book
  both-put entries of_book =
      let named = put-second (with_caches [] rows) (format_of rows.entries) book.version shown.row entries in
      let left : FileRows = record rows { books = book_row_of 2 book.version ∷ []; entries = Named named.0 } in
      let full = made_caches book shown.sound caches are left in
      let is : with_puts (entry_puts book entries ++ put_rows tables.Cache caches) (with_new_tables rows) ≡ with_caches full.0 left =
      with_puts-append (entry_puts book entries) (put_rows tables.Cache caches) (with_new_tables rows)
      ∙ (ap (with_puts (put_rows tables.Cache caches)) named.2 ∙ full.2) in
      let shows = entered rows book shown named.0 (AreEntriesOf-moved book entries named.0 named.1 of_book) in
      subst (λ (all : FileRows). Shows all book) (sym is) (cached-shown left book shows full.0 full.1)

  pub all-put : Shows (with_puts (second_format_puts book.version rows caches) (with_new_tables rows)) book
  all-put = both-put (entries_in rows.entries) (its-entries rows book shown)

-- ---- new tables

pub filled-shown : (tables : NewTables) (rows : FileRows) (book : Book) (puts : RowPuts) → Shows rows book → Fills tables book puts → Shows (with_puts puts (with_empty tables rows)) book
filled-shown EntriesAndBraille rows book puts shown (entries, caches, of_book, cached, is) =
    subst (λ (all : RowPuts). Shows (with_puts all (with_new_tables rows)) book) (sym is) (both-put rows book shown caches cached entries of_book)
filled-shown Entries rows book puts shown (entries, of_book, is) =
    subst (λ (all : RowPuts). Shows (with_puts all (with_new_entries rows)) book) (sym is) (names-put rows book shown entries of_book)
filled-shown Braille rows book puts shown (caches, cached, is) =
    subst (λ (all : RowPuts). Shows (with_puts all (with_caches [] rows)) book) (sym is) (caches-put rows book shown caches cached)

entries-there : (rows : FileRows) → table_of rows.entries ≡ tables.NamedCorr → (entries : List NamedCorr) → HasTheirTables (put_rows tables.NamedCorr entries) rows
entries-there rows named entries = All-map (HasItsTable rows) (PutRow tables.NamedCorr) entries (λ k d within. named)

caches-there : (rows : FileRows) → IsSome rows.caches → (caches : List ParaCells) → HasTheirTables (put_rows tables.Cache caches) rows
caches-there rows some caches = All-map (HasItsTable rows) (PutRow tables.Cache) caches (λ k d within. some)

pub filled-there : (tables : NewTables) (rows : FileRows) (book : Book) (puts : RowPuts) → Fills tables book puts → HasTheirTables puts (with_empty tables rows)
filled-there EntriesAndBraille rows book puts (entries, caches, of_book, cached, is) =
    subst (λ (all : RowPuts). HasTheirTables all (with_new_tables rows)) (sym is)
    (All-cons (HasItsTable (with_new_tables rows)) (PutRow tables.Book (book_row_of 2 book.version)) (put_rows tables.NamedCorr entries ++ put_rows tables.Cache caches) tt
    (All-append (HasItsTable (with_new_tables rows)) (put_rows tables.NamedCorr entries) (put_rows tables.Cache caches)
    (entries-there (with_new_tables rows) refl entries) (caches-there (with_new_tables rows) refl caches)))
filled-there Entries rows book puts (entries, of_book, is) =
    subst (λ (all : RowPuts). HasTheirTables all (with_new_entries rows)) (sym is)
    (All-cons (HasItsTable (with_new_entries rows)) (PutRow tables.Book (book_row_of 2 book.version)) (put_rows tables.NamedCorr entries) tt
    (entries-there (with_new_entries rows) refl entries))
filled-there Braille rows book puts (caches, cached, is) =
    subst (λ (all : RowPuts). HasTheirTables all (with_caches [] rows)) (sym is) (caches-there (with_caches [] rows) refl caches)

-- ---- rows of both formats, with the braille and without it

module _ (book : Book) (sound : IsSound book) where
  pub second_bare : (rows : FileRows) × (table_of rows.entries ≡ tables.NamedCorr) × IsNone rows.caches × Shows rows book
  second_bare = let some = some_rows book sound in (record some.0 { caches = None }, some.1, refl, bare-shown some.0 book some.3)

  pub first_cached : IsUnnamed book → (rows : FileRows) × (table_of rows.entries ≡ tables.Corr) × IsSome rows.caches × Shows rows book
  first_cached unnamed =
      let some = some_unnamed_rows book sound unnamed in
      let caches = book_caches book sound in
      (with_caches caches.0 some.0, some.1, refl, cached-shown some.0 book some.3 caches.0 caches.1)
