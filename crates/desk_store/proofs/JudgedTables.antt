-- How the tables of a book's file are checked, from what was read of `book`.
use Rattle.std.proofs.Common.{arith, ◌≡◌, ◌≢◌, ◌⊎◌, ℕ, ℤ, pos, ◌≤ℤ◌, Bool, true, false, if◌then◌else◌, List, [], ◌∷◌, length, None, Ok, inl, inr, refl, sym, subst, ap, ◌∙◌, true≢false, IsPermutation}
use Rattle.std.specs.List.{AllByRecursion}
use Rattle.std.specs.Ordering.{int_eq}
use Rattle.std.proofs.lemmas.Bool.{and_parts, not-true}
use Rattle.std.proofs.lemmas.Bool.Decides.{Decides-int_eq}
use Rattle.std.proofs.lemmas.Int.{ints}
use Rattle.std.proofs.lemmas.List.Sorted.{IsPermutation-sym, length_permutation}
use Rattle.sqlite_schema.specs.declared.schema.Schema.{Schema}
use Rattle.sqlite_trees.proofs.ListLemmas.{all-permutation}
use Rattle.sqlite.specs.Effect.{Database}
use Rattle.sqlite.specs.State.{State}
use Rattle.desk_model.specs.Book.{Book}
use Rattle.desk_model.specs.Damage.{IsDamagedBook}
use Rattle.desk_model.specs.SameRows.{AreSameRows}
use Rattle.desk_parts.specs.declared.file_table.FileTable.TheVariants as tables
use Rattle.desk_parts.specs.FileRows.{EntryRows, FileRows, Named, Unnamed, format_of}
use Rattle.desk_parts.specs.Parts.{entry_rows, rows_in}
use Rattle.desk_model.specs.Shows.{Shows as RowsShow, book_row_of}
use Rattle.desk_parts.specs.declared.parts.Parts.{Parts}
use Rattle.desk_parts.specs.declared.rows.BookRow.{BookRow}
use Rattle.desk_model.proofs.Callers.{undamaged as sound}
use Rattle.desk_rows.specs.TableQuery.{AnswersRows, AnyRows}
use Rattle.desk_store.specs.BookFile.{rows_of}
use Rattle.desk_rows.specs.Contents.{Contents}
use Rattle.desk_store.specs.Formats.{Format, IsExact, IsOfEither, IsOfFormat, IsPresent, Presence, foreign, named, needed, optional, presence, unnamed, unread}
use Rattle.desk_store.specs.Found.{AreFileRows, AreOtherRows, AreRowsIn, RowsShowIn, format_kept}
use Rattle.desk_rows.specs.Layout.{Layout}
use Rattle.desk_store.specs.Opened.{TellsOf}
use Rattle.desk_store.specs.Opening.{CanAllBeRead, CanBeRead, IsBookRow, IsNewer, IsRefusal, Stays, TellsOfRow, format_in, has_tables, opened_as}
use Rattle.desk_store.specs.ReadingSteps.{IsReadOf, ShowsReadable}
use Rattle.desk_rows.specs.States.{ShowsContents}
use Rattle.desk_rows.specs.Tables.{is_there}
use Rattle.desk_rows.specs.declared.fault.DatabaseFault.{DatabaseFault}
use Rattle.desk_rows.specs.declared.fault.DatabaseFault.TheVariants as reading
use Rattle.desk_store.specs.declared.fault.OpenFault.{OpenFault}
use Rattle.desk_store.specs.declared.fault.OpenFault.TheVariants.{NotABook, Damaged, NewerFormat, Lost, NoMemory}
use Rattle.desk_store.proofs.AnyFile.{cells_before, entries_before, gives_before}
use Rattle.desk_store.proofs.TablesRead.{reads_table}
use Rattle.desk_store.proofs.Opened.{as_it_was, as_listed, has_in_both, is_here, same_state}

-- ---- one row

length_one : {X : Type 0} (x : X) (ys : List X) → length ys ≡ 1 → AllByRecursion (λ y. y ≡ x) ys → ys ≡ x ∷ []
length_one x [] one all = absurd (omega (arith, one))
length_one x (y ∷ []) one all = ap (λ z. z ∷ []) all.0
length_one x (y ∷ z ∷ zs) one all = absurd (omega (arith, one))

-- a list that is one row up to its order is that row
pub same_one : {X : Type 0} (xs ys : List X) (x : X) → IsPermutation xs ys → ys ≡ x ∷ [] → xs ≡ x ∷ []
same_one {X} xs ys x same is =
    let back : IsPermutation (x ∷ []) xs = subst (λ (zs : List X). IsPermutation zs xs) is (IsPermutation-sym xs ys same) in
    length_one x xs (length_permutation (x ∷ []) xs back) (all-permutation (λ y. y ≡ x) (x ∷ []) xs back (refl, tt))

pub same_head : {X : Type 0} (x y : X) → x ∷ [] ≡ y ∷ [] → x ≡ y
same_head x y same = cc

newer_in : (xs ys : List BookRow) → IsPermutation xs ys → IsNewer ys → IsNewer xs
newer_in xs ys same newer = (newer.0, same_one xs ys newer.0 same newer.1, newer.2)

damaged_in : (xs ys : List BookRow) (id : ℤ) → IsPermutation xs ys → IsDamagedBook ys id → IsDamagedBook xs id
damaged_in xs ys id same damaged = (damaged.0, λ one. damaged.1 (one.0, same_one ys xs one.0 (IsPermutation-sym xs ys same) one.1, one.2))

book_row_in : (xs ys : List BookRow) (row : BookRow) → IsPermutation xs ys → IsBookRow ys row → IsBookRow xs row
book_row_in xs ys row same is = record { alone = same_one xs ys row same is.alone; sound = is.sound; format = is.format }

-- what is reported of the rows that were read is reported of those of the file
pub row_reported : (l : Layout) (c : Contents) (rows : List BookRow) → l.has tables.Book ≡ true → IsPermutation (c.rows tables.Book) rows → (reported : OpenFault) → TellsOfRow rows reported → TellsOf l c reported
row_reported l c rows has same (Damaged table id) tells =
    inl (has, tells.0, damaged_in (c.rows tables.Book) rows id same tells.1, λ newer. tells.2 (newer_in rows (c.rows tables.Book) (IsPermutation-sym (c.rows tables.Book) rows same) newer))
row_reported l c rows has same NewerFormat tells = (has, newer_in (c.rows tables.Book) rows same tells)
row_reported l c rows has same reported tells = absurd tells

-- ---- the row that a book's rows have

-- the row of `book` gives the format of the entries
pub numbered : (entries : EntryRows) → format_in (pos (format_of entries)) ≡ format_kept entries
numbered (Unnamed rows) = refl
numbered (Named rows) = refl

-- which is the first or the second
pub at_most_two : (entries : EntryRows) (version : ℕ) (row : BookRow) → row ≡ book_row_of (format_of entries) version
    → row.format ≤ℤ pos 2
at_most_two (Unnamed rows) version row is = let same = ap (λ (r : BookRow). r.format) is in omega (arith, ints, same)
at_most_two (Named rows) version row is = let same = ap (λ (r : BookRow). r.format) is in omega (arith, ints, same)

pub number_of : (n : ℤ) → pos 1 ≤ℤ n → n ≤ℤ pos 2 → (entries : EntryRows) → format_kept entries ≡ format_in n → pos (format_of entries) ≡ n
number_of n low high entries kept = go (int_eq n (pos 1)) (Decides-int_eq n (pos 1)).0 (Decides-int_eq n (pos 1)).1 entries kept
  where
    go : (b : Bool) → (b ≡ true → n ≡ pos 1) → (n ≡ pos 1 → b ≡ true) → (entries : EntryRows) → format_kept entries ≡ (if b then unnamed else named) → pos (format_of entries) ≡ n
    go true is back (Unnamed rows) same = sym (is refl)
    go false is back (Named rows) same =
        let other : n ≢ pos 1 = λ one. true≢false (sym (back one)) in
        omega (arith, ints, low, high, other)
    go b is back entries same = absurd (cc)

books_of : (row : BookRow) (rows : List BookRow) (parts : Parts) → IsBookRow rows row → parts.version ≡ row.version → format_kept (entry_rows parts.entries) ≡ format_in row.format → (rows_in parts).books ≡ rows
books_of row rows parts is version kept =
    let number = number_of row.format is.sound.format is.format (entry_rows parts.entries) kept in
    let same : (rows_in parts).books ≡ row ∷ [] = λ i. record { id = sym is.sound.id i; format = number i; version = version i } ∷ [] in
    same ∙ sym is.alone

-- ---- the tables of a format

present : (p : Presence) (has there : Bool) (Utf8 : Type 0) → has ≡ there → CanBeRead p has Utf8 → IsPresent p has there
present needed has there Utf8 same can = (same, can.0)
present optional has there Utf8 same can = same
present foreign has there Utf8 same can = (same, can)
present unread has there Utf8 same can = tt

-- a file that can be read as one of a format is of it
pub of_read : (f : Format) (l : Layout) (c : Contents) → (IsExact l ⊎ IsOfEither l) → CanAllBeRead f l c → IsOfFormat f l
of_read f l c (inl exact) can = λ t. present (presence f t) (l.has t) (is_there l.schema t) _ (exact t) (can t)
of_read f l c (inr other) can = go f other.0 other.1 can
  where
    go : (f g : Format) → IsOfFormat g l → CanAllBeRead f l c → IsOfFormat f l
    go unnamed unnamed of can = of
    go unnamed named of can = absurd (true≢false (sym (of tables.NamedCorr).1 ∙ can tables.NamedCorr))
    go named unnamed of can = absurd (true≢false (sym (can tables.NamedCorr).0 ∙ (of tables.NamedCorr).1))
    go named named of can = of

pub tables_of : (f : Format) (l : Layout) → IsOfFormat f l → has_tables f l.schema ≡ true
tables_of unnamed l of =
    let names = of tables.NamedCorr in
    rw (is_here (of tables.Tab), is_here (of tables.Para), is_here (of tables.Mark), is_here (of tables.Corr), sym names.0 ∙ names.1) refl
tables_of named l of = rw (is_here (of tables.Tab), is_here (of tables.Para), is_here (of tables.Mark), is_here (of tables.NamedCorr)) refl

-- the tables that are there are those of one format
pub one_format : (f g : Format) (l : Layout) → has_tables f l.schema ≡ true → IsOfFormat g l → g ≡ f
one_format unnamed unnamed l all of = refl
one_format unnamed named l all of =
    absurd (true≢false (sym (is_here (of tables.NamedCorr)) ∙ not-true (is_there l.schema tables.NamedCorr) (and_parts (is_there l.schema tables.Corr) _ (and_parts _ _ all).1).1))
one_format named unnamed l all of = absurd (true≢false (sym (and_parts _ (is_there l.schema tables.NamedCorr) all).1 ∙ sym (of tables.NamedCorr).0 ∙ (of tables.NamedCorr).1))
one_format named named l all of = refl

pub books_there : (l : Layout) → (IsExact l ⊎ IsOfEither l) → l.has tables.Book ≡ is_there l.schema tables.Book
books_there l (inl exact) = exact tables.Book
books_there l (inr other) = (has_in_both other.0 l tables.Book other.1 refl).0

-- ---- what is reported

pub refusal_is : (fault : DatabaseFault) → IsRefusal (opened_as fault) → fault ≡ reading.Refused
refusal_is reading.Refused is = refl
refusal_is fault is = absurd is

pub read_reported : (l : Layout) (c : Contents) (fault : DatabaseFault) → (fault ≡ reading.Refused → TellsOf l c NotABook) → TellsOf l c (opened_as fault)
read_reported l c reading.Refused lacks = lacks refl
read_reported l c fault lacks = tt

-- ---- what was read

others_before : (s a : State) → Stays s a → (rows : FileRows) (books : List BookRow) → AreOtherRows a rows
    → AreOtherRows s (record rows { books = books })
others_before s a same rows books are = record {
  stored = are.stored;
  tabs_are = are.tabs_are;
  tabs = (gives_before s a same tables.Tab a are.stored are.tabs.0, are.tabs.1);
  paras = (gives_before s a same tables.Para a rows.paras are.paras.0, are.paras.1);
  entries = entries_before s a same rows.entries are.entries;
  marks = (gives_before s a same tables.Mark a rows.marks are.marks.0, are.marks.1);
  caches = cells_before s a same rows.caches are.caches;
}

-- ---- a row that was checked

-- `book` is there and was read, and this is its one row, sound and of a known format.
pub record IsJudged (old new : State) (rows : List BookRow) (row : BookRow) : Type 0 where
  pub there : is_there old.now.schema tables.Book ≡ true
  pub so_far : Stays old new
  pub are : AreRowsIn old tables.Book rows
  pub shows : (l : Layout) (c : Contents) → l.has tables.Book ≡ true → ShowsContents l c old → IsPermutation (c.rows tables.Book) rows
  pub is : IsBookRow rows row

pub judged : {V : Type 0} {items : V → List BookRow} {v : V} {old new : State} {seen : List BookRow} {row : BookRow} {has : Bool}
    → has ≡ is_there old.now.schema tables.Book → has ≡ true → AnswersRows (Ok v) items tables.Book (λ x. x) AnyRows old new
    → seen ≡ items v → IsBookRow seen row → IsJudged old new (items v) row
judged {old} {new} {row} as_there has answers value is = record {
  there = sym as_there ∙ has;
  so_far = as_it_was old new answers.unchanged;
  are = (reads_table named tables.Book tt answers).given;
  shows = λ l c has was. as_listed _ _ (answers.shows l c has was);
  is = subst (λ (rows : List BookRow). IsBookRow rows row) value is;
}

-- a layout has `book` if it is there
pub has_books : (l : Layout) (c : Contents) (s : State) → (IsExact l ⊎ IsOfEither l) → ShowsContents l c s → is_there s.now.schema tables.Book ≡ true → l.has tables.Book ≡ true
has_books l c s those was there = books_there l those ∙ ap (λ (schema : Schema). is_there schema tables.Book) (sym was.schema) ∙ there

module _ {old new : State} {rows : List BookRow} {row : BookRow} (it : IsJudged old new rows row) where
  -- whether the tables of the row's format are there
  pub tables_there : {f : Format} {has is : Bool} → has ≡ has_tables f new.now.schema → f ≡ format_in row.format → has ≡ is
      → has_tables (format_in row.format) old.now.schema ≡ is
  tables_there {f} reported of found =
      ap (λ (g : Format). has_tables g old.now.schema) (sym of) ∙ ap (λ (d : Database). has_tables f d.schema) (sym it.so_far.now) ∙ sym reported ∙ found

  -- the row is the file's
  row_of_file : (l : Layout) (c : Contents) → (IsExact l ⊎ IsOfEither l) → ShowsContents l c old → (l.has tables.Book ≡ true) × IsBookRow (c.rows tables.Book) row
  row_of_file l c those was =
      let has = has_books l c old those was it.there in
      (has, book_row_in (c.rows tables.Book) rows row (it.shows l c has was) it.is)

  -- a table of its format isn't there
  pub lacks_tables : (l : Layout) (c : Contents) → (IsExact l ⊎ IsOfEither l) → ShowsContents l c old → has_tables (format_in row.format) old.now.schema ≡ false → TellsOf l c NotABook
  lacks_tables l c those was none =
      let f = format_in row.format in
      let here = row_of_file l c those was in
      inr (row, here.0, here.1, λ can. true≢false (sym (tables_of f l (of_read f l c those can)) ∙ ap (λ (schema : Schema). has_tables f schema) (sym was.schema) ∙ none))

  -- or one can't be read
  pub lacks_readable : (l : Layout) (c : Contents) → (IsExact l ⊎ IsOfEither l) → ShowsContents l c old → old.step_limit ≡ None → ¬ ShowsReadable (format_in row.format) old → TellsOf l c NotABook
  lacks_readable l c those was limit none =
      let here = row_of_file l c those was in
      inr (row, here.0, here.1, λ can. none (l, c, of_read (format_in row.format) l c those can, was, can, limit))

  -- a file of either format is of the row's if its tables are there
  pub of_the_row : (g : Format) (l : Layout) (c : Contents) → ShowsContents l c old → has_tables (format_in row.format) old.now.schema ≡ true → IsOfFormat g l → IsOfFormat (format_in row.format) l
  of_the_row g l c was all of =
      let f = format_in row.format in
      subst (λ (h : Format). IsOfFormat h l) (one_format f g l (ap (λ (schema : Schema). has_tables f schema) (sym was.schema) ∙ all) of) of

  module _ (parts : Parts) (version : parts.version ≡ row.version) (kept : format_kept (entry_rows parts.entries) ≡ format_in row.format) where
    pub file_rows : has_tables (format_in row.format) old.now.schema ≡ true → AreOtherRows new (rows_in parts) → AreFileRows old (rows_in parts)
    file_rows all others = record {
      book = it.there;
      tables = subst (λ (f : Format). has_tables f old.now.schema ≡ true) (sym kept) all;
      books = subst (AreRowsIn old tables.Book) (sym (books_of row rows parts it.is version kept)) it.are;
      others = others_before old new it.so_far (rows_in parts) (rows_in parts).books others;
    }

    pub read_whole : (l : Layout) (c : Contents) → ShowsContents l c old → IsOfFormat (format_in row.format) l → CanAllBeRead (format_in row.format) l c
        → AreSameRows (record (rows_of l c) { books = (rows_in parts).books }) (rows_in parts) → IsReadOf l c (rows_in parts)
    read_whole l c was of can are =
        let here = row_of_file l c (inr (format_in row.format, of)) was in
        record {
          row = row;
          book = here.1;
          of = of;
          readable = can;
          same = record {
            books = sym (books_of row (c.rows tables.Book) parts here.1 version kept);
            tabs = are.tabs;
            paras = are.paras;
            entries = are.entries;
            marks = are.marks;
            caches = are.caches;
          };
        }

-- ---- a file whose rows show a book

module _ (s : State) (book : Book) (shows : RowsShowIn s book) (read : List BookRow) (are : AreRowsIn s tables.Book read) where
  abbrev others : FileRows
  others = record shows.rows { books = read }

  shown : RowsShow others book
  shown = shows.each others (record {
    book = shows.are.book;
    tables = shows.are.tables;
    books = are;
    others = others_before s s (same_state s) shows.rows read shows.are.others;
  })

  -- nothing is reported of the row that was read
  pub row_is_sound : (reported : OpenFault) → ¬ TellsOfRow read reported
  row_is_sound (Damaged table id) tells = sound others book shown tables.Book id tells.1
  row_is_sound NewerFormat (row, one, later) =
      let low = at_most_two shows.rows.entries book.version row (same_head _ _ (sym one ∙ shown.row)) in omega (arith, ints, low, later)
  row_is_sound reported tells = tells

  -- and it gives how its entries are kept
  pub kept_by_row : (row : BookRow) → IsBookRow read row → format_kept shows.rows.entries ≡ format_in row.format
  kept_by_row row is =
      sym (numbered shows.rows.entries) ∙ ap (λ (r : BookRow). format_in r.format) (same_head _ _ (sym shown.row ∙ is.alone))

  pub has_its_tables : (row : BookRow) → IsBookRow read row → has_tables (format_in row.format) s.now.schema ≡ true
  has_its_tables row is = subst (λ (f : Format). has_tables f s.now.schema ≡ true) (kept_by_row row is) shows.are.tables

-- what is reported of the rows of `book` refuses the file
pub row_refuses : (rows : List BookRow) (fault : OpenFault) → TellsOfRow rows fault → IsRefusal fault
row_refuses rows Lost reported = reported
row_refuses rows NoMemory reported = reported
row_refuses rows fault reported = tt
