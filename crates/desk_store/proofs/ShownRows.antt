-- The rows that the statements give of a file in which a book stands.
use Rattle.std.proofs.Common.{◌≡◌, ◌∙◌, ℕ, Bool, true, false, List, [], ◌∷◌, map, Option, Some, None, IsTrue, IsPermutation, refl, sym, ap, ap₂, subst}
use Rattle.std.specs.List.{AllByRecursion}
use Rattle.std.proofs.lemmas.List.Sorted.{IsPermutation-sym}
use Rattle.sqlite_value.specs.declared.value.Value.{Value}
use Rattle.sqlite_value.specs.Order.{Row, column}
use Rattle.sqlite_schema.specs.declared.schema.Schema.{Schema}
use Rattle.sqlite_sql.specs.Term.{col, eval_all}
use Rattle.sqlite_trees.specs.Tree.{rowid}
use Rattle.sqlite_trees.specs.View.{is_int}
use Rattle.sqlite_trees.proofs.ListLemmas.{all-map, all-permutation, all_from_map, all_of}
use Rattle.sqlite.specs.State.{Shown, State}
use Rattle.sqlite.specs.Values.{IsInt}
use Rattle.sql_tables.specs.Rows.{Lists, columns_at}
use Rattle.sql_tables.specs.States.{HasTable}
use Rattle.sql_tables.proofs.RowKinds.{integer_of}
use Rattle.desk_model.specs.Book.{Book}
use Rattle.desk_model.specs.SameRows.{AreSameCaches, AreSameEntries, AreSameRows}
use Rattle.desk_model.specs.Shows.{Shows as RowsShow, book_row_of}
use Rattle.desk_model.proofs.Callers.{shown-same as shown_too}
use Rattle.desk_parts.specs.declared.file_table.FileTable.{FileTable}
use Rattle.desk_parts.specs.declared.file_table.FileTable.TheVariants as tables
use Rattle.desk_parts.specs.FileRows.{EntryRows, FileRows, HasUtf8Texts, Named, Unnamed, format_of}
use Rattle.desk_parts.specs.Rows.{ParaCells, StoredTab, RowOf}
use Rattle.desk_rows.specs.TableQuery.{AreShownBy, given, query_of}
use Rattle.desk_rows.specs.Contents.{Contents}
use Rattle.desk_rows.specs.Descriptions.{description_of, shows_rowid, table_of}
use Rattle.desk_rows.specs.Layout.{Layout}
use Rattle.desk_rows.specs.Rows.{ShownOf, columns_of, own, shown_columns}
use Rattle.desk_rows.specs.States.{ShowsContents}
use Rattle.desk_rows.specs.Tables.{is_there}
use Rattle.desk_rows.proofs.TableReads.Answering.{has_table}
use Rattle.desk_rows.proofs.TableReads.FileTexts.{readable_table, rowids}
use Rattle.desk_rows.proofs.TableReads.OneList.{one_list}
use Rattle.desk_rows.proofs.TableReads.PlainReads.{is_read}
use Rattle.desk_rows.proofs.TableReads.WholeFile.{own_listed}
use Rattle.desk_rows.proofs.TableReads.WholeReads.{rows_cmp, table_kinds, table_read}
use Rattle.desk_store.specs.BookFile.{rows_of}
use Rattle.desk_store.specs.Formats.{Format, IsOfFormat, named, presence, unnamed}
use Rattle.desk_store.specs.Found.{AreCellsIn, AreEntriesIn, AreFileRows, AreOtherRows, AreRowsIn, AreToldApart, CanAllAnswer, CanAnswer, RowsShowIn, format_kept}
use Rattle.desk_store.specs.Opened.{Stands}
use Rattle.desk_store.specs.Opening.{CanAllBeRead, has_tables}
use Rattle.desk_store.proofs.FoundFormats.{books_there}
use Rattle.desk_store.proofs.JudgedTables.{one_format, same_one, tables_of}
use Rattle.desk_store.proofs.TablesRead.{is_had, told_apart, utf8_if}
use Rattle.desk_store.proofs.Opened.{as_listed, has_in_both}
use Rattle.sql_tables.proofs.ReadAnswers.{answered, can_answer}
use Rattle.desk_store.proofs.StandingBooks.{can_be_read}

-- ---- each table

-- a row of the tree, whose columns are a row of the table, is shown as one
shown_row : (t : FileTable) (r : Row) → (shows_rowid t ≡ true → IsInt (rowid r)) → (y : RowOf t) × (columns_at (description_of t).own r ≡ columns_of t y)
    → (x : ShownOf t) × (given t (columns_at (description_of t).shown r) ≡ shown_columns t x)
shown_row tables.Tab r id (y, is) = let n = id refl in (record { rowid = n.0; row = y }, ap₂ (λ (v : Value) (vs : Row). v ∷ vs) n.1 is)
shown_row t r id (y, is) = (y, is)

-- ---- lists of rows

all_written : {X : Type 0} (f : X → Row) (xs : List X) → AllByRecursion (λ r. (x : X) × (r ≡ f x)) (map f xs)
all_written {X} f xs = all-map (λ (r : Row). (x : X) × (r ≡ f x)) f xs (all_of (λ (y : X). (x : X) × (f y ≡ f x)) (λ y. (y, refl)) xs)

collected : {X : Type 0} (columns : Row → Row) (f : X → Row) (rows : List Row) → AllByRecursion (λ r. (x : X) × (columns r ≡ f x)) rows
    → (xs : List X) × (map columns rows ≡ map f xs)
collected columns f [] all = ([], refl)
collected columns f (r ∷ rows) all =
    let more = collected columns f rows all.1 in
    (all.0.0 ∷ more.0, ap₂ (λ (v : Row) (vs : List Row). v ∷ vs) all.0.1 more.1)

columns_are : (ps : List ℕ) (r : Row) → eval_all (map (col 1) ps) ([] ∷ r ∷ []) ≡ columns_at ps r
columns_are [] r = refl
columns_are (p ∷ ps) r = ap (λ (vs : Row). column r p ∷ vs) (columns_are ps r)

all_shown_rows : (t : FileTable) (rows : List Row) → (shows_rowid t ≡ true → AllByRecursion (λ r. IsTrue (is_int (rowid r))) rows)
    → AllByRecursion (λ r. (y : RowOf t) × (columns_at (description_of t).own r ≡ columns_of t y)) rows
    → AllByRecursion (λ r. (x : ShownOf t) × (given t (columns_at (description_of t).shown r) ≡ shown_columns t x)) rows
all_shown_rows t [] ids owns = tt
all_shown_rows t (r ∷ rows) ids owns = (shown_row t r (λ is. integer_of (rowid r) (ids is).0) owns.0, all_shown_rows t rows (λ is. (ids is).1) owns.1)

-- ---- a table of a file

module _ (l : Layout) (c : Contents) (s : State) (is_open : IsTrue s.is_open) (shows : ShowsContents l c s) where
  module _ (t : FileTable) (there : l.has t ≡ true) where
    abbrev tree : List Row
    tree = s.now.trees (l.tree t)

    has : HasTable (table_of t (l.tree t)) s
    has = has_table t l c s there shows

    owns : AllByRecursion (λ r. (y : RowOf t) × (columns_at (description_of t).own r ≡ columns_of t y)) tree
    owns =
        all_from_map (λ v. (y : RowOf t) × (v ≡ columns_of t y)) (columns_at (description_of t).own) tree
        (all-permutation (λ v. (y : RowOf t) × (v ≡ columns_of t y)) _ _ (shows.is.tables t there) (all_written (columns_of t) (c.rows t)))

    answer : (rows : List Row) × Shown (description_of t).read [] s s rows × IsPermutation (map (columns_at (description_of t).shown) tree) rows
    answer =
        answered (table_of t (l.tree t)) (description_of t).read _ _ _ _ (is_read t (l.tree t)) s.now.schema has.declared s refl has.sound
        (columns_at (description_of t).shown) (columns_are (description_of t).shown) is_open

    -- there are rows that its statement gives
    gives : (xs : List (ShownOf t)) × AreShownBy (query_of t) (shown_columns t) s s xs
    gives =
        let all = all_shown_rows t tree (rowids l c s.now.trees shows.is t there) owns in
        let shown_all = all-permutation (λ v. (x : ShownOf t) × (given t v ≡ shown_columns t x)) _ _ answer.2
        (all-map (λ v. (x : ShownOf t) × (given t v ≡ shown_columns t x)) (columns_at (description_of t).shown) tree all) in
        let xs = collected (given t) (shown_columns t) answer.0 shown_all in
        (xs.0, (answer.0, answer.1, xs.1))

    listed : (xs : List (ShownOf t)) → AreShownBy (query_of t) (shown_columns t) s s xs → Lists (shown_columns t) (columns_at (description_of t).shown) xs tree
    listed xs (rows, seen, is) =
        (table_read t s.now.schema (l.tree t) has.declared s s refl has.sound (shown_columns t) (λ a b. rows_cmp t (shown_columns t a) (shown_columns t b)) (λ a b. refl) rows xs seen is).0

    -- what it gives are the table's rows
    same_rows : (xs : List (ShownOf t)) → AreShownBy (query_of t) (shown_columns t) s s xs → IsPermutation (c.rows t) (map (own t) xs)
    same_rows xs gives_xs =
        one_list t (columns_at (description_of t).own) (c.rows t) (map (own t) xs) tree (shows.is.tables t there) (own_listed t xs tree (listed xs gives_xs))

  apart : (t : FileTable) → l.has t ≡ true → (xs : List (ShownOf t)) → AreShownBy (query_of t) (shown_columns t) s s xs → AreToldApart t xs
  apart t there xs gives_xs = told_apart t l c s shows there xs (listed t there xs gives_xs)

  can : (t : FileTable) → l.has t ≡ true → AllByRecursion (HasUtf8Texts t) (c.rows t) → CanAnswer s t
  can t there utf8 = record {
    has =
        can_answer (table_of t (l.tree t)) (description_of t).read _ _ _ _ (is_read t (l.tree t))
        s.now.schema (has t there).declared s refl (has t there).sound;
    kinds = λ rows seen.
        table_kinds t s.now.schema (l.tree t) (has t there).declared s s refl (has t there).sound rows seen (readable_table l c s.now.trees shows.is t there utf8);
    apart = apart t there;
  }

  rows_in : (t : FileTable) → l.has t ≡ true → (xs : List (ShownOf t)) × AreRowsIn s t xs
  rows_in t there = let got = gives t there in (got.0, (got.1, apart t there got.0 got.1))

  -- ---- the tables of a format

  can_all : (f : Format) → IsOfFormat f l → CanAllBeRead f l c → CanAllAnswer f s
  can_all f of readable t read =
      let there = is_had f t s read l c of shows in
      can t there (utf8_if (presence f t) (l.has t) (is_there s.now.schema t) _ read there (readable t))

  entries_in_file : (f : Format) → IsOfFormat f l → (entries : EntryRows) × (format_kept entries ≡ f) × AreEntriesIn s entries
  entries_in_file unnamed of = let got = rows_in tables.Corr (of tables.Corr).1 in (Unnamed got.0, refl, got.1)
  entries_in_file named of = let got = rows_in tables.NamedCorr (of tables.NamedCorr).1 in (Named got.0, refl, got.1)

  caches_there : (f : Format) → IsOfFormat f l → l.has tables.Cache ≡ is_there s.now.schema tables.Cache
  caches_there f of = has_in_both f l tables.Cache of refl ∙ ap (λ (x : Schema). is_there x tables.Cache) (sym shows.schema)

  cells_in_file : (f : Format) → IsOfFormat f l → (has : Bool) → l.has tables.Cache ≡ has → (cells : Option (List ParaCells)) × AreCellsIn s cells
  cells_in_file f of true is = let got = rows_in tables.Cache is in (Some got.0, (sym (caches_there f of) ∙ is, got.1))
  cells_in_file f of false is = (None, sym (caches_there f of) ∙ is)

  -- some rows of the file
  some_rows : (f : Format) → IsOfFormat f l → (rows : FileRows) × AreFileRows s rows × (format_kept rows.entries ≡ f)
  some_rows f of =
      let head = rows_in tables.Book (has_in_both f l tables.Book of refl).1 in
      let stored = rows_in tables.Tab (has_in_both f l tables.Tab of refl).1 in
      let texts = rows_in tables.Para (has_in_both f l tables.Para of refl).1 in
      let entries = entries_in_file f of in
      let notes = rows_in tables.Mark (has_in_both f l tables.Mark of refl).1 in
      let cells = cells_in_file f of (l.has tables.Cache) refl in
      let rows : FileRows = record { books = head.0; tabs = map (λ (tab : StoredTab). tab.row) stored.0; paras = texts.0; entries = entries.0; marks = notes.0; caches = cells.0 } in
      let others : AreOtherRows s rows =
      record { stored = stored.0; tabs_are = refl; tabs = stored.1; paras = texts.1; entries = entries.2; marks = notes.1; caches = cells.1 } in
      let here = subst (λ (x : Schema). is_there x tables.Book ≡ true) (sym shows.schema) (books_there f l of) in
      let tables = subst (λ (x : Schema). has_tables f x ≡ true) (sym shows.schema) (tables_of f l of) in
      let are : AreFileRows s rows =
      record { book = here; tables = subst (λ (g : Format). has_tables g s.now.schema ≡ true) (sym entries.1) tables; books = head.1; others = others } in
      (rows, are, entries.1)

  -- ---- any rows of it are the same

  same_entries : (f : Format) → IsOfFormat f l → (entries : EntryRows) → f ≡ format_kept entries → AreEntriesIn s entries → AreSameEntries (rows_of l c).entries entries
  same_entries unnamed of (Unnamed rows) is are = rw (of tables.NamedCorr).1 (as_listed _ _ (same_rows tables.Corr (of tables.Corr).1 rows are.0))
  same_entries named of (Named rows) is are = rw (of tables.NamedCorr).1 (as_listed _ _ (same_rows tables.NamedCorr (of tables.NamedCorr).1 rows are.0))
  same_entries f of entries is are = absurd (cc)

  same_cells : (f : Format) → IsOfFormat f l → (cells : Option (List ParaCells)) → AreCellsIn s cells → AreSameCaches (rows_of l c).caches cells
  same_cells f of None none = let lacks : l.has tables.Cache ≡ false = caches_there f of ∙ none in rw lacks tt
  same_cells f of (Some rows) are =
      let there : l.has tables.Cache ≡ true = caches_there f of ∙ are.0 in
      rw there (as_listed _ _ (same_rows tables.Cache there rows are.1.0))

  same_file : (f : Format) (book : Book) → IsOfFormat f l → RowsShow (rows_of l c) book → (others : FileRows) → AreFileRows s others → AreSameRows (rows_of l c) others
  same_file f book of stands others are =
      let row = book_row_of (format_of (rows_of l c).entries) book.version in
      let heads = as_listed _ _ (same_rows tables.Book (has_in_both f l tables.Book of refl).1 others.books are.books.0) in
      let its : has_tables (format_kept others.entries) l.schema ≡ true = subst (λ (x : Schema). has_tables (format_kept others.entries) x ≡ true) shows.schema are.tables in
      let rest = are.others in
      let names = same_rows tables.Tab (has_in_both f l tables.Tab of refl).1 rest.stored rest.tabs.0 in
      record {
        books = stands.row ∙ sym (same_one others.books (c.rows tables.Book) row (IsPermutation-sym _ _ heads) stands.row);
        tabs = subst (IsPermutation (c.rows tables.Tab)) (sym rest.tabs_are) names;
        paras = as_listed _ _ (same_rows tables.Para (has_in_both f l tables.Para of refl).1 others.paras rest.paras.0);
        entries = same_entries f of others.entries (one_format (format_kept others.entries) f l its of) rest.entries;
        marks = as_listed _ _ (same_rows tables.Mark (has_in_both f l tables.Mark of refl).1 others.marks rest.marks.0);
        caches = same_cells f of others.caches rest.caches;
      }

-- ---- a book that stands in a file

pub shown_where_it_stands : (s : State) → IsTrue s.is_open → (l : Layout) (book : Book) → Stands l book s → RowsShowIn s book
shown_where_it_stands s is_open l book ((f, of), (c, shows, rows)) =
    let some = some_rows l c s is_open shows f of in
    let readable = can_be_read l c book rows f of in
    record {
      rows = some.0;
      are = some.1;
      answer = subst (λ (g : Format). CanAllAnswer g s) (sym some.2) (can_all l c s is_open shows f of readable);
      each = λ others are. shown_too (rows_of l c) others (same_file l c s is_open shows f book of rows others are) book rows;
    }
