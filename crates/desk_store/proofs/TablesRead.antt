-- What reads of a file's tables, one after another, say of it.
use Rattle.std.proofs.Common.{arith, ◌≡◌, Bool, true, false, List, map, Ok, Err, Some, None, inl, inr, refl, sym, subst, ap, ◌∙◌, IsPermutation}
use Rattle.std.proofs.lemmas.List.Sorted.{IsPermutation-sym}
use Rattle.sqlite_trees.proofs.ListLemmas.{all-map, all-permutation}
use Rattle.sqlite_trees.specs.declared.store.Store.{Ghosts}
use Rattle.sqlite_schema.specs.declared.schema.Schema.{Schema}
use Rattle.sqlite.specs.Effect.{Database}
use Rattle.sqlite.specs.Held.{Held, state}
use Rattle.sqlite.specs.State.{HasCleanDisk, State, Survives}
use Rattle.sqlite.proofs.StateLemmas.{survives_then}
use Rattle.sql_tables.specs.Rows.{Lists, columns_at}
use Rattle.desk_parts.specs.declared.file_table.FileTable.{FileTable}
use Rattle.desk_parts.specs.declared.file_table.FileTable.TheVariants as tables
use Rattle.desk_parts.specs.FileRows.{FileRows, HasUtf8Texts, Named, Unnamed}
use Rattle.desk_parts.specs.Rows.{Corr, NamedCorr, ParaCells, StoredTab}
use Rattle.desk_parts.specs.declared.rows.BookRow.{BookRow}
use Rattle.desk_model.specs.SameRows.{AreSameRows}
use Rattle.desk_rows.specs.Contents.{Contents}
use Rattle.desk_rows.specs.Descriptions.{description_of}
use Rattle.desk_rows.specs.Layout.{Layout}
use Rattle.desk_rows.specs.Rows.{ShownOf, own, shown_columns}
use Rattle.desk_rows.specs.States.{ShowsContents}
use Rattle.desk_rows.specs.TableQuery.{AnswersRows, query_of}
use Rattle.desk_rows.specs.Tables.{is_there}
use Rattle.desk_rows.specs.declared.fault.DatabaseFault.{DatabaseFault}
use Rattle.desk_rows.specs.declared.fault.DatabaseFault.TheVariants.{Refused}
use Rattle.desk_rows.proofs.TableReads.Answering.{has_table}
use Rattle.desk_rows.proofs.TableReads.FileTexts.{readable_table}
use Rattle.desk_rows.proofs.TableReads.WholeFile.{tabs_apart}
use Rattle.desk_rows.proofs.TableReads.WholeReads.{reads_only}
use Rattle.desk_store.specs.BookFile.{rows_of}
use Rattle.desk_store.specs.Formats.{Format, IsOfFormat, IsPresent, Presence, named, needed, optional, presence, unnamed}
use Rattle.desk_store.specs.Found.{AreCellsIn, AreEntriesIn, AreOtherRows, AreRowsIn, AreToldApart, IsReadAs}
use Rattle.desk_store.specs.Opened.{StopsReading}
use Rattle.desk_store.specs.Opening.{CanBeRead, IsBookRow, Stays, format_in}
use Rattle.desk_store.specs.ReadingSteps.{AreFileCells, AreFileEntries, AreRest, AreTableRows, FailsToRead, IsReadFrom, ReadsCells, ReadsEntries, ReadsTable, ShowsReadable}
use Rattle.desk_store.proofs.AnyFile.{all_readable, can_all_still, gives_before, readable_still, shown_before}
use Rattle.desk_store.proofs.Opened.{as_it_was, as_listed, has_in_both, in_both, same_state, shows_still, stays_then}

-- ---- a table that is read in a file of a format

-- it is there, and its texts are UTF-8 if the file can be read
has_if : (p : Presence) (has there : Bool) → IsPresent p has there → IsReadAs p there → has ≡ true
has_if needed has there present read = present.1
has_if optional has there present read = present ∙ read
has_if p has there present read = absurd read

pub utf8_if : (p : Presence) (has there : Bool) (Utf8 : Type 0) → IsReadAs p there → has ≡ true → CanBeRead p has Utf8 → Utf8
utf8_if needed has there Utf8 read is can = can.1
utf8_if optional has there Utf8 read is can = can is
utf8_if p has there Utf8 read is can = absurd read

pub is_had : (f : Format) (t : FileTable) (s : State) → IsReadAs (presence f t) (is_there s.now.schema t)
    → (l : Layout) (c : Contents) → IsOfFormat f l → ShowsContents l c s → l.has t ≡ true
is_had f t s read l c of shows =
    has_if (presence f t) (l.has t) (is_there s.now.schema t)
    (subst (λ (x : Schema). IsPresent (presence f t) (l.has t) (is_there x t)) (sym shows.schema) (of t)) read

-- its rows are apart as they have to be
pub told_apart : (t : FileTable) (l : Layout) (c : Contents) (s : State) → ShowsContents l c s → l.has t ≡ true
    → (rows : List (ShownOf t)) → Lists (shown_columns t) (columns_at (description_of t).shown) rows (s.now.trees (l.tree t))
    → AreToldApart t rows
told_apart tables.Tab l c s shows has rows lists = tabs_apart l c s.now.trees shows.is has rows lists
told_apart t l c s shows has rows lists = tt

-- one that both formats treat alike is read in each as in the second
pub read_in_both : (f : Format) (t : FileTable) (there : Bool) → presence unnamed t ≡ presence named t → IsReadAs (presence named t) there
    → IsReadAs (presence f t) there
read_in_both f t there alike = subst (λ (p : Presence). IsReadAs p there) (sym (in_both f t alike))

-- ---- one read

pub reads_table : (f : Format) (t : FileTable) {V : Type 0} {items : V → List (ShownOf t)} {v : V} {old new : State}
    → IsReadAs (presence f t) (is_there old.now.schema t) → AnswersRows (Ok v) items t (λ x. x) (AreToldApart t) old new
    → ReadsTable f t (items v) old new
reads_table f t {items} {v} {old} {new} read answers = record {
  stays = as_it_was old new answers.unchanged;
  given = (gives_before old old (same_state old) t new (items v) answers.gives, answers.apart);
  of = λ l c of shows.
      let same = answers.shows l c (is_had f t old read l c of shows) shows in
      let utf8 = all-map (HasUtf8Texts t) (own t) (items v) answers.utf8 in
      (same, all-permutation (HasUtf8Texts t) (map (own t) (items v)) (c.rows t) (IsPermutation-sym _ _ same) utf8);
}

pub table_fails : {S : Type 0} (g : Ghosts S) (f : Format) (t : FileTable) {V : Type 0} {items : V → List (ShownOf t)}
    (old : Held S) {new : State} {why : DatabaseFault} → IsReadAs (presence f t) (is_there (state g old).now.schema t)
    → AnswersRows (Err why) items t (λ x. x) (AreToldApart t) (state g old) new → FailsToRead g f old new why
table_fails g f t old {new} {why} read answers =
    let s = state g old in
    let unreadable : why ≡ Refused → ¬ ShowsReadable f s = λ is can.
    let l = can.0 in
    let c = can.1 in
    let shows = can.3 in
    let has = is_had f t s read l c can.2 shows in
    let utf8 = utf8_if (presence f t) (l.has t) (is_there s.now.schema t) _ read has (can.4 t) in
    answers.cause (l.tree t) (has_table t l c s has shows) can.5 (readable_table l c s.now.trees shows.is t has utf8)
    (told_apart t l c s shows has) is in
    record {
      refused = λ is. (as_it_was s new (answers.refused is), unreadable is);
      answered = λ is unlimited can.
          let it = can t read in
          answers.answered it.has unlimited
          (λ rows seen. it.kinds rows (shown_before (query_of t).text (reads_only t) s s (same_state s) new rows seen))
          (λ rows gives. it.apart rows (gives_before s s (same_state s) t new rows gives)) is;
      table = t;
      is_read = read;
      before = old;
      stays = same_state s;
      fails = answers.reported;
    }

-- a table that is read after others is one to be read at first, too
read_still : (a b : State) → Stays a b → (f : Format) (t : FileTable) → IsReadAs (presence f t) (is_there b.now.schema t)
    → IsReadAs (presence f t) (is_there a.now.schema t)
read_still a b stays f t = subst (λ (d : Database). IsReadAs (presence f t) (is_there d.schema t)) stays.now

-- ---- why a file isn't opened

-- `book` isn't read
pub book_stops : {S : Type 0} (g : Ghosts S) {V : Type 0} {items : V → List BookRow} (old : Held S) {new : State} {why : DatabaseFault}
    → AnswersRows (Err why) items tables.Book (λ x. x) (AreToldApart tables.Book) (state g old) new → StopsReading g old new why
book_stops g old answers = record {
  table = tables.Book;
  is_read = inl refl;
  before = old;
  stays = same_state (state g old);
  fails = answers.reported;
}

-- another table of the format that its row names isn't read
pub rest_stops : {S : Type 0} (g : Ghosts S) (old mid : Held S) {new : State} {why : DatabaseFault} {f : Format} (rows : List BookRow) (row : BookRow)
    → Stays (state g old) (state g mid) → AreRowsIn (state g old) tables.Book rows → IsBookRow rows row → f ≡ format_in row.format
    → FailsToRead g f mid new why → StopsReading g old new why
rest_stops g old mid {f} rows row stays are is same fails =
    let t = fails.table in
    let here = read_still (state g old) (state g mid) stays f t fails.is_read in
    record {
      table = t;
      is_read = inr (rows, row, are, is, subst (λ (x : Format). IsReadAs (presence x t) (is_there (state g old).now.schema t)) same here);
      before = fails.before;
      stays = stays_then (state g old) (state g mid) (state g fails.before) stays fails.stays;
      fails = fails.fails;
    }

-- ---- the entries, and the cells

-- a read is also one of what follows from what it gives, and from what that is in each file
read_as : {f : Format} {old new : State} {P Q : State → Type 0} {A B : Layout → Contents → Type 0} → (P old → Q old)
    → ((l : Layout) (c : Contents) → IsOfFormat f l → ShowsContents l c old → A l c → B l c)
    → IsReadFrom f old new P A → IsReadFrom f old new Q B
read_as given of read = record {
  stays = read.stays;
  given = given read.given;
  of = λ l c is_of shows. of l c is_of shows (read.of l c is_of shows);
}

pub reads_unnamed : {old new : State} (rows : List Corr) → ReadsTable unnamed tables.Corr rows old new
    → ReadsEntries unnamed (Unnamed rows) old new
reads_unnamed rows = read_as (λ are. are) (λ l c of shows it. (rw (of tables.NamedCorr).1 (as_listed _ _ it.0), it.1))

pub reads_named : {old new : State} (rows : List NamedCorr) → ReadsTable named tables.NamedCorr rows old new
    → ReadsEntries named (Named rows) old new
reads_named rows = read_as (λ are. are) (λ l c of shows it. (rw (of tables.NamedCorr).1 (as_listed _ _ it.0), it.1))

pub reads_cells : (f : Format) {old new : State} (rows : List ParaCells) → is_there old.now.schema tables.Cache ≡ true
    → ReadsTable f tables.Cache rows old new → ReadsCells f (Some rows) old new
reads_cells f {old} rows there = read_as (λ are. (there, are)) (λ l c of shows it.
    let has = is_had f tables.Cache old (read_in_both f tables.Cache _ refl there) l c of shows in rw has (as_listed _ _ it.0))

pub reads_none : (f : Format) (s : State) → is_there s.now.schema tables.Cache ≡ false → ReadsCells f None s s
reads_none f s none = record {
  stays = same_state s;
  given = none;
  of = λ l c of shows.
      let lacks : l.has tables.Cache ≡ false = has_in_both f l tables.Cache of refl ∙ ap (λ (x : Schema). is_there x tables.Cache) (sym shows.schema) ∙ none in
      rw lacks tt;
}

-- ---- reads in turn

-- what some reads gave; and what is known by it in a state was known in one that was the same
pub record ReadsOn (f : Format) (old new : State) (Given : State → Type 0) (Of : Layout → Contents → Type 0) : Type 1 where
  pub back : (a b : State) → Stays a b → Given b → Given a
  pub survives : Survives old new (λ _. ⊥)
  pub read : HasCleanDisk new → IsReadFrom f old new Given Of

pub reads_on : {f : Format} {old new : State} {P : State → Type 0} {A : Layout → Contents → Type 0} → Survives old new (λ _. ⊥)
    → (HasCleanDisk new → IsReadFrom f old new P A) → ((a b : State) → Stays a b → P b → P a) → ReadsOn f old new P A
reads_on survives read back = record { back = back; survives = survives; read = read }

pub on_table : (f : Format) (t : FileTable) {V : Type 0} {items : V → List (ShownOf t)} {v : V} {old new : State}
    → IsReadAs (presence f t) (is_there old.now.schema t) → Survives old new (λ _. ⊥)
    → (HasCleanDisk new → AnswersRows (Ok v) items t (λ x. x) (AreToldApart t) old new)
    → ReadsOn f old new (λ s. AreRowsIn s t (items v)) (λ l c. AreTableRows t (items v) c)
on_table f t {items} {v} read survives answers =
    reads_on survives (λ clean. reads_table f t read (answers clean)) (λ a b same are. (gives_before a b same t b (items v) are.0, are.1))

module _ {f : Format} {P : State → Type 0} {A : Layout → Contents → Type 0} where
  pub and_then : {Q : State → Type 0} {B : Layout → Contents → Type 0} {a b c : State} → ReadsOn f a b P A → ReadsOn f b c Q B → ReadsOn f a c (λ s. P s × Q s) (λ l d. A l d × B l d)
  and_then {a} {b} {c} first second = record {
    back = λ s t same both. (first.back s t same both.0, second.back s t same both.1);
    survives = survives_then a b c _ _ _ (λ _ db none. none) (λ _ db none. none) first.survives second.survives;
    read = λ clean.
        let early : HasCleanDisk b = omega (arith, clean, second.survives.clean) in
        let one = first.read early in
        let two = second.read clean in
        record {
          stays = stays_then a b c one.stays two.stays;
          given = (one.given, second.back a b one.stays two.given);
          of = λ l d of shows. (one.of l d of shows, two.of l d of (shows_still a b one.stays l d shows));
        };
  }

  -- what a read that failed after others says of the first state
  pub fails_after : {S : Type 0} (g : Ghosts S) (old mid : Held S) {new : State} {why : DatabaseFault}
      → ReadsOn f (state g old) (state g mid) P A → Survives (state g mid) new (λ _. ⊥) → HasCleanDisk new
      → FailsToRead g f mid new why → FailsToRead g f old new why
  fails_after g old mid {new} {why} before survives clean fails =
      let a = state g old in
      let b = state g mid in
      let early : HasCleanDisk b = omega (arith, clean, survives.clean) in
      let stays = (before.read early).stays in
      let limit = before.survives.limit in
      record {
        refused = λ is.
            let none = fails.refused is in
            (stays_then a b new stays none.0, λ can. none.1 (readable_still a b stays f limit can));
        answered = λ is unlimited can. fails.answered is (limit ∙ unlimited) (can_all_still a b stays f can);
        table = fails.table;
        is_read = read_still a b stays f fails.table fails.is_read;
        before = fails.before;
        stays = stays_then a b (state g fails.before) stays fails.stays;
        fails = fails.fails;
      }

-- ---- all tables but `book`

pub reads_rest : (f : Format) {old new : State} (stored : List StoredTab) (rows : FileRows)
    → rows.tabs ≡ map (λ tab. tab.row) stored
    → IsReadFrom f old new
    (λ s. (((AreRowsIn s tables.Tab stored × AreRowsIn s tables.Para rows.paras) × AreEntriesIn s rows.entries)
    × AreRowsIn s tables.Mark rows.marks) × AreCellsIn s rows.caches)
    (λ l c. (((AreTableRows tables.Tab stored c × AreTableRows tables.Para rows.paras c) × AreFileEntries f rows.entries l c)
    × AreTableRows tables.Mark rows.marks c) × AreFileCells rows.caches l c)
    → IsReadFrom f old new (λ s. AreOtherRows s rows) (AreRest f rows)
reads_rest f stored rows tabs_are = read_as
    (λ it. record { stored = stored; tabs_are = tabs_are; tabs = it.0.0.0.0; paras = it.0.0.0.1; entries = it.0.0.1; marks = it.0.1; caches = it.1 })
    (λ l c of shows it.
    let tabs = it.0.0.0.0 in
    let paras = it.0.0.0.1 in
    let entries = it.0.0.1 in
    let marks = it.0.1 in
    let same : AreSameRows (record (rows_of l c) { books = rows.books }) rows = record {
      books = refl;
      tabs = subst (IsPermutation (c.rows tables.Tab)) (sym tabs_are) tabs.0;
      paras = as_listed _ _ paras.0;
      entries = entries.0;
      marks = as_listed _ _ marks.0;
      caches = it.1;
    } in
    (same, all_readable f l c of tabs.1 paras.1 entries.1 marks.1))
