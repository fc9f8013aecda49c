-- The tables that a book's file lacked, filled with what the book has for them.
use Rattle.std.proofs.Common.{◌≡◌, true, List, [], ◌∷◌, ◌++◌, Some, refl, sym, subst, ap, ◌∙◌, true≢false}
use Rattle.std.specs.List.{AllByRecursion}
use Rattle.sqlite_schema.specs.declared.schema.Schema.{Schema}
use Rattle.sqlite_trees.specs.Tree.{Trees}
use Rattle.sqlite_trees.specs.declared.store.Store.{Ghosts}
use Rattle.sqlite_catalog.specs.Change.{KeepsRows}
use Rattle.sqlite.specs.Held.{Held, state}
use Rattle.sqlite.specs.State.{State, Survives}
use Rattle.sqlite.proofs.StateLemmas.{survives_weaker}
use Rattle.sql_tables.specs.Making.{KeepsAside}
use Rattle.desk_model.specs.Book.{Book}
use Rattle.desk_parts.specs.declared.file_table.FileTable.{FileTable}
use Rattle.desk_parts.specs.declared.file_table.FileTable.TheVariants as tables
use Rattle.desk_parts.specs.FileRows.{FileRows}
use Rattle.desk_model.specs.FilledRows.{Fills, entry_puts, with_empty}
use Rattle.desk_parts.specs.Puts.{LendsFirst, RowPut, PutRow, SetColumns, put_rows, table_put, with_puts}
use Rattle.desk_parts.specs.Rows.{RowOf}
use Rattle.desk_model.specs.Shows.{Shows as RowsShow}
use Rattle.desk_model.specs.declared.new_tables.NewTables.{NewTables}
use Rattle.desk_model.specs.declared.new_tables.NewTables.TheVariants.{Braille, Entries, EntriesAndBraille}
use Rattle.desk_model.proofs.Callers.{filled-shown}
use Rattle.desk_store.specs.BookFile.{rows_of}
use Rattle.desk_rows.specs.Commits.{making_tables}
use Rattle.desk_rows.specs.Contents.{Contents}
use Rattle.desk_store.specs.Formats.{Format, IsOfFormat}
use Rattle.desk_rows.specs.Layout.{Layout}
use Rattle.desk_rows.specs.Making.{Differ, IsFileWithTables, IsGrown, is_among, new_layout, new_tables, with_none, with_tables}
use Rattle.desk_store.specs.FillingSteps.{FillsLacked, HoldsWith}
use Rattle.desk_store.specs.Completing.{HasGained, which_new}
use Rattle.desk_store.specs.Opened.{Stands}
use Rattle.desk_rows.specs.Puts.{HasThem, put_into, puts_into}
use Rattle.desk_rows.specs.States.{IsFile, ShowsContents}
use Rattle.desk_rows.specs.Tables.{AreWritten}
use Rattle.desk_store.proofs.BookPuts.{all_put, left_made}
use Rattle.desk_store.proofs.Opened.{has_in_both}

-- ---- the tables of what is put

pub new_differ : (t : NewTables) → Differ (which_new t)
new_differ EntriesAndBraille = ((refl, tt), (tt, tt))
new_differ t = (tt, tt)

module _ (l : Layout) where
  rows_there : (t : FileTable) → l.has t ≡ true → (rows : List (RowOf t)) → HasThem l (put_rows t rows)
  rows_there t there [] = tt
  rows_there t there (row ∷ rows) = (there, rows_there t there rows)

  both_there : (a b : List RowPut) → HasThem l a → HasThem l b → HasThem l (a ++ b)
  both_there [] b _ q = q
  both_there (it ∷ a) b p q = (p.0, both_there a b p.1 q)

  -- what fills these tables is put into no others but `book`
  fills_there : (t : NewTables) (book : Book) (puts : List RowPut) → Fills t book puts → l.has tables.Book ≡ true → AllByRecursion (λ v. l.has v ≡ true) (which_new t) → HasThem l puts
  fills_there EntriesAndBraille book puts fills first has =
      subst (HasThem l) (sym fills.4)
      (both_there (entry_puts book fills.0) (put_rows tables.Cache fills.1) (first, rows_there tables.NamedCorr has.1.0 fills.0) (rows_there tables.Cache has.0 fills.1))
  fills_there Entries book puts fills first has = subst (HasThem l) (sym fills.2) (first, rows_there tables.NamedCorr has.0 fills.0)
  fills_there Braille book puts fills first has = subst (HasThem l) (sym fills.2) (rows_there tables.Cache has.0 fills.0)

pub new_there : (t : NewTables) (f : Format) (l : Layout) → IsOfFormat f l → (book : Book) (puts : List RowPut) → Fills t book puts → HasThem (with_tables (which_new t) l) puts
new_there EntriesAndBraille f l of book puts fills =
    fills_there (with_tables (which_new EntriesAndBraille) l) EntriesAndBraille book puts fills (has_in_both f l tables.Book of refl).1 (refl, (refl, tt))
new_there t f l of book puts fills = fills_there (with_tables (which_new t) l) t book puts fills (has_in_both f l tables.Book of refl).1 (refl, tt)

-- ---- none of the new tables is `corr`

new_written : (t : NewTables) → AreWritten (which_new t)
new_written EntriesAndBraille = (refl, (refl, tt))
new_written t = (refl, tt)

pub are_written : (t : NewTables) (ts : List FileTable) → ts ≡ which_new t → AreWritten ts
are_written t ts are = subst AreWritten (sym are) (new_written t)

-- ---- the rows once the tables are there

pub emptied : (t : NewTables) (l : Layout) (others : Trees) (c : Contents) → rows_of (with_tables (which_new t) l) (with_none (which_new t) others c) ≡ with_empty t (rows_of l c)
emptied EntriesAndBraille l others c = refl
emptied t l others c = refl

-- ---- what stays

-- what is put into tables of a new file leaves `corr` as it was
one_keeps : (it : RowPut) (c : Contents) → is_among new_tables (table_put it) ≡ true → (put_into c it).rows tables.Corr ≡ c.rows tables.Corr
one_keeps (PutRow tables.Corr row) c new = absurd (true≢false (sym new))
one_keeps (SetColumns tables.Corr key none) c new = absurd none
one_keeps it c new = refl

keep_corrs : (s : Schema) (puts : List RowPut) (c : Contents) → HasThem (new_layout s) puts → (puts_into puts c).rows tables.Corr ≡ c.rows tables.Corr
keep_corrs s [] c new = refl
keep_corrs s (it ∷ puts) c new = keep_corrs s puts (put_into c it) new.1 ∙ one_keeps it c new.0

fills_new : (t : NewTables) (s : Schema) (book : Book) (puts : List RowPut) → Fills t book puts → HasThem (new_layout s) puts
fills_new EntriesAndBraille s book puts fills = fills_there (new_layout s) EntriesAndBraille book puts fills refl (refl, (refl, tt))
fills_new t s book puts fills = fills_there (new_layout s) t book puts fills refl (refl, tt)

keep_others : (puts : List RowPut) (c : Contents) → (puts_into puts c).others ≡ c.others
keep_others [] c = refl
keep_others (it ∷ puts) c = keep_others puts (put_into c it)

none_of_corrs : (t : NewTables) (others : Trees) (c : Contents) → (with_none (which_new t) others c).rows tables.Corr ≡ c.rows tables.Corr
none_of_corrs EntriesAndBraille others c = refl
none_of_corrs t others c = refl

-- ---- the book in the file with these tables

module _ (t : NewTables) (l : Layout) (book : Book) (puts : List RowPut) (fills : Fills t book puts) (s : State) (stands : Stands l book s) (P : Layout → Contents → Type 0) where
  pub gained : IsGrown (which_new t) puts l stands.1.0 s.now.trees P → HasGained (which_new t) l stands.1.0 book s.now.trees P
  gained (others, rows, aside, is) =
      let c = stands.1.0 in
      let after = with_tables (which_new t) l in
      let empty = with_none (which_new t) others c in
      let same = all_put after empty puts ∙ ap (with_puts puts) (emptied t l others c) in (
        puts_into puts empty,
        (
          is,
          keep_corrs l.schema puts empty (fills_new t l.schema book puts fills) ∙ none_of_corrs t others c,
          subst (KeepsRows l.schema.tables s.now.trees) (sym (keep_others puts empty)) rows,
          subst (KeepsAside l.schema s.now.trees) (sym (keep_others puts empty)) aside,
        ),
        subst (λ (rows : FileRows). RowsShow rows book) (sym same) (filled-shown t (rows_of l c) book puts stands.1.2 fills),
      )

-- ---- what ran, in any file

pub left_filled : {S : Type 0} (g : Ghosts S) (t : NewTables) (book : Book) (puts : List RowPut) → Fills t book puts → (ts : List FileTable) → ts ≡ which_new t
    → (old : Held S) (new : State) → Survives (state g old) new ((making_tables g ts LendsFirst puts).Left old)
    → Survives (state g old) new (λ db. (last : Held S) × FillsLacked g (Some t) book old last × (db ≡ (state g last).now.trees))
left_filled g t book puts fills ts are old new =
    survives_weaker (state g old) new _ _
    (λ clean db left. let run = (left_made g puts old ts db left).1 in (run.0, (ts, puts, (are, fills), run.1), run.2))

-- ---- what is written, and what a crash leaves

module _ (t : NewTables) (book : Book) (puts : List RowPut) (fills : Fills t book puts) (ts : List FileTable) (are : ts ≡ which_new t) (old : State) where
  -- a file that is grown by them holds the book
  pub gains : (P : Layout → Contents → Type 0)
      → ((l : Layout) (c : Contents) → Differ ts → HasThem (with_tables ts l) puts → ShowsContents l c old → IsGrown ts puts l c old.now.trees P)
      → (l : Layout) (stands : Stands l book old) → HasGained (which_new t) l stands.1.0 book old.now.trees P
  gains P grows l stands =
      let it = λ (tables : List FileTable). Differ tables → HasThem (with_tables tables l) puts → ShowsContents l stands.1.0 old
      → IsGrown tables puts l stands.1.0 old.now.trees P in
      gained t l book puts fills old stands P
      (subst it are (grows l stands.1.0) (new_differ t) (new_there t stands.0.0 l stands.0.1 book puts fills) stands.1.1)

  pub crash_gained : {P : Trees → Type 0} {new : State} → ((db : Trees) → P db → IsFileWithTables ts puts old db)
      → Survives old new P → Survives old new (HoldsWith (which_new t) book old)
  crash_gained file = survives_weaker old _ _ _ (λ clean db left. gains (λ after d. IsFile after d db) (file db left))
