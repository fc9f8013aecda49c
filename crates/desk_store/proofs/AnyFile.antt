-- What is read of any file, in the state that the reads began with.
use Rattle.std.proofs.Common.{◌≡◌, ℕ, true, false, List, [], Ok, Some, None, Option, refl, sym, subst, ◌∙◌}
use Rattle.std.specs.List.{AllByRecursion}
use Rattle.sqlite_resolve.specs.Compile.{first}
use Rattle.sqlite_trees.proofs.ListLemmas.{all_of}
use Rattle.sqlite_value.specs.Order.{Row}
use Rattle.sqlite.specs.Clock.{timed}
use Rattle.sqlite.specs.Effect.{Database, RefusesToRead}
use Rattle.sqlite.specs.Listing.{IsSourceOf, reads_listing, understood}
use Rattle.sqlite.specs.State.{IsStatement, IsUnchanged, Shown, ShowsRows, State}
use Rattle.sqlite.specs.declared.error.Error.{Error}
use Rattle.sql_tables.specs.States.{HasAnswer}
use Rattle.sql_tables.proofs.Quiet.{never_returns, reads}
use Rattle.desk_parts.specs.declared.file_table.FileTable.{FileTable}
use Rattle.desk_parts.specs.declared.file_table.FileTable.TheVariants as tables
use Rattle.desk_parts.specs.FileRows.{EntryRows, HasUtf8Texts, Named, Unnamed}
use Rattle.desk_parts.specs.Rows.{ParaCells}
use Rattle.desk_rows.specs.TableQuery.{AreShownBy, query_of}
use Rattle.desk_rows.specs.Contents.{Contents}
use Rattle.desk_store.specs.Formats.{Format, IsOfFormat, named, presence, unnamed}
use Rattle.desk_store.specs.Found.{AreCellsIn, AreEntriesIn, CanAllAnswer, CanAnswer, IsReadAs}
use Rattle.desk_rows.specs.Layout.{Layout}
use Rattle.desk_store.specs.Opening.{CanAllBeRead, Stays}
use Rattle.desk_store.specs.ReadingSteps.{AreEntriesReadable, ShowsReadable}
use Rattle.desk_rows.specs.Rows.{ShownOf, shown_columns}
use Rattle.desk_rows.specs.Tables.{is_there}
use Rattle.desk_store.proofs.Opened.{shows_still}
use Rattle.desk_rows.proofs.TableReads.WholeReads.{reads_only}

-- ---- a query

module _ (text : List ℕ) (is_read : reads (first text) ≡ true) (s a : State) (same : Stays s a) where
  as_it_is : (b : State) → IsUnchanged a b → IsUnchanged s s
  as_it_is b quiet =
      let is_open = sym same.is_open ∙ quiet.0.was_open in
      (record { was_open = is_open; is_open = is_open; now_is = refl; committed_is = refl; mode = refl }, record { changes = refl; last_rowid = refl }, refl)

  -- what it shows once nothing has changed it shows before, too
  pub shown_before : (b : State) (rows : List Row) → Shown text [] a b rows → Shown text [] s s rows
  unfolding Shown
  shown_before b rows h =
      let none = never_returns text is_read a.now.schema h.0 h.1.is in
      let full = timed [] h.0.formats h.1.now in
      let it : ShowsRows a b text h.0 full rows None = subst (ShowsRows a b text h.0 full rows) none h.2 in
      let is : IsStatement s text [] h.0 = record { is = subst (λ (d : Database). understood d.schema text ≡ Ok h.0) same.now h.1.is; whole = h.1.whole; given = h.1.given; now = h.1.now } in
      let source = subst (λ (d : Database). IsSourceOf (reads_listing d.schema text) d it.0) same.now it.1 in
      (h.0, is, subst (ShowsRows s s text h.0 full rows) (sym none) (it.0, source, it.2, as_it_is b it.3))

  -- and it still has an answer
  pub answer_still : HasAnswer text s → HasAnswer text a
  answer_still can = record {
    compiled = can.compiled;
    is = record { is = subst (λ (d : Database). understood d.schema text ≡ Ok can.compiled) (sym same.now) can.is.is; whole = can.is.whole; given = can.is.given; now = can.is.now };
    timeless = can.timeless;
    unrefused = subst (λ (d : Database). (db : Database) → IsSourceOf (reads_listing d.schema text) d db → (e : Error) → ¬ RefusesToRead None can.compiled.command db [] e) (sym same.now) can.unrefused;
  }

-- ---- a table

module _ (s a : State) (same : Stays s a) where
  pub gives_before : (t : FileTable) (b : State) (rows : List (ShownOf t)) → AreShownBy (query_of t) (shown_columns t) a b rows → AreShownBy (query_of t) (shown_columns t) s s rows
  gives_before t b rows h = (h.0, shown_before (query_of t).text (reads_only t) s a same b h.0 h.1, h.2)

  pub entries_before : (entries : EntryRows) → AreEntriesIn a entries → AreEntriesIn s entries
  entries_before (Unnamed rows) are = (gives_before tables.Corr a rows are.0, are.1)
  entries_before (Named rows) are = (gives_before tables.NamedCorr a rows are.0, are.1)

  pub cells_before : (cells : Option (List ParaCells)) → AreCellsIn a cells → AreCellsIn s cells
  cells_before None none = subst (λ (d : Database). is_there d.schema tables.Cache ≡ false) same.now none
  cells_before (Some rows) are =
      (subst (λ (d : Database). is_there d.schema tables.Cache ≡ true) same.now are.0, (gives_before tables.Cache a rows are.1.0, are.1.1))

  pub readable_still : (f : Format) → a.step_limit ≡ s.step_limit → ShowsReadable f s → ShowsReadable f a
  readable_still f limit r = (r.0, r.1, r.2, shows_still s a same r.0 r.1 r.3, r.4, limit ∙ r.5)

  can_still : (t : FileTable) → CanAnswer s t → CanAnswer a t
  can_still t can = record {
    has = answer_still (query_of t).text (reads_only t) s a same can.has;
    kinds = λ rows seen. can.kinds rows (shown_before (query_of t).text (reads_only t) s a same a rows seen);
    apart = λ rows gives. can.apart rows (gives_before t a rows gives);
  }

  pub can_all_still : (f : Format) → CanAllAnswer f s → CanAllAnswer f a
  can_all_still f can t is_read = can_still t (can t (subst (λ (d : Database). IsReadAs (presence f t) (is_there d.schema t)) same.now is_read))

-- ---- texts

-- a file of the format can be read if its texts can
pub all_readable : (f : Format) (l : Layout) (c : Contents) → IsOfFormat f l → AllByRecursion (HasUtf8Texts tables.Tab) (c.rows tables.Tab) → AllByRecursion (HasUtf8Texts tables.Para) (c.rows tables.Para)
    → AreEntriesReadable f l c → AllByRecursion (HasUtf8Texts tables.Mark) (c.rows tables.Mark) → CanAllBeRead f l c
all_readable unnamed l c of names prints entries notes tables.Corr = ((of tables.Corr).1, entries)
all_readable named l c of names prints entries notes tables.Corr = tt
all_readable unnamed l c of names prints entries notes tables.NamedCorr = (of tables.NamedCorr).1
all_readable named l c of names prints entries notes tables.NamedCorr = ((of tables.NamedCorr).1, entries)
all_readable f l c of names prints entries notes tables.Book = ((of tables.Book).1, all_of (HasUtf8Texts tables.Book) (λ row. tt) (c.rows tables.Book))
all_readable f l c of names prints entries notes tables.Tab = ((of tables.Tab).1, names)
all_readable f l c of names prints entries notes tables.Para = ((of tables.Para).1, prints)
all_readable f l c of names prints entries notes tables.Mark = ((of tables.Mark).1, notes)
all_readable f l c of names prints entries notes t = λ there. all_of (HasUtf8Texts tables.Cache) (λ row. tt) (c.rows tables.Cache)
