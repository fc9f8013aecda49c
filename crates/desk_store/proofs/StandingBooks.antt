-- A book that stands in a file is never refused there.
use Rattle.std.proofs.Common.{◌≡◌, pos, Bool, List, [], ◌∷◌, inl, inr, arith, refl, sym, subst, ap, ◌∙◌, true≢false}
use Rattle.std.specs.Prelude.{◌≤ℤ◌, if◌then◌else◌, Result, Ok, Err}
use Rattle.std.specs.List.{AllByRecursion}
use Rattle.std.proofs.lemmas.Int.{ints}
use Rattle.std.proofs.lemmas.List.Elements.{recursion_from_All}
use Rattle.sqlite_trees.specs.declared.store.Store.{Ghosts}
use Rattle.sqlite.specs.Held.{Held, state}
use Rattle.sqlite.specs.State.{State}
use Rattle.desk_model.specs.Book.{Book}
use Rattle.desk_parts.specs.declared.file_table.FileTable.TheVariants as tables
use Rattle.desk_parts.specs.FileRows.{HasUtf8Texts, Named, Unnamed, entries_in, format_of}
use Rattle.desk_parts.specs.Rows.{Corr}
use Rattle.desk_model.specs.Shows.{Shows as RowsShow, book_row_of}
use Rattle.desk_parts.specs.declared.rows.BookRow.{BookRow}
use Rattle.desk_model.proofs.Callers.{one_book, undamaged as sound}
use Rattle.desk_store.specs.BookFile.{rows_of}
use Rattle.desk_rows.specs.Contents.{Contents}
use Rattle.desk_store.specs.Formats.{Format, IsOfFormat, unnamed, named}
use Rattle.desk_rows.specs.Layout.{Layout}
use Rattle.desk_store.specs.Found.{HasNone, format_kept}
use Rattle.desk_store.specs.Opened.{FindsBook, OpensBook, Stands, TellsOf}
use Rattle.desk_store.specs.Opening.{CanAllBeRead, IsRefusal, format_in}
use Rattle.desk_store.specs.ReadingSteps.{AreEntriesReadable}
use Rattle.desk_store.specs.declared.fault.OpenFault.{OpenFault}
use Rattle.desk_store.specs.declared.fault.OpenFault.TheVariants.{NotABook, Damaged, NewerFormat}
use Rattle.desk_store.proofs.AnyFile.{all_readable}
use Rattle.desk_store.proofs.FoundFormats.{books_there}
use Rattle.desk_store.proofs.JudgedTables.{at_most_two, numbered, same_head}
use Rattle.desk_store.proofs.Opened.{has_in_both}

-- ---- its texts

-- those of its entries, which have names or not
abbrev pub AreTextsIf : Contents → Bool → Type 0
AreTextsIf c has =
    AllByRecursion (HasUtf8Texts tables.NamedCorr) (entries_in (if has then Named (c.rows tables.NamedCorr) else Unnamed (c.rows tables.Corr)))

bodies : (rows : List Corr) → AllByRecursion (HasUtf8Texts tables.NamedCorr) (entries_in (Unnamed rows)) → AllByRecursion (HasUtf8Texts tables.Corr) rows
bodies [] all = tt
bodies (row ∷ rows) all = (all.0.0, bodies rows all.1)

-- ---- its format

pub entries_are : (l : Layout) (c : Contents) (f : Format) → IsOfFormat f l → format_kept (rows_of l c).entries ≡ f
entries_are l c unnamed of = rw (of tables.NamedCorr).1 refl
entries_are l c named of = rw (of tables.NamedCorr).1 refl

-- ---- the book of a file of a format

module _ (l : Layout) (c : Contents) (book : Book) (shows : RowsShow (rows_of l c) book) where
  entry_texts : AllByRecursion (HasUtf8Texts tables.NamedCorr) (entries_in (rows_of l c).entries)
  entry_texts = recursion_from_All (HasUtf8Texts tables.NamedCorr) (entries_in (rows_of l c).entries) shows.texts.entries

  entries_read : (f : Format) → IsOfFormat f l → AreEntriesReadable f l c
  entries_read unnamed of = bodies (c.rows tables.Corr) (subst (AreTextsIf c) (of tables.NamedCorr).1 entry_texts)
  entries_read named of = subst (AreTextsIf c) (of tables.NamedCorr).1 entry_texts

  pub can_be_read : (f : Format) → IsOfFormat f l → CanAllBeRead f l c
  can_be_read f of =
      all_readable f l c of (recursion_from_All _ _ shows.texts.tabs) (recursion_from_All _ _ shows.texts.paras) (entries_read f of)
      (recursion_from_All _ _ shows.texts.marks)

  head_is : (row : BookRow) → c.rows tables.Book ≡ row ∷ [] → row ≡ book_row_of (format_of (rows_of l c).entries) book.version
  head_is row is = same_head row _ (sym is ∙ shows.row)

  pub low_format : (row : BookRow) → c.rows tables.Book ≡ row ∷ [] → row.format ≤ℤ pos 2
  low_format row is = at_most_two (rows_of l c).entries book.version row (head_is row is)

  pub row_is : (f : Format) → IsOfFormat f l → (row : BookRow) → c.rows tables.Book ≡ row ∷ [] → format_in row.format ≡ f
  row_is f of row is = ap (λ (r : BookRow). format_in r.format) (head_is row is) ∙ numbered (rows_of l c).entries ∙ entries_are l c f of

  pub never_refused : (f : Format) → IsOfFormat f l → (reported : OpenFault) → TellsOf l c reported → ¬ IsRefusal reported
  never_refused f of NotABook (inl none) is = absurd (true≢false (sym (has_in_both f l tables.Book of refl).1 ∙ none))
  never_refused f of NotABook (inr (row, there, book_row, not)) is =
      not (subst (λ (g : Format). CanAllBeRead g l c) (sym (row_is f of row book_row.alone)) (can_be_read f of))
  never_refused f of (Damaged table id) (inl (there, is_book, damaged, known)) is = sound (rows_of l c) book shows tables.Book id damaged
  never_refused f of (Damaged table id) (inr damage) is = sound (rows_of l c) book shows table id damage.first.damaged
  never_refused f of NewerFormat (there, (row, one, later)) is = let low = low_format row one in omega (arith, ints, low, later)
  never_refused f of reported tells is = is

not_bare : (f : Format) (l : Layout) → IsOfFormat f l → ¬ HasNone l.schema
not_bare f l of none = let there = books_there f l of in absurd (true≢false (rw there at none))

module _ {S : Type 0} (g : Ghosts S) (make : Bool) (old : Held S) (new : State) where
  pub found_there : (result : Result Book OpenFault) → OpensBook g make old new result → (l : Layout) (book : Book) → Stands l book (state g old)
      → FindsBook (λ found. found ≡ book) result
  found_there (Ok found) opens l book (of, (c, shows, rows)) =
      (one_book (rows_of l c) found book (opens.stands.opened l c of shows).rows rows, tt)
  found_there (Err fault) opens l book (of, (c, shows, rows)) =
      (tt, never_refused l c book rows of.0 of.1 fault (opens.reports.declared l c (not_bare of.0 l of.1) (inr of) shows))
