-- What a change that is put into a file does to its book.
use Rattle.std.proofs.Common.{◌≡◌, true, List, inl, inr, refl, sym, subst, true≢false}
use Rattle.std.proofs.lemmas.List.Elements.{All-weaker, recursion_from_All}
use Rattle.sqlite_trees.specs.Tree.{Trees}
use Rattle.sqlite.specs.State.{HasCleanDisk, State, Survives}
use Rattle.sql_tables.specs.States.{IsSettled}
use Rattle.desk_model.specs.Book.{Book}
use Rattle.desk_model.specs.declared.command.Command.{Command}
use Rattle.desk_model.specs.Loans.{AreLent, IsLent, LeadTo}
use Rattle.desk_book.specs.Changes.{Carries, Change}
use Rattle.desk_parts.specs.declared.file_table.FileTable.{FileTable}
use Rattle.desk_parts.specs.declared.file_table.FileTable.TheVariants as tables
use Rattle.desk_parts.specs.Puts.{RowPut, PutRow, SetColumns, table_put}
use Rattle.desk_parts.specs.FileRows.{FileRows, table_of}
use Rattle.desk_model.specs.Shows.{Shows as RowsShow}
use Rattle.desk_store.specs.BookFile.{rows_of}
use Rattle.desk_store.specs.Keeping.{HasNewTables, HoldsBook, HoldsKept, LeavesBook, LeavesEither, MayKeep, MayServe, ShowsBook}
use Rattle.desk_rows.specs.Contents.{Contents}
use Rattle.desk_rows.specs.Layout.{Layout}
use Rattle.desk_rows.specs.Making.{is_among, new_tables}
use Rattle.desk_rows.specs.Puts.{HasThem, IsFileWith, Writes, puts_into}
use Rattle.desk_store.proofs.BookPuts.{all_put}

-- ---- a file that keeps what it shows

pub leaves_shown : (l : Layout) (book : Book) (s : State) → ShowsBook l book s → IsSettled s → LeavesBook l book s
leaves_shown l book s shows settled db left =
    subst (HoldsBook l book) (sym (settled db left)) (shows.0, shows.1.is, shows.2)

pub serves_shown : (l : Layout) (book : Book) (s : State) → HasNewTables l → ShowsBook l book s → IsSettled s
    → MayServe l book s
serves_shown l book s has shows settled =
    record { tables = has; shows = shows; leaves = leaves_shown l book s shows settled }

-- ---- the tables of a new file

-- it has all but `corr`
pub has_new : (l : Layout) → HasNewTables l → (t : FileTable) → is_among new_tables t ≡ true → l.has t ≡ true
has_new l has tables.Book among = has.0
has_new l has tables.Tab among = has.1.0
has_new l has tables.Para among = has.1.1.0
has_new l has tables.Corr among = absurd (true≢false (sym among))
has_new l has tables.Mark among = has.1.1.1.0
has_new l has tables.Cache among = has.1.1.1.1.0
has_new l has tables.NamedCorr among = has.1.1.1.1.1.0

-- what is lent is put into one of them
put_among : (book next : Book) (command : Command) (it : RowPut) → IsLent book next command it → is_among new_tables (table_put it) ≡ true
put_among book next command (PutRow tables.Corr row) lent = absurd lent
put_among book next command (SetColumns tables.Corr key none) lent = absurd none
put_among book next command it lent = refl

-- ---- the tables of what is put

module _ (l : Layout) (has : HasNewTables l) where
  has_them : (book next : Book) (command : Command) (puts : List RowPut) → AreLent book next command puts → HasThem l puts
  has_them book next command puts lent =
      recursion_from_All _ puts
      (All-weaker (IsLent book next command) _ (λ it one. has_new l has (table_put it) (put_among book next command it one)) puts lent)

  named_entries : (c : Contents) → table_of (rows_of l c).entries ≡ tables.NamedCorr
  named_entries c = rw (has_new l has tables.NamedCorr refl) refl

-- ---- the book of the file with what a change puts

module _ (book : Book) (change : Change) (puts : List RowPut)
    (leads : (command : Command) (next : Book) → Carries book command next change → LeadTo book puts next)
    (lent : (command : Command) (next : Book) → Carries book command next change → AreLent book next command puts)
    (l : Layout) (next : Book) (old : State) (may : MayKeep l book change next old) where
  there : HasThem l puts
  there = has_them l may.tables book next may.leads.0 puts (lent may.leads.0 next may.leads.1)

  rows_show : RowsShow (rows_of l (puts_into puts may.shows.0)) next
  rows_show =
      subst (λ (rows : FileRows). RowsShow rows next) (sym (all_put l may.shows.0 puts))
      (leads may.leads.0 next may.leads.1 (rows_of l may.shows.0) may.shows.2 (λ row put. named_entries l may.tables may.shows.0))

  pub holds_next : (db : Trees) → IsFileWith puts old db → HoldsBook l next db
  holds_next db with_them = (puts_into puts may.shows.0, with_them l may.shows.0 there may.shows.1, rows_show)

  pub is_kept : (new : State) → Writes puts old new → IsSettled new → MayServe l next new
  is_kept new writes = serves_shown l next new may.tables (puts_into puts may.shows.0, writes l may.shows.0 there may.shows.1, rows_show)

-- ---- what a crash leaves

pub leaves_either : (old new : State) (l : Layout) (book : Book) (change : Change) (next : Book) → Survives old new (HoldsKept book change old) → HasCleanDisk new → MayKeep l book change next old → LeavesBook l book old → LeavesEither l book next new
leaves_either old new l book change next survives clean may leaves db left = elim (survives.crash clean db left) [
  | inl before ↦ inl (leaves db before)
  | inr kept ↦ inr (kept l next may)
]
