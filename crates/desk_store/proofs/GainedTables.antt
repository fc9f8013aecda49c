-- A file that gains no table is as it was, and one that gained some, and is settled, leaves the book with them.
use Rattle.std.proofs.Common.{◌≡◌, List, [], Option, None, inl, inr, ap, refl, sym, subst}
use Rattle.sqlite_schema.specs.declared.schema.Table.{Table}
use Rattle.sqlite_trees.specs.Tree.{Trees}
use Rattle.sqlite_trees.proofs.ListLemmas.{all_of}
use Rattle.sqlite.specs.State.{State}
use Rattle.desk_parts.specs.declared.file_table.FileTable.{FileTable}
use Rattle.sql_tables.specs.States.{IsSettled, Leaves}
use Rattle.desk_model.specs.Book.{Book}
use Rattle.desk_model.specs.Shows.{Shows as RowsShow}
use Rattle.desk_store.specs.BookFile.{rows_of}
use Rattle.desk_store.specs.Keeping.{HoldsBook, LeavesBook}
use Rattle.desk_rows.specs.Contents.{Contents}
use Rattle.desk_rows.specs.Layout.{IsOther, Layout}
use Rattle.desk_rows.specs.Making.{with_tables}
use Rattle.desk_model.specs.declared.new_tables.NewTables.{NewTables}
use Rattle.desk_store.specs.FillingSteps.{HoldsEitherWith, which_lacked}
use Rattle.desk_store.specs.Completing.{HasGained}
use Rattle.desk_rows.specs.States.{ShowsContents}
use Rattle.desk_store.proofs.BookKeeps.{leaves_shown}

module _ (l : Layout) (c : Contents) (book : Book) (s : State) where
  -- the contents with the other trees as they stand
  abbrev as_it_stands : Contents
  as_it_stands = record { rows = c.rows; others = s.now.trees }

  stays_shown : ShowsContents l c s → ShowsContents l as_it_stands s
  stays_shown shows = record {
    schema = shows.schema;
    is = record {
      declared = shows.is.declared;
      sound = shows.is.sound;
      tables = shows.is.tables;
      ids = shows.is.ids;
      others = all_of (λ (t : Table). IsOther l t.tree → s.now.trees t.tree ≡ s.now.trees t.tree) (λ t other. refl) l.schema.tables;
      aside = λ tree other no_index. refl;
    };
  }

  pub gains_none : ShowsContents l c s → RowsShow (rows_of l c) book → HasGained [] l c book s.now.trees (λ after d. ShowsContents after d s)
  gains_none shows rows = (
    as_it_stands,
    (
      stays_shown shows,
      refl,
      all_of (λ (t : Table). s.now.trees t.tree ≡ s.now.trees t.tree) (λ t. refl) l.schema.tables,
      record { rows = λ tree is. refl; texts = λ row has foreign. has; version = refl },
    ),
    rows,
  )

  pub leaves_gained : (tables : List FileTable) (rows : Trees) → HasGained tables l c book rows (λ after d. ShowsContents after d s) → IsSettled s → LeavesBook (with_tables tables l) book s
  leaves_gained tables rows gained = leaves_shown (with_tables tables l) book s (gained.0, gained.1.0, gained.2)

-- one that lacks no table has exactly one form
pub left_whole : (lacked : Option NewTables) (l : Layout) (book : Book) (s : State) → lacked ≡ None → Leaves (HoldsEitherWith (which_lacked lacked) l book) s
    → LeavesBook (with_tables (which_lacked lacked) l) book s
left_whole lacked l book s none leaves db left =
    let same : with_tables (which_lacked lacked) l ≡ l = ap (λ (some : Option NewTables). with_tables (which_lacked some) l) none in
    elim (leaves db left) [ inl old ↦ subst (λ (m : Layout). HoldsBook m book db) (sym same) old | inr new ↦ new ]
