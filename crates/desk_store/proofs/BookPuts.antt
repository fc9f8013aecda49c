-- What is put into a file, as what is put into the rows of a book.
use Rattle.std.proofs.Common.{◌≡◌, Bool, true, false, if◌then◌else◌, List, [], ◌∷◌, ◌++◌, map, Option, Some, None, option_map, refl, subst, ap, ◌∙◌}
use Rattle.sqlite_trees.specs.Tree.{Trees}
use Rattle.sqlite_trees.specs.declared.store.Store.{Ghosts}
use Rattle.sqlite.specs.Held.{Held, state}
use Rattle.sqlite.specs.State.{State}
use Rattle.desk_parts.specs.declared.file_table.FileTable.{FileTable}
use Rattle.desk_parts.specs.declared.file_table.FileTable.TheVariants as tables
use Rattle.desk_parts.specs.FileRows.{EntryRows, Named, Unnamed}
use Rattle.desk_parts.specs.Puts.{LendsFirst, RowPut, change_of, table_put, with_named, with_puts, with_rows_of, with_unnamed}
use Rattle.desk_parts.specs.Rows.{ParaCells, RowOf}
use Rattle.desk_store.specs.BookFile.{rows_of}
use Rattle.desk_rows.specs.Commits.{making_tables, putting_items}
use Rattle.desk_rows.specs.Contents.{Contents}
use Rattle.desk_rows.specs.Layout.{Layout}
use Rattle.desk_rows.specs.Making.{IsFileWithTables, WritesWithTables, creation}
use Rattle.desk_rows.specs.Puts.{IsFileWith, OfItems, Writes, put_into, puts_into, statement}
use Rattle.desk_rows.specs.Rows.{set_at}
use Rattle.desk_rows.specs.Statements.{AreRun, IsLeftBy}
use Rattle.desk_rows.proofs.RowPuts.LentPuts.{all_lent}

-- what holds of what is put, for an iterator that lends the first of what is left
lent : (puts : List RowPut) (P Q : List RowPut → Type 0) → OfItems LendsFirst puts (λ xs. P xs × Q xs) → P puts × Q puts
lent puts P Q (ps, drained, are) = subst (λ (ys : List RowPut). P ys × Q ys) (all_lent puts ps drained) are

-- so what a connection shows of them once they are committed, and what a crash leaves, is said of them, also where tables were made first
module _ {S : Type 0} (g : Ghosts S) (puts : List RowPut) (old : Held S) where
  pub shown_put : (new : State) → (putting_items g LendsFirst puts).Shown old new → Writes puts (state g old) new × AreRun g (map statement puts) old new
  shown_put new = lent puts (λ xs. Writes xs (state g old) new) (λ xs. AreRun g (map statement xs) old new)

  pub left_put : (db : Trees) → (putting_items g LendsFirst puts).Left old db → IsFileWith puts (state g old) db × IsLeftBy g (map statement puts) old db
  left_put db = lent puts (λ xs. IsFileWith xs (state g old) db) (λ xs. IsLeftBy g (map statement xs) old db)

  pub shown_made : (tables : List FileTable) (new : State) → (making_tables g tables LendsFirst puts).Shown old new
      → WritesWithTables tables puts (state g old) new × AreRun g (map creation tables ++ map statement puts) old new
  shown_made tables new = lent puts (λ xs. WritesWithTables tables xs (state g old) new) (λ xs. AreRun g (map creation tables ++ map statement xs) old new)

  pub left_made : (tables : List FileTable) (db : Trees) → (making_tables g tables LendsFirst puts).Left old db
      → IsFileWithTables tables puts (state g old) db × IsLeftBy g (map creation tables ++ map statement puts) old db
  left_made tables db = lent puts (λ xs. IsFileWithTables tables xs (state g old) db) (λ xs. IsLeftBy g (map creation tables ++ map statement xs) old db)

-- what is changed in either case is what there is in it, changed
either_changed : {X : Type 0} (change : X → X) (x y : X) (b : Bool) → (if b then change x else change y) ≡ change (if b then x else y)
either_changed change x y true = refl
either_changed change x y false = refl

module _ (l : Layout) where
  -- other rows in one table
  rows_changed : (t : FileTable) (change : List (RowOf t) → List (RowOf t)) (c : Contents) → rows_of l (record c { rows = set_at t change c.rows }) ≡ with_rows_of t change (rows_of l c)
  rows_changed tables.Corr change c =
      ap (λ (entries : EntryRows). record (rows_of l c) { entries = entries }) (either_changed (with_unnamed change) (Named (c.rows tables.NamedCorr)) (Unnamed (c.rows tables.Corr)) (l.has tables.NamedCorr))
  rows_changed tables.Cache change c =
      ap (λ (caches : Option (List ParaCells)). record (rows_of l c) { caches = caches }) (either_changed (option_map change) (Some (c.rows tables.Cache)) None (l.has tables.Cache))
  rows_changed tables.NamedCorr change c =
      ap (λ (entries : EntryRows). record (rows_of l c) { entries = entries }) (either_changed (with_named change) (Named (c.rows tables.NamedCorr)) (Unnamed (c.rows tables.Corr)) (l.has tables.NamedCorr))
  rows_changed t change c = refl

  pub all_put : (c : Contents) (puts : List RowPut) → rows_of l (puts_into puts c) ≡ with_puts puts (rows_of l c)
  all_put c [] = refl
  all_put c (it ∷ puts) = all_put (put_into c it) puts ∙ ap (with_puts puts) (rows_changed (table_put it) (change_of it) c)
