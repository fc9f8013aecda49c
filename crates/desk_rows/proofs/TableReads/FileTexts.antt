-- The rows of a file can be read if the texts of its contents are UTF-8.
use Rattle.std.proofs.Common.{◌≡◌, true, drop, refl, rules}
use Rattle.std.specs.List.{AllByRecursion}
use Rattle.sqlite_value.specs.Order.{Row}
use Rattle.sqlite_trees.specs.Tree.{Trees}
use Rattle.sql_tables.specs.Kinds.{HaveIntegerRowids, IsUtf8Text}
use Rattle.sql_tables.specs.Rows.{columns_at}
use Rattle.sqlite_trees.proofs.ListLemmas.{all_both}
use Rattle.sql_tables.proofs.RowKinds.{IsKept, kept, behind, in_rows}
use Rattle.desk_rows.specs.TableQuery.{AreReadable}
use Rattle.desk_rows.specs.Contents.{Contents}
use Rattle.desk_rows.specs.Descriptions.{description_of, shows_rowid, table_of}
use Rattle.desk_rows.specs.Layout.{Layout}
use Rattle.desk_rows.specs.Rows.{columns_of}
use Rattle.desk_parts.specs.declared.file_table.FileTable.{FileTable}
use Rattle.desk_parts.specs.declared.file_table.FileTable.TheVariants as tables
use Rattle.desk_parts.specs.Rows.{RowOf}
use Rattle.desk_parts.specs.FileRows.{HasUtf8Texts}
use Rattle.desk_rows.specs.States.{IsFile}
use Rattle.desk_rows.specs.Whole.{AreUtf8}

-- ---- each table

-- the texts among a row's columns
columns_utf8 : (t : FileTable) (x : RowOf t) → HasUtf8Texts t x → AllByRecursion IsUtf8Text (columns_of t x)
columns_utf8 tables.Book x is = search rules
columns_utf8 t x is = search rules

-- those are all the texts of a row as its tree keeps it
row_utf8 : (t : FileTable) (tree : _) (row : Row) → IsKept (table_of t tree) row → AllByRecursion IsUtf8Text (columns_at (description_of t).own row) → AllByRecursion IsUtf8Text (drop 1 row)
row_utf8 tables.Book tree row is all = behind (table_of tables.Book tree) row is (search rules)
row_utf8 t tree row is all = behind (table_of t tree) row is (search rules)

-- a query that shows the rowid is of a table whose rows may be changed
is_changed : (t : FileTable) → shows_rowid t ≡ true → (description_of t).is_changed ≡ true
is_changed tables.Corr is = absurd (cc)
is_changed tables.NamedCorr is = absurd (cc)
is_changed t is = refl

-- ---- all tables

module _ (l : Layout) (c : Contents) (db : Trees) (is : IsFile l c db) where
  pub rowids : (t : FileTable) → l.has t ≡ true → shows_rowid t ≡ true → HaveIntegerRowids (db (l.tree t))
  rowids t there shows = (is.ids t there (is_changed t shows)).integers

  -- those of one table, if its texts are UTF-8
  pub readable_table : (t : FileTable) → l.has t ≡ true → AllByRecursion (HasUtf8Texts t) (c.rows t) → AreReadable t (db (l.tree t))
  readable_table t there utf8 =
      let texts = in_rows (columns_of t) (columns_at (description_of t).own) (HasUtf8Texts t) (columns_utf8 t) (c.rows t) (db (l.tree t)) utf8 (is.tables t there) in
      let own = kept l.schema (table_of t (l.tree t)) (is.declared t there) db is.sound in
      let all = all_both (IsKept (table_of t (l.tree t))) (λ row. AllByRecursion IsUtf8Text (columns_at (description_of t).own row)) (λ row. AllByRecursion IsUtf8Text (drop 1 row)) (row_utf8 t (l.tree t)) (db (l.tree t)) own texts in
      record { ids = rowids t there; texts = λ has. all }

  pub readable : AreUtf8 c → (t : FileTable) → l.has t ≡ true → AreReadable t (db (l.tree t))
  readable utf8 t there = readable_table t there (utf8 t)
