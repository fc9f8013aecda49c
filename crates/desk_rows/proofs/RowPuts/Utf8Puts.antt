-- What is put in UTF-8 leaves the texts of the contents in UTF-8.
use Rattle.std.proofs.Common.{Bool, true, false, List, [], ◌∷◌, if◌then◌else◌}
use Rattle.std.specs.List.{AllByRecursion}
use Rattle.sqlite_trees.proofs.ListLemmas.{all-filter, all-map, all_weaker}
use Rattle.desk_parts.specs.declared.file_table.FileTable.{FileTable}
use Rattle.desk_parts.specs.declared.file_table.FileTable.TheVariants as tables
use Rattle.desk_parts.specs.Puts.{ColumnsOf, KeyOf, RowPut, PutRow, SetColumns, Flags, Place, Print, Resolved, Span, Table, Version, has_key, put_to, with_columns}
use Rattle.desk_rows.specs.Contents.{Contents}
use Rattle.desk_rows.specs.Puts.{put_into, puts_into}
use Rattle.desk_rows.specs.Rows.{set_at}
use Rattle.desk_parts.specs.Rows.{RowOf}
use Rattle.desk_parts.specs.FileRows.{HasUtf8Texts}
use Rattle.desk_rows.specs.Whole.{AreUtf8, IsUtf8Put}
use Rattle.desk_rows.proofs.RowPuts.Changing.{each_set}
use Rattle.desk_rows.proofs.RowPuts.PutTables.{set_by_key}

all_set : {X : Type 0} (P : X → Type 0) (has_key : X → Bool) (set : X → X) → ((x : X) → P x → P (set x)) → (xs : List X) → AllByRecursion P xs → AllByRecursion P (set_by_key has_key set xs)
all_set {X} P has_key set stays xs all = all-map P _ xs (all_weaker P _ (λ x is. go x is (has_key x)) xs all)
  where
    go : (x : X) → P x → (b : Bool) → P (if b then set x else x)
    go x is true = stays x is
    go x is false = is

-- ---- each table

all_put : (t : FileTable) (x : RowOf t) (xs : List (RowOf t)) → HasUtf8Texts t x → AllByRecursion (HasUtf8Texts t) xs → AllByRecursion (HasUtf8Texts t) (put_to t x xs)
all_put tables.Corr x xs is all = (is, all)
all_put tables.NamedCorr x xs is all = (is, all)
all_put t x xs is all = (is, all-filter (HasUtf8Texts t) _ xs all)

-- ---- all tables

-- the rows of one table change, and those of others stay
changed : (t : FileTable) (f : List (RowOf t) → List (RowOf t)) (c : Contents) → (AllByRecursion (HasUtf8Texts t) (c.rows t) → AllByRecursion (HasUtf8Texts t) (f (c.rows t))) → AreUtf8 c → AreUtf8 (record c { rows = set_at t f c.rows })
changed t f c stays all v = each_set (λ v. AllByRecursion (HasUtf8Texts v)) t f c.rows (stays (all t)) v (λ other. all v)

columns_stay : (t : FileTable) (key : KeyOf t) (columns : ColumnsOf t) → IsUtf8Put (SetColumns t key columns) → (x : RowOf t) → HasUtf8Texts t x → HasUtf8Texts t (with_columns t columns x)
columns_stay tables.Book key (Version version) is b was = was
columns_stay tables.Para key (Place place) is p was = was
columns_stay tables.Para key (Flags style volume struck) is p was = was
columns_stay tables.Para key (Table tab) is p was = (is, was.1, was.2)
columns_stay tables.Para key (Print print) is p was = (was.0, was.1, is)
columns_stay tables.Mark key (Span start stop touched) is m was = was
columns_stay tables.Mark key (Resolved resolved) is m was = was
columns_stay t key none is x was = absurd none

one_put : (it : RowPut) (c : Contents) → IsUtf8Put it → AreUtf8 c → AreUtf8 (put_into c it)
one_put (PutRow t row) c is all = changed t (put_to t row) c (all_put t row (c.rows t) is) all
one_put (SetColumns t key columns) c is all =
    changed t (set_by_key (has_key t key) (with_columns t columns)) c (all_set (HasUtf8Texts t) (has_key t key) (with_columns t columns) (columns_stay t key columns is) (c.rows t)) all

pub texts_stay : (puts : List RowPut) (c : Contents) → AllByRecursion IsUtf8Put puts → AreUtf8 c → AreUtf8 (puts_into puts c)
texts_stay [] c are all = all
texts_stay (it ∷ puts) c are all = texts_stay puts (put_into c it) are.1 (one_put it c are.0 all)
