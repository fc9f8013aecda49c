-- What is read of any of the tables.
use Rattle.std.proofs.Common.{◌≡◌, drop, Bool, IsTrue, ℕ, true, List, [], ◌∷◌, map, refl, ap, ◌∙◌, is_lt, IsPermutation}
use Rattle.std.specs.List.{AllByRecursion}
use Rattle.std.specs.List.Sorted.{IsSortedBy}
use Rattle.std.specs.Ordering.{ordering_then}
use Rattle.std.specs.declared.cmp.Ordering.{Ordering}
use Rattle.std.specs.declared.cmp.Ordering.TheVariants.{Equal}
use Rattle.sqlite_value.specs.Order.{Row, column, value_cmp}
use Rattle.sqlite_schema.specs.declared.schema.Schema.{Schema}
use Rattle.sqlite_trees.specs.Tree.{rowid}
use Rattle.sqlite_trees.specs.View.{is_int}
use Rattle.sqlite_trees.proofs.ListLemmas.{all_both}
use Rattle.sqlite_sql.specs.Term.{col, eval_all}
use Rattle.sqlite_sql.specs.Query.{output_cmp}
use Rattle.sqlite_resolve.specs.Compile.{first}
use Rattle.sqlite_catalog.specs.Listing.{IsSound}
use Rattle.sqlite.specs.State.{State, Shown}
use Rattle.desk_parts.specs.declared.file_table.FileTable.{FileTable}
use Rattle.desk_parts.specs.declared.file_table.FileTable.TheVariants as tables
use Rattle.sql_tables.specs.Rows.{Lists, columns_at}
use Rattle.sql_tables.specs.Kinds.{IsUtf8Text, HasKinds}
use Rattle.sql_tables.specs.States.{HasAnswer}
use Rattle.sql_tables.specs.Tables.{IsDeclared}
use Rattle.sql_tables.proofs.Quiet.{reads}
use Rattle.sql_tables.proofs.OneTable.{query_on}
use Rattle.sql_tables.proofs.Orders.{Rises}
use Rattle.sql_tables.proofs.Reading.{parsed}
use Rattle.sql_tables.proofs.RowKinds.{IsKept, integer_of, numbered_kinds, hidden_kinds, all_texts, all_shown}
use Rattle.sql_tables.proofs.ReadAnswers.{can_answer}
use Rattle.sql_tables.proofs.WholeTables.{parts, reads_only as only_reads, rows_are}
use Rattle.desk_rows.specs.TableQuery.{AreReadable, given, query_of}
use Rattle.desk_rows.specs.Descriptions.{description_of, table_of, shows_rowid, has_texts}
use Rattle.desk_rows.proofs.TableReads.PlainReads.{is_read, sort_terms}

-- ---- each table

keys_are : (t : FileTable) (r : Row) → eval_all (sort_terms t) ([] ∷ r ∷ []) ≡ columns_at (description_of t).sorted (columns_at (description_of t).shown r)
keys_are tables.Book r = refl
keys_are t r = refl

given_again : (t : FileTable) (r : Row) → given t (columns_at (description_of t).shown r) ≡ columns_at (description_of t).shown r
given_again tables.Book r = refl
given_again t r = refl

-- what a row needs to be read
abbrev IsReadable : FileTable → Row → Type 0
IsReadable t row = (shows_rowid t ≡ true → IsTrue (is_int (rowid row))) × (has_texts t ≡ true → AllByRecursion IsUtf8Text (drop 1 row))

row_kinds : (t : FileTable) (tree : ℕ) (row : Row) → IsKept (table_of t tree) row → IsReadable t row → HasKinds (query_of t).kinds (columns_at (description_of t).shown row)
row_kinds tables.Book tree row kept is = (integer_of (rowid row) (is.0 refl), numbered_kinds (table_of tables.Book tree) row _ _ kept refl refl refl ((λ text. absurd (cc)), ((λ text. absurd (cc)), tt)))
row_kinds tables.Tab tree row kept is = (integer_of (rowid row) (is.0 refl), hidden_kinds (table_of tables.Tab tree) row kept refl refl (all_texts _ (description_of tables.Tab).columns (is.1 refl)))
row_kinds tables.Para tree row kept is = (integer_of (rowid row) (is.0 refl), numbered_kinds (table_of tables.Para tree) row _ _ kept refl refl refl (all_texts _ (drop 1 (description_of tables.Para).columns) (is.1 refl)))
row_kinds tables.Mark tree row kept is = (integer_of (rowid row) (is.0 refl), numbered_kinds (table_of tables.Mark tree) row _ _ kept refl refl refl (all_texts _ (drop 1 (description_of tables.Mark).columns) (is.1 refl)))
row_kinds tables.Cache tree row kept is = (integer_of (rowid row) (is.0 refl), numbered_kinds (table_of tables.Cache tree) row _ _ kept refl refl refl ((λ text. absurd (cc)), tt))
row_kinds t tree row kept is = hidden_kinds (table_of t tree) row kept refl refl (all_texts _ (description_of t).columns (is.1 refl))

-- by the columns at these places in turn
abbrev places_cmp : List ℕ → Row → Row → Ordering
places_cmp [] a b = Equal
places_cmp (k ∷ ks) a b = ordering_then (value_cmp (column a k) (column b k)) (places_cmp ks a b)

-- in the order of the query
abbrev pub rows_cmp : FileTable → Row → Row → Ordering
rows_cmp t = places_cmp (description_of t).sorted

-- how the query compares two rows
abbrev cmp : FileTable → ℕ → Row → Row → Ordering
cmp t tree a b =
    output_cmp (query_on tree (parts (map (col 1) (description_of t).shown) (sort_terms t))) (columns_at (description_of t).sorted a, a) (columns_at (description_of t).sorted b, b)

cmp_is : (t : FileTable) (tree : ℕ) (a b : Row) → cmp t tree a b ≡ rows_cmp t a b
cmp_is tables.Book tree a b = refl
cmp_is t tree a b = refl

cmp_given : (t : FileTable) (tree : ℕ) (a b : Row) → is_lt (cmp t tree a b) ≡ is_lt (cmp t tree (given t a) (given t b))
cmp_given tables.Book tree a b = refl
cmp_given t tree a b = refl

-- ---- all tables

all_if : (b : Bool) (P : Row → Type 0) (rows : List Row) → (b ≡ true → AllByRecursion P rows) → AllByRecursion (λ r. b ≡ true → P r) rows
all_if b P [] all = tt
all_if b P (r ∷ rows) all = ((λ is. (all is).0), all_if b P rows (λ is. (all is).1))

shows_are : (ps : List ℕ) (r : Row) → eval_all (map (col 1) ps) ([] ∷ r ∷ []) ≡ columns_at ps r
shows_are [] r = refl
shows_are (p ∷ ps) r = ap (λ vs. column r p ∷ vs) (shows_are ps r)

pub reads_only : (t : FileTable) → reads (first (description_of t).read) ≡ true
reads_only t = only_reads (table_of t 0) (description_of t).read _ _ _ _ (is_read t 0)

module _ (t : FileTable) (schema : Schema) (tree : ℕ) (d : IsDeclared schema (table_of t tree)) (old new : State) (has : old.now.schema ≡ schema) (sound : IsSound schema old.now.trees) where
  found : (rows : List Row) → Shown (description_of t).read [] old new rows → IsPermutation (map (columns_at (description_of t).shown) (old.now.trees tree)) rows × Rises (λ a b. is_lt (cmp t tree a b)) rows
  found rows h = rows_are (table_of t tree) (description_of t).read _ _ _ _ (is_read t tree) schema d old new has sound
      (columns_at (description_of t).shown) (columns_at (description_of t).sorted) (shows_are (description_of t).shown) (keys_are t) rows h

  -- what is read are the rows of the tree, in order
  pub table_read : {X : Type 0} (written : X → Row) (order : X → X → Ordering) → ((a b : X) → rows_cmp t (written a) (written b) ≡ order a b)
      → (rows : List Row) (xs : List X) → Shown (description_of t).read [] old new rows → map (given t) rows ≡ map written xs → Lists written (columns_at (description_of t).shown) xs (old.now.trees tree) × IsSortedBy (λ a b. is_lt (order a b)) xs
  table_read written order ordered rows xs h is =
      let all = found rows h in
      parsed (columns_at (description_of t).shown) (given t) written (given_again t) (λ a b. is_lt (cmp t tree a b)) (cmp_given t tree) (λ a b. is_lt (order a b)) (λ a b. ap is_lt (cmp_is t tree (written a) (written b) ∙ ordered a b)) (old.now.trees tree) rows xs all.0 all.1 is

  -- the values that are read have the kinds of their columns
  pub table_kinds : (rows : List Row) → Shown (description_of t).read [] old new rows → AreReadable t (old.now.trees tree) → AllByRecursion (HasKinds (query_of t).kinds) rows
  table_kinds rows h readable =
      all_shown schema (table_of t tree) d old.now.trees sound (IsReadable t) (columns_at (description_of t).shown) (query_of t).kinds (row_kinds t tree) rows
      (all_both (λ r. shows_rowid t ≡ true → IsTrue (is_int (rowid r))) (λ r. has_texts t ≡ true → AllByRecursion IsUtf8Text (drop 1 r)) (IsReadable t) (λ r ids texts. (ids, texts)) (old.now.trees tree)
      (all_if (shows_rowid t) _ _ readable.ids) (all_if (has_texts t) _ _ readable.texts)) (found rows h).0

  -- the text has an answer
  pub table_answers : HasAnswer (description_of t).read old
  table_answers = can_answer (table_of t tree) (description_of t).read _ _ _ _ (is_read t tree) schema d old has sound
