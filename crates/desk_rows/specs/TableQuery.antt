-- The statements that read the tables whole, and what they answer in any file.
use Rattle.std.specs.Prelude.{◌≡◌, ◌≢◌, ℕ, suc, true, None, List, [], ◌∷◌, map}
use Rattle.std.specs.Prelude.{Result, IfOk, IfErr, OnOk, IsPermutation, ⊤}
use Rattle.std.specs.List.{AllByRecursion}
use Rattle.std.specs.List.Sorted.{IsSortedBy}
use Rattle.std.specs.Ordering.{is_lt}
use Rattle.sqlite_value.specs.Order.{Row, column}
use Rattle.sqlite_schema.specs.declared.schema.Kind.{Kind}
use Rattle.sqlite_schema.specs.declared.schema.Kind.TheVariants.{Integer, Real, Text, Blob, Any}
use Rattle.sqlite.specs.declared.error.Error.{Error}
use Rattle.sqlite.specs.State.{State, Shown, FailsToQuery, IsUnchanged}
use Rattle.desk_parts.specs.declared.file_table.FileTable.{FileTable}
use Rattle.desk_parts.specs.FileRows.{HasUtf8Texts}
use Rattle.sql_tables.specs.Kinds.{HasKinds, HaveIntegerRowids, HaveUtf8Texts, IsOfKind}
use Rattle.sql_tables.specs.Rows.{Lists, columns_at, numbers_from}
use Rattle.sql_tables.specs.States.{HasAnswer, HasTable}
use Rattle.desk_rows.specs.Contents.{Contents}
use Rattle.desk_rows.specs.Descriptions.{description_of, table_of, kind_at, shows_rowid, has_texts}
use Rattle.desk_rows.specs.Fault.{IsReportedAs}
use Rattle.desk_rows.specs.Layout.{Layout}
use Rattle.desk_rows.specs.Rows.{ShownOf, shown_columns, own, order}
use Rattle.desk_rows.specs.States.{ShowsContents}
use Rattle.desk_rows.specs.declared.fault.DatabaseFault.{DatabaseFault}
use Rattle.desk_rows.specs.declared.fault.DatabaseFault.TheVariants.{NoMemory, Refused}

-- A statement, the columns that are read of a row that it shows, and the kinds that these must
-- have.
pub record TableQuery : Type 0 where
  pub text : List ℕ
  pub columns : Row → Row
  pub kinds : List Kind

-- the statement that reads a table, of whose rows as many first columns are read as the table shows
abbrev pub query_of : FileTable → TableQuery
query_of t = record {
  text = (description_of t).read;
  columns = columns_at (numbers_from 0 (description_of t).shown);
  kinds = map (kind_at (description_of t).columns) (description_of t).shown;
}

-- the columns that are read of a row that the query shows
abbrev pub given : FileTable → Row → Row
given t = (query_of t).columns

-- what is read are the rows that the statement showed, in turn
abbrev pub AreShownBy : {X : Type 0} → TableQuery → (X → Row) → State → State → List X → Type 0
AreShownBy query written before after xs =
    (rows : List Row) × Shown query.text [] before after rows × (map query.columns rows ≡ map written xs)

-- From this place on the values are of these kinds.
abbrev pub AreOfKinds : ℕ → List Kind → Row → Type 0
AreOfKinds at [] row = ⊤
AreOfKinds at (kind ∷ kinds) row = IsOfKind kind (column row at) × AreOfKinds (suc at) kinds row

-- From this place on the values are of these kinds as far as the first text or bytes, the first
-- thing that is allocated.
abbrev pub Begins : ℕ → List Kind → Row → Type 0
Begins at [] row = ⊤
Begins at (Integer ∷ kinds) row = IsOfKind Integer (column row at) × Begins (suc at) kinds row
Begins at (Real ∷ kinds) row = IsOfKind Real (column row at) × Begins (suc at) kinds row
Begins at (Text ∷ kinds) row = IsOfKind Text (column row at)
Begins at (Blob ∷ kinds) row = IsOfKind Blob (column row at)
Begins at (Any ∷ kinds) row = Begins (suc at) kinds row

-- Why nothing is read: the statement failed, or not all rows that it showed have the kinds, or they
-- aren't apart as they have to be, or an allocation for them failed, the first of which is for the
-- first row, once what stands before its first text or bytes is of its kinds.
pub data FailsAs {X : Type 0} (query : TableQuery) (written : X → Row) (Apart : List X → Type 0)
    (before after : State) (fault : DatabaseFault) : Type 0 where
  failed : (e : Error) → FailsToQuery query.text [] before after e → IsReportedAs e fault
      → FailsAs query written Apart before after fault
  unreadable : (rows : List Row) → Shown query.text [] before after rows
      → ¬ AllByRecursion (HasKinds query.kinds) rows
      → fault ≡ Refused → FailsAs query written Apart before after fault
  together : (xs : List X) → AreShownBy query written before after xs → ¬ Apart xs → fault ≡ Refused
      → FailsAs query written Apart before after fault
  no_memory : (row : Row) (rows : List Row) → Shown query.text [] before after (row ∷ rows)
      → Begins 0 query.kinds row → fault ≡ NoMemory
      → FailsAs query written Apart before after fault

-- There is a row, and the first of them begins with values of these kinds. Only a private function
-- needs this.
abbrev pub BeginWith : List Kind → List Row → Type 0
BeginWith kinds [] = ⊥
BeginWith kinds (row ∷ rows) = Begins 0 kinds row

-- The rows of a tree can be read: their rowids are integers where these are shown, and the texts
-- are UTF-8 where there are any.
pub record AreReadable (t : FileTable) (rows : List Row) : Type 0 where
  pub ids : shows_rowid t ≡ true → HaveIntegerRowids rows
  pub texts : has_texts t ≡ true → HaveUtf8Texts rows

-- any rows do
abbrev pub AnyRows : {X : Type 0} → List X → Type 0
AnyRows xs = ⊤

-- A read of a whole table answers so, in rows that are viewed as those of the table and have to be
-- apart so.
pub record AnswersRows {V X : Type 0} (result : Result V DatabaseFault) (items : V → List X) (t : FileTable)
    (view : X → ShownOf t) (Apart : List X → Type 0) (old new : State) : Type 0 where
  -- what the statement shows in any file
  pub gives : IfOk result (λ xs. AreShownBy (query_of t) (λ x. shown_columns t (view x)) old new (items xs))
  pub apart : IfOk result (λ xs. Apart (items xs))
  pub utf8 : IfOk result (λ xs. AllByRecursion (λ x. HasUtf8Texts t (own t (view x))) (items xs))
  -- where the table is declared as in a new file, its rows as they stand, in order
  pub rows : (tree : ℕ) → HasTable (table_of t tree) old → IfOk result (λ xs.
      Lists (λ x. shown_columns t (view x)) (columns_at (description_of t).shown) (items xs) (old.now.trees tree)
      × IsSortedBy (λ a b. is_lt (order t (view a) (view b))) (items xs))
  pub shows : (l : Layout) (c : Contents) → l.has t ≡ true → ShowsContents l c old
      → IfOk result (λ xs. IsPermutation (c.rows t) (map (λ x. own t (view x)) (items xs)))
  pub unchanged : OnOk result (IsUnchanged old new)
  pub reported : IfErr result (FailsAs (query_of t) (λ x. shown_columns t (view x)) Apart old new)
  pub refused : IfErr result (λ fault. fault ≡ Refused → IsUnchanged old new)
  -- where its rows can be read and are apart, and the steps have no limit, it isn't refused
  pub cause : (tree : ℕ) → HasTable (table_of t tree) old → old.step_limit ≡ None
      → AreReadable t (old.now.trees tree)
      → ((xs : List X)
      → Lists (λ x. shown_columns t (view x)) (columns_at (description_of t).shown) xs (old.now.trees tree)
      → Apart xs)
      → IfErr result (λ fault. fault ≢ Refused)
  -- in any file, where the statement has an answer whose values can be read and are apart, and the
  -- steps have no limit, it isn't refused
  pub answered : HasAnswer (query_of t).text old → old.step_limit ≡ None
      → ((rows : List Row) → Shown (query_of t).text [] old new rows
      → AllByRecursion (HasKinds (query_of t).kinds) rows)
      → ((xs : List X) → AreShownBy (query_of t) (λ x. shown_columns t (view x)) old new xs → Apart xs)
      → IfErr result (λ fault. fault ≢ Refused)
