-- How a book's file is read, table by table. Only private functions and proofs need these words.
use Rattle.std.specs.Prelude.{◌≡◌, IsTrue, List, map, None, Option, IsPermutation}
use Rattle.std.specs.List.{AllByRecursion}
use Rattle.sqlite_trees.specs.declared.store.Store.{Ghosts}
use Rattle.sqlite.specs.Held.{Held, state}
use Rattle.sqlite.specs.State.{State}
use Rattle.desk_model.specs.SameRows.{AreSameCaches, AreSameEntries, AreSameRows}
use Rattle.desk_parts.specs.declared.file_table.FileTable.{FileTable}
use Rattle.desk_parts.specs.declared.file_table.FileTable.TheVariants as tables
use Rattle.desk_parts.specs.declared.parts.Parts.{Parts}
use Rattle.desk_parts.specs.declared.rows.BookRow.{BookRow}
use Rattle.desk_parts.specs.FileRows.{EntryRows, FileRows, HasUtf8Texts}
use Rattle.desk_parts.specs.Parts.{rows_in}
use Rattle.desk_parts.specs.Rows.{ParaCells}
use Rattle.desk_rows.specs.Contents.{Contents}
use Rattle.desk_rows.specs.Layout.{Layout}
use Rattle.desk_rows.specs.Rows.{ShownOf, own, shown_columns}
use Rattle.desk_rows.specs.States.{ShowsContents}
use Rattle.desk_rows.specs.TableQuery.{FailsAs, query_of}
use Rattle.desk_rows.specs.Tables.{is_there}
use Rattle.desk_rows.specs.declared.fault.DatabaseFault.{DatabaseFault}
use Rattle.desk_rows.specs.declared.fault.DatabaseFault.TheVariants as fault
use Rattle.desk_store.specs.BookFile.{rows_of}
use Rattle.desk_store.specs.Formats.{Format, IsOfFormat, named, presence, unnamed}
use Rattle.desk_store.specs.Found.{AreCellsIn, AreEntriesIn, AreFileRows, AreOtherRows}
use Rattle.desk_store.specs.Found.{AreRowsIn, AreToldApart, CanAllAnswer, IsReadAs}
use Rattle.desk_store.specs.Opening.{CanAllBeRead, IsBookRow, Stays, format_in}

-- ---- what is read, and why nothing is

-- The connection is as it was. `Given` says what the statements give in any file, and `Of` holds of
-- each file of the format that the connection shows.
pub record IsReadFrom (format : Format) (old new : State) (Given : State → Type 0)
    (Of : Layout → Contents → Type 0) : Type 0 where
  pub stays : Stays old new
  pub given : Given old
  pub of : (l : Layout) (c : Contents) → IsOfFormat format l → ShowsContents l c old → Of l c

-- The connection shows a file of this format that can be read, and has no limit on steps.
abbrev pub ShowsReadable : Format → State → Type 0
ShowsReadable format s =
    (l : Layout) × (c : Contents) × IsOfFormat format l × ShowsContents l c s
    × CanAllBeRead format l c × (s.step_limit ≡ None)

-- Nothing is read, since a table of the format wasn't: its statement failed, what it showed can't
-- be read, or an allocation for its rows failed. If the steps have no limit, a file that can be
-- read isn't refused, nor is one of whatever declaration whose statements have answers that can be
-- read. After a refusal the connection is as it was.
pub record FailsToRead {S : Type 0} (g : Ghosts S) (format : Format) (old : Held S) (new : State)
    (why : DatabaseFault) : Type 0 where
  pub refused : why ≡ fault.Refused → Stays (state g old) new × ¬ ShowsReadable format (state g old)
  pub answered : why ≡ fault.Refused → (state g old).step_limit ≡ None → ¬ CanAllAnswer format (state g old)
  pub table : FileTable
  pub is_read : IsReadAs (presence format table) (is_there (state g old).now.schema table)
  pub before : Held S
  pub stays : Stays (state g old) (state g before)
  pub fails : FailsAs (query_of table) (shown_columns table) (AreToldApart table) (state g before) new why

-- ---- the tables

-- the rows of a table, with texts in UTF-8
abbrev pub AreTableRows : (t : FileTable) → List (ShownOf t) → Contents → Type 0
AreTableRows t rows c = IsPermutation (c.rows t) (map (own t) rows) × AllByRecursion (HasUtf8Texts t) (c.rows t)

-- a table was read: these are its rows
abbrev pub ReadsTable : Format → (t : FileTable) → List (ShownOf t) → State → State → Type 0
ReadsTable format t rows old new = IsReadFrom format old new (λ s. AreRowsIn s t rows) (λ l c. AreTableRows t rows c)

-- the texts in the table of the entries are UTF-8
abbrev pub AreEntriesReadable : Format → Layout → Contents → Type 0
AreEntriesReadable unnamed l c = AllByRecursion (HasUtf8Texts tables.Corr) (c.rows tables.Corr)
AreEntriesReadable named l c = AllByRecursion (HasUtf8Texts tables.NamedCorr) (c.rows tables.NamedCorr)

-- these are the entries of the file, and they can be read
abbrev pub AreFileEntries : Format → EntryRows → Layout → Contents → Type 0
AreFileEntries format entries l c = AreSameEntries (rows_of l c).entries entries × AreEntriesReadable format l c

-- the entries were read: these are they
abbrev pub ReadsEntries : Format → EntryRows → State → State → Type 0
ReadsEntries format entries old new =
    IsReadFrom format old new (λ s. AreEntriesIn s entries) (AreFileEntries format entries)

-- these are the rows of `cache`, if the file has it
abbrev pub AreFileCells : Option (List ParaCells) → Layout → Contents → Type 0
AreFileCells cells l c = AreSameCaches (rows_of l c).caches cells

-- the braille was read: these are its rows, if the file has `cache`
abbrev pub ReadsCells : Format → Option (List ParaCells) → State → State → Type 0
ReadsCells format cells old new = IsReadFrom format old new (λ s. AreCellsIn s cells) (AreFileCells cells)

-- these are the rows of the tables but `book`, and all of them can be read
abbrev pub AreRest : Format → FileRows → Layout → Contents → Type 0
AreRest format rows l c =
    AreSameRows (record (rows_of l c) { books = rows.books }) rows × CanAllBeRead format l c

-- all tables but `book` were read: these are their rows
abbrev pub ReadsRest : Format → Parts → State → State → Type 0
ReadsRest format parts old new =
    IsReadFrom format old new (λ s. AreOtherRows s (rows_in parts)) (AreRest format (rows_in parts))

-- ---- a whole file

-- the row of `book` is sound, all other tables can be read, and these are its rows
pub record IsReadOf (l : Layout) (c : Contents) (rows : FileRows) : Type 0 where
  pub row : BookRow
  pub book : IsBookRow (c.rows tables.Book) row
  pub of : IsOfFormat (format_in row.format) l
  pub readable : CanAllBeRead (format_in row.format) l c
  pub same : AreSameRows (rows_of l c) rows

-- The connection is as it was and open, and these are the rows that the statements give. Each file
-- of either format that it shows has these rows, a sound row of `book`, and tables that can be
-- read.
pub record ReadsFile (old new : State) (rows : FileRows) : Type 0 where
  pub stays : Stays old new
  pub is_open : IsTrue new.is_open
  pub found : AreFileRows old rows
  pub read : (format : Format) (l : Layout) (c : Contents) → IsOfFormat format l → ShowsContents l c old
      → IsReadOf l c rows
