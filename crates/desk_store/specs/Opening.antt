-- How a book's file is opened: what is reported of it, and what is found in it. In which order it
-- is checked stands in Opened.antt.
use Rattle.std.specs.Prelude.{◌&&◌, not, ◌≡◌, ℤ, pos, ◌<ℤ◌, ◌≤ℤ◌, Bool, true, false, if◌then◌else◌, List, [], ◌∷◌, ⊤}
use Rattle.std.specs.List.{AllByRecursion}
use Rattle.std.specs.Ordering.{int_eq}
use Rattle.sqlite.specs.declared.error.Error.{Error}
use Rattle.sqlite.specs.State.{State}
use Rattle.sqlite_schema.specs.declared.schema.Schema.{Schema}
use Rattle.desk_model.specs.Damage.{IsDamagedBook, IsSoundBookRow}
use Rattle.desk_parts.specs.declared.file_table.FileTable.{FileTable}
use Rattle.desk_parts.specs.declared.file_table.FileTable.TheVariants as tables
use Rattle.desk_model.specs.declared.fault.PartsFault.{PartsFault}
use Rattle.desk_model.specs.declared.fault.PartsFault.TheVariants as rebuilt
use Rattle.desk_parts.specs.declared.rows.BookRow.{BookRow}
use Rattle.desk_parts.specs.FileRows.{HasUtf8Texts}
use Rattle.desk_rows.specs.Contents.{Contents}
use Rattle.desk_rows.specs.Fault.{IsReportedAs}
use Rattle.desk_store.specs.Formats.{Format, Presence, needed, optional, foreign, unread, unnamed, named, presence}
use Rattle.desk_rows.specs.Layout.{Layout}
use Rattle.desk_rows.specs.Tables.{is_there}
use Rattle.desk_store.specs.declared.book_file.FileFormat.{FileFormat}
use Rattle.desk_store.specs.declared.book_file.FileFormat.TheVariants as read
use Rattle.desk_rows.specs.declared.fault.DatabaseFault.{DatabaseFault}
use Rattle.desk_rows.specs.declared.fault.DatabaseFault.TheVariants as fault
use Rattle.desk_store.specs.declared.fault.OpenFault.{OpenFault}
use Rattle.desk_store.specs.declared.fault.OpenFault.TheVariants.{NotABook, Damaged, NewerFormat, Lost, NoMemory}

-- ---- what is reported

-- how the fault of a read is reported
abbrev pub opened_as : DatabaseFault → OpenFault
opened_as fault.NoMemory = NoMemory
opened_as fault.Lost = Lost
opened_as fault.Refused = NotABook

-- how an error of the database is reported
abbrev pub IsOpenedAs : Error → OpenFault → Type 0
IsOpenedAs e reported = (fault : DatabaseFault) × IsReportedAs e fault × (reported ≡ opened_as fault)

-- how it is reported that the rows show no book
abbrev pub rebuilt_as : PartsFault → OpenFault
rebuilt_as (rebuilt.Damaged table id) = Damaged table id
rebuilt_as rebuilt.NoMemory = NoMemory

-- the file is refused for what stands in it, and not because an allocation or the store failed
abbrev pub IsRefusal : OpenFault → Type 0
IsRefusal NotABook = ⊤
IsRefusal (Damaged table id) = ⊤
IsRefusal NewerFormat = ⊤
IsRefusal Lost = ⊥
IsRefusal NoMemory = ⊥

-- ---- the table `book`

-- one row, of a later format than the second
abbrev pub IsNewer : List BookRow → Type 0
IsNewer rows = (row : BookRow) × (rows ≡ row ∷ []) × (pos 2 <ℤ row.format)

-- one sound row, of the first or the second format
pub record IsBookRow (rows : List BookRow) (row : BookRow) : Type 0 where
  pub alone : rows ≡ row ∷ []
  pub sound : IsSoundBookRow row
  pub format : row.format ≤ℤ pos 2

-- a later format is reported before any damage
abbrev pub TellsOfRow : List BookRow → OpenFault → Type 0
TellsOfRow rows NotABook = ⊥
TellsOfRow rows (Damaged table id) = (table ≡ tables.Book) × IsDamagedBook rows id × ¬ IsNewer rows
TellsOfRow rows NewerFormat = IsNewer rows
TellsOfRow rows Lost = ⊥
TellsOfRow rows NoMemory = ⊥

-- ---- the tables of a format

-- the format of a file whose row of `book` is sound and of no later one
abbrev pub format_in : ℤ → Format
format_in format = if int_eq format (pos 1) then unnamed else named

-- the format that was read of a file
abbrev pub format_read : FileFormat → Format
format_read read.Unnamed = unnamed
format_read read.Named = named

-- the tables of the format are there, `book` aside
abbrev pub has_tables : Format → Schema → Bool
has_tables unnamed s =
    (is_there s tables.Tab && is_there s tables.Para && is_there s tables.Mark)
    && (is_there s tables.Corr && not (is_there s tables.NamedCorr))
has_tables named s =
    (is_there s tables.Tab && is_there s tables.Para && is_there s tables.Mark) && is_there s tables.NamedCorr

-- ---- what is read

-- A table can be read: it is there if the format needs it, none is there if there must be none, and
-- its texts are UTF-8.
abbrev pub CanBeRead : Presence → Bool → Type 0 → Type 0
CanBeRead needed has are_utf8 = (has ≡ true) × are_utf8
CanBeRead optional has are_utf8 = has ≡ true → are_utf8
CanBeRead foreign has are_utf8 = has ≡ false
CanBeRead unread has are_utf8 = ⊤

-- each table of the format can be read
abbrev pub CanAllBeRead : Format → Layout → Contents → Type 0
CanAllBeRead format l c =
    (t : FileTable) → CanBeRead (presence format t) (l.has t) (AllByRecursion (HasUtf8Texts t) (c.rows t))

-- the connection is as it was, and shows what it showed
pub record Stays (old new : State) : Type 0 where
  pub now : new.now ≡ old.now
  pub committed : new.committed ≡ old.committed
  pub is_open : new.is_open ≡ old.is_open
