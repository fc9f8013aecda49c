-- When a fault is reported, and how.
use Rattle.std.specs.Prelude.{◌≡◌, ◌≢◌, ℕ, ◌<◌, ◌⊎◌, ◌++◌, ◌∷◌, [], Bool, List, length, codes, decimal}
use Rattle.std.specs.Fmt.{signed_decimal}
use Rattle.std.specs.declared.io.ErrorKind.{ErrorKind}
use Rattle.std.specs.declared.io.ErrorKind.TheVariants as io
use Rattle.desk_parts.specs.Tables.{table_number}
use Rattle.sqlite.specs.declared.error.Error.{Error as DatabaseError}
use Rattle.sqlite.specs.declared.error.Error.TheVariants.{SqliteFailure}
use Rattle.sqlite.specs.declared.error.ErrorCode.TheVariants.{OutOfMemory}
use Rattle.louis_table.specs.declared.en.TheConstants.{EN}
use Rattle.louis_table.specs.Table.{Bad}
use Rattle.louis_table.specs.declared.fault.ReadFault.{ReadFault}
use Rattle.louis_table.specs.declared.fault.ReadFault.TheVariants as reading
use Rattle.desk_program.specs.declared.fault.ProgramFault.{ProgramFault}
use Rattle.desk_program.specs.declared.fault.ProgramFault.TheVariants as faults
use Rattle.desk_program.specs.Shelf.{FileState, unknown, missing, holds, IsRead, MayConnect, most_file_bytes}

-- ---- the fault of a text

-- a text is refused as a table by its own line and cause, or by a failed allocation
abbrev pub IsFaultOfText : List ℕ → ProgramFault → Type 0
IsFaultOfText text (faults.Table fault) = Bad text fault.line fault.cause
IsFaultOfText text faults.NoMemory = Unit {0}
IsFaultOfText text faults.NotABook = ⊥
IsFaultOfText text (faults.Damaged table id) = ⊥
IsFaultOfText text faults.NewerFormat = ⊥
IsFaultOfText text (faults.NotSixDots paragraph cell) = ⊥
IsFaultOfText text faults.NoVolume = ⊥
IsFaultOfText text faults.BadLayout = ⊥
IsFaultOfText text faults.File = ⊥
IsFaultOfText text (faults.Taken version) = ⊥

-- how the fault of a text is reported
abbrev pub read_as : ReadFault → ProgramFault
read_as (reading.Table fault) = faults.Table fault
read_as reading.NoMemory = faults.NoMemory

-- ---- the fault of a file

-- a file can't be opened or read, or is too large, or an allocation for it failed; one that is
-- missing isn't a failed allocation
abbrev pub IsOfFile : Type 0 → FileState → ProgramFault → Type 0
IsOfFile CanFail shelved (faults.Table fault) = ⊥
IsOfFile CanFail unknown faults.NoMemory = Unit {0}
IsOfFile CanFail missing faults.NoMemory = ⊥
IsOfFile CanFail (holds bytes) faults.NoMemory = Unit {0}
IsOfFile CanFail shelved faults.NotABook = ⊥
IsOfFile CanFail shelved (faults.Damaged table id) = ⊥
IsOfFile CanFail shelved faults.NewerFormat = ⊥
IsOfFile CanFail shelved (faults.NotSixDots paragraph cell) = ⊥
IsOfFile CanFail shelved faults.NoVolume = ⊥
IsOfFile CanFail shelved faults.BadLayout = ⊥
IsOfFile CanFail unknown faults.File = Unit {0}
IsOfFile CanFail missing faults.File = Unit {0}
IsOfFile CanFail (holds bytes) faults.File = CanFail ⊎ (most_file_bytes < length bytes)
IsOfFile CanFail shelved (faults.Taken version) = ⊥

-- an error of the system is a failed allocation if that is its kind, and else the file's
abbrev pub IsIoFault : ErrorKind → ProgramFault → Type 0
IsIoFault kind fault =
    ((kind ≡ io.OutOfMemory) × (fault ≡ faults.NoMemory))
    ⊎ ((kind ≢ io.OutOfMemory) × (fault ≡ faults.File))

-- ---- the fault of a database

-- no connection is made: the file isn't there and none is to be made, it can't be opened or isn't a
-- database, or an allocation failed, which is never reported of one that isn't there
abbrev pub IsOfDatabase : Type 0 → FileState → Bool → ProgramFault → Type 0
IsOfDatabase CanFail shelved make (faults.Table fault) = ⊥
IsOfDatabase CanFail shelved make faults.NoMemory = MayConnect make shelved
IsOfDatabase CanFail shelved make faults.NotABook = ⊥
IsOfDatabase CanFail shelved make (faults.Damaged table id) = ⊥
IsOfDatabase CanFail shelved make faults.NewerFormat = ⊥
IsOfDatabase CanFail shelved make (faults.NotSixDots paragraph cell) = ⊥
IsOfDatabase CanFail shelved make faults.NoVolume = ⊥
IsOfDatabase CanFail shelved make faults.BadLayout = ⊥
IsOfDatabase CanFail shelved make faults.File = CanFail ⊎ (¬ MayConnect make shelved)
IsOfDatabase CanFail shelved make (faults.Taken version) = ⊥

-- an error of the database is a failed allocation if it says so, and else the file's
abbrev pub IsDatabaseFault : DatabaseError → ProgramFault → Type 0
IsDatabaseFault error fault =
    ((error ≡ SqliteFailure OutOfMemory) × (fault ≡ faults.NoMemory))
    ⊎ ((error ≢ SqliteFailure OutOfMemory) × (fault ≡ faults.File))

-- ---- the table that a word names

-- the text of the table: the supplied one's, or all of the file at this path
pub data TextAt (shelf : List ℕ → FileState) (path text : List ℕ) : Type 0 where
  supplied : path ≡ codes "@en" → text ≡ EN.now → TextAt shelf path text
  in_file : path ≢ codes "@en" → IsRead (shelf path) text → TextAt shelf path text

-- the fault of the table that the word names
pub data FaultAt (CanFail : Type 0) (shelf : List ℕ → FileState) (path : List ℕ) (fault : ProgramFault)
    : Type 0 where
  of_text : (text : List ℕ) → TextAt shelf path text → IsFaultOfText text fault
      → FaultAt CanFail shelf path fault
  of_file : path ≢ codes "@en" → IsOfFile CanFail (shelf path) fault
      → FaultAt CanFail shelf path fault

-- ---- what is reported

-- a text with a detail after it
abbrev pub with_detail : List ℕ → List ℕ → List ℕ
with_detail text detail = text ++ 32 ∷ detail

-- the number and the details of the fault
abbrev pub fault_text : ProgramFault → List ℕ
fault_text (faults.Table fault) = with_detail (with_detail (codes "no 8") (decimal fault.line)) (decimal fault.cause)
fault_text faults.NoMemory = codes "no 90"
fault_text faults.NotABook = codes "no 92"
fault_text (faults.Damaged table id) =
    with_detail (with_detail (codes "no 93") (decimal (table_number table))) (signed_decimal id)
fault_text faults.NewerFormat = codes "no 94"
fault_text (faults.NotSixDots paragraph cell) =
    with_detail (with_detail (codes "no 95") (decimal paragraph)) (decimal cell)
fault_text faults.NoVolume = codes "no 96"
fault_text faults.BadLayout = codes "no 97"
fault_text faults.File = codes "no 98"
fault_text (faults.Taken version) = with_detail (codes "no 99") (decimal version)

-- the line that is shown
abbrev pub fault_line : ProgramFault → List ℕ
fault_line fault = codes "braildesk: " ++ fault_text fault ++ 10 ∷ []
