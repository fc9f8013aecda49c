-- How an error of the database is reported.
use Rattle.std.specs.Prelude.{◌≡◌, ◌≢◌, ◌⊎◌, ℕ, IsTrue, ⊤}
use Rattle.sqlite_disk.specs.Disk.{MoreFaults}
use Rattle.sqlite_trees.specs.declared.error.StoreError.{StoreError}
use Rattle.sqlite_trees.specs.declared.error.StoreError.TheVariants.{OutOfMemory, Unstorable}
use Rattle.sqlite.specs.declared.error.Error.{Error}
use Rattle.sqlite.specs.State.{State, store_error}
use Rattle.desk_rows.specs.declared.fault.DatabaseFault.{DatabaseFault}
use Rattle.desk_rows.specs.declared.fault.DatabaseFault.TheVariants.{NoMemory, Lost, Refused}

-- no memory if an allocation failed in the store, lost if the store failed for another cause, and
-- refused if the error isn't the store's
abbrev pub IsReportedAs : Error → DatabaseFault → Type 0
IsReportedAs e NoMemory = e ≡ store_error OutOfMemory
IsReportedAs e Lost = (cause : StoreError) × (cause ≢ OutOfMemory) × (e ≡ store_error cause)
IsReportedAs e Refused = (cause : StoreError) → e ≢ store_error cause

-- Of a connection that was open: an error that is reported as lost comes with a failure that it
-- counts, or what was put was too big to be stored.
abbrev pub CountsLoss : State → State → Error → Type 0
CountsLoss old new e =
    IsTrue old.is_open → IsReportedAs e Lost → MoreFaults old.faults new.faults ⊎ (e ≡ store_error Unstorable)

-- What a crash left is always a database, so a store that crashed can fail to be opened again only
-- if an allocation failed, or if it counts a failure.
abbrev pub FailsToReopen : ℕ → ℕ → DatabaseFault → Type 0
FailsToReopen before after NoMemory = ⊤
FailsToReopen before after Lost = MoreFaults before after
FailsToReopen before after Refused = ⊥

-- A value isn't read: it is refused if it isn't of its kind, and only one that is can be reported
-- as a failed allocation.
abbrev pub IsValueFault : Type 0 → DatabaseFault → Type 0
IsValueFault IsSo NoMemory = IsSo
IsValueFault IsSo Lost = ⊥
IsValueFault IsSo Refused = ¬ IsSo
