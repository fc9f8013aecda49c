-- Which fault is reported of a table text.
use Rattle.std.specs.Prelude.{ℕ, List}
use Rattle.louis_table.specs.Table.{Bad, line_of_stop}
use Rattle.louis_table.specs.declared.fault.ReadFault.{ReadFault}
use Rattle.louis_table.specs.declared.fault.ReadFault.TheVariants as faults

-- the fault that is reported of bytes that are not UTF-8
abbrev pub not_utf_8 : List ℕ → ReadFault
not_utf_8 bytes = faults.Table (record { line = line_of_stop bytes; cause = 9 })

-- the fault is the one that is reported of the text; a failed allocation says nothing of it
abbrev pub IsReportedOf : List ℕ → ReadFault → Type 0
IsReportedOf bytes (faults.Table fault) = Bad bytes fault.line fault.cause
IsReportedOf bytes faults.NoMemory = Unit {0}
