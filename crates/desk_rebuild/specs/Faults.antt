-- What is reported if the rows of a table are not those of a book.
use Rattle.std.specs.Prelude.{◌≡◌, ℤ, List, Option, Some, ⊤}
use Rattle.desk_parts.specs.declared.file_table.FileTable.{FileTable}
use Rattle.desk_model.specs.declared.fault.PartsFault.{PartsFault}
use Rattle.desk_model.specs.declared.fault.PartsFault.TheVariants.{Damaged, NoMemory}
use Rattle.desk_rebuild.specs.declared.damage.RowsFault.{RowsFault}
use Rattle.desk_rebuild.specs.declared.damage.RowsFault.TheVariants as rows_fault
use Rattle.desk_model.specs.Damage.{IsDamagedCache}
use Rattle.desk_rebuild.specs.Rows.{IsFirstId}
use Rattle.desk_parts.specs.Rows.{Para, ParaCells, Tab}

-- the smallest id of the damage is reported, of this table, or an allocation failed
abbrev pub TellsDamageOf : FileTable → (ℤ → Type 0) → PartsFault → Type 0
TellsDamageOf table damaged (Damaged other id) = (other ≡ table) × IsFirstId damaged id
TellsDamageOf table damaged NoMemory = ⊤

-- there are rows of braille, and this is a damaged id of them
abbrev pub IsDamagedBraille : List Tab → List Para → Option (List ParaCells) → ℤ → Type 0
IsDamagedBraille tabs paras cache id =
    (caches : List ParaCells) × (cache ≡ Some caches) × IsDamagedCache tabs paras caches id

-- the fault of the parts whose rows of this table weren't taken
abbrev pub fault_in : FileTable → RowsFault → PartsFault
fault_in table (rows_fault.Damaged id) = Damaged table id
fault_in table rows_fault.NoMemory = NoMemory
