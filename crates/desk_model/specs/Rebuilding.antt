-- What is reported when a book is rebuilt from the rows of its file.
use Rattle.std.specs.Prelude.{⊤}
use Rattle.desk_model.specs.declared.fault.PartsFault.{PartsFault}
use Rattle.desk_model.specs.declared.fault.PartsFault.TheVariants.{Damaged, NoMemory}
use Rattle.desk_model.specs.Damage.{IsFirstDamage}
use Rattle.desk_parts.specs.FileRows.{FileRows}

-- the damage is the first of the rows, which show no book; or an allocation failed
abbrev pub IsFaultOf : FileRows → PartsFault → Type 0
IsFaultOf rows (Damaged table id) = IsFirstDamage rows table id
IsFaultOf rows NoMemory = ⊤
