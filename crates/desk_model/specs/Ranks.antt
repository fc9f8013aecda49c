-- The order in which refusals are reported.
use Rattle.std.specs.Prelude.{ℕ, ◌+◌, ◌*◌}
use Rattle.desk_model.specs.declared.refusal.Refusal.{Refusal}
use Rattle.desk_model.specs.declared.refusal.Refusal.TheVariants.{Moved, BadName, BadReader, BadText, NoParagraph}
use Rattle.desk_model.specs.declared.refusal.Refusal.TheVariants.{NoTable, NoMark, Struck, NotStruck, Resolved}
use Rattle.desk_model.specs.declared.refusal.Refusal.TheVariants.{BadSpan, NothingToUndo, TooLong, Full, BadTable}
use Rattle.desk_model.specs.declared.refusal.Refusal.TheVariants.{Undefined, Untranslatable, NoMemory}
use Rattle.desk_model.specs.Codes.{limit_number}

-- the rank of a barred character, wherever it stands
abbrev pub bad_text_rank : ℕ
bad_text_rank = 20

-- the rank of a bad text of a table, whatever its fault
abbrev pub bad_table_rank : ℕ
bad_table_rank = 170

-- the rank of a print that its table doesn't define, wherever that fails
abbrev pub undefined_rank : ℕ
undefined_rank = 180

-- the rank of a paragraph that a new text of its table doesn't define, whichever it is
abbrev pub untranslatable_rank : ℕ
untranslatable_rank = 190

-- the rank of a refusal, its place in the order; there are gaps for others
abbrev pub rank : Refusal → ℕ
rank (Moved version) = 0
rank BadName = 10
rank BadReader = 15
rank (BadText place) = bad_text_rank
rank NoParagraph = 30
rank NoTable = 40
rank NoMark = 50
rank Struck = 60
rank NotStruck = 70
rank Resolved = 80
rank BadSpan = 90
rank NothingToUndo = 100
rank TooLong = 110
rank (Full limit) = 110 + 10 * limit_number limit
rank (BadTable fault) = bad_table_rank
rank (Undefined place) = undefined_rank
rank (Untranslatable id place) = untranslatable_rank
rank NoMemory = 200
