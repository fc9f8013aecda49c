-- The numbers of limits and refusals in replies.
use Rattle.std.specs.Prelude.{ℕ}
use Rattle.desk_model.specs.declared.refusal.Limit.{Limit}
use Rattle.desk_model.specs.declared.refusal.Limit.TheVariants.{Tables, Paragraphs, Entries, Marks, Version}
use Rattle.desk_model.specs.declared.refusal.Refusal.{Refusal}
use Rattle.desk_model.specs.declared.refusal.Refusal.TheVariants.{Moved, BadName, BadReader, BadText, NoParagraph}
use Rattle.desk_model.specs.declared.refusal.Refusal.TheVariants.{NoTable, NoMark, Struck, NotStruck, Resolved}
use Rattle.desk_model.specs.declared.refusal.Refusal.TheVariants.{BadSpan, NothingToUndo, TooLong, Full, BadTable}
use Rattle.desk_model.specs.declared.refusal.Refusal.TheVariants.{Undefined, Untranslatable, NoMemory}

-- the number of a limit
abbrev pub limit_number : Limit → ℕ
limit_number Tables = 1
limit_number Paragraphs = 2
limit_number Entries = 3
limit_number Marks = 4
limit_number Version = 5

-- the number that stands for a refusal in a reply
abbrev pub code_of : Refusal → ℕ
code_of (Moved version) = 16
code_of BadName = 17
code_of BadReader = 18
code_of (BadText place) = 6
code_of NoParagraph = 2
code_of NoTable = 3
code_of NoMark = 4
code_of Struck = 11
code_of NotStruck = 12
code_of Resolved = 13
code_of BadSpan = 5
code_of NothingToUndo = 10
code_of TooLong = 14
code_of (Full limit) = 15
code_of (BadTable fault) = 8
code_of (Undefined place) = 7
code_of (Untranslatable id place) = 9
code_of NoMemory = 90
