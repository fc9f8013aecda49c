-- The tables of a book's file.
use Rattle.std.specs.Prelude.{ℕ}
use Rattle.desk_parts.specs.declared.file_table.FileTable.{FileTable}
use Rattle.desk_parts.specs.declared.file_table.FileTable.TheVariants.{Book, Tab, Para, Corr, Mark, Cache, NamedCorr}

-- the number of a table in a reply
abbrev pub table_number : FileTable → ℕ
table_number Book = 1
table_number Tab = 2
table_number Para = 3
table_number Corr = 4
table_number Mark = 5
table_number Cache = 6
table_number NamedCorr = 7
