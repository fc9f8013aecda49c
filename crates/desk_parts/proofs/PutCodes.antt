-- A code for lists of what is put, made of those of each table's rows, keys and columns. A tactic finds these.
use Rattle.std.specs.Coded.{Coded, codes}
use Rattle.desk_parts.specs.declared.file_table.FileTable.{FileTable}
use Rattle.desk_parts.specs.declared.file_table.FileTable.TheVariants as tables
use Rattle.desk_parts.specs.Puts.{ColumnsOf, KeyOf, RowPuts}
use Rattle.desk_parts.specs.Rows.{RowOf}

row_code : (t : FileTable) → Coded (RowOf t)
row_code tables.Book = hlevel codes
row_code t = hlevel codes

key_code : (t : FileTable) → Coded (KeyOf t)
key_code tables.Book = hlevel codes
key_code t = hlevel codes

columns_code : (t : FileTable) → Coded (ColumnsOf t)
columns_code tables.Book = hlevel codes
columns_code t = hlevel codes

pub puts_code : Coded RowPuts
puts_code = hlevel (codes, row_code, key_code, columns_code)
