-- When a file shows a book.
use Rattle.std.specs.Prelude.{ℤ}
use Rattle.desk_model.specs.Book.{Book}
use Rattle.desk_model.specs.Damage.{IsDamaged}
use Rattle.desk_model.specs.Shows.{Shows as RowsShow}
use Rattle.desk_parts.specs.declared.file_table.FileTable.{FileTable}
use Rattle.desk_parts.specs.declared.file_table.FileTable.TheVariants as tables
use Rattle.desk_parts.specs.declared.rows.BookRow.{BookRow}
use Rattle.desk_rows.specs.Contents.{Contents}
use Rattle.desk_rows.specs.Layout.{Layout}
use Rattle.desk_store.specs.BookFile.{rows_of}
use Rattle.desk_store.specs.Formats.{IsOfEither}
use Rattle.desk_store.specs.Opening.{CanAllBeRead, IsBookRow, format_in}

-- the file is of either format, and its rows show a book
abbrev pub HasBook : Layout → Contents → Type 0
HasBook l c = IsOfEither l × ((book : Book) × RowsShow (rows_of l c) book)

-- its row of `book` is sound and of a known format, the tables of that format can all be read, and
-- no row of them is damaged
pub record IsUndamaged (l : Layout) (c : Contents) : Type 0 where
  pub row : BookRow
  pub book : IsBookRow (c.rows tables.Book) row
  pub readable : CanAllBeRead (format_in row.format) l c
  pub none : (table : FileTable) (id : ℤ) → ¬ IsDamaged (rows_of l c) table id
