-- The rows of a file, as those of the tables of a book.
use Rattle.std.specs.Prelude.{if◌then◌else◌, Some, None}
use Rattle.std.specs.Option.{ForSome}
use Rattle.desk_parts.specs.declared.file_table.FileTable.TheVariants as tables
use Rattle.desk_parts.specs.FileRows.{FileRows, Named, Unnamed}
use Rattle.desk_rows.specs.Contents.{Contents}
use Rattle.desk_rows.specs.Layout.{Layout}
use Rattle.desk_rows.specs.Whole.{DifferBy}

-- The entries are those of `corr2` if the layout has it, and else those of `corr`; there are rows
-- of `cache` if it has that.
abbrev pub rows_of : Layout → Contents → FileRows
rows_of l c = record {
  books = c.rows tables.Book;
  tabs = c.rows tables.Tab;
  paras = c.rows tables.Para;
  entries = if l.has tables.NamedCorr then Named (c.rows tables.NamedCorr) else Unnamed (c.rows tables.Corr);
  marks = c.rows tables.Mark;
  caches = if l.has tables.Cache then Some (c.rows tables.Cache) else None;
}

-- no two rows of a table whose key is a number have the same
pub record HaveOwnNumbers (rows : FileRows) : Type 0 where
  pub books : DifferBy (λ b. b.id) rows.books
  pub paras : DifferBy (λ p. p.id) rows.paras
  pub marks : DifferBy (λ m. m.id) rows.marks
  pub caches : ForSome rows.caches (DifferBy (λ c. c.para))
