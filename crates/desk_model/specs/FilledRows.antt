-- Rows of a new file, and those of one that is brought to the second format or gets the braille of
-- its paragraphs.
use Rattle.std.specs.Prelude.{◌≡◌, ℕ, pos, List, [], ◌∷◌, ◌++◌, map, Some, All, flat_map, IsPermutation}
use Rattle.desk_model.specs.declared.new_tables.NewTables.{NewTables}
use Rattle.desk_model.specs.declared.new_tables.NewTables.TheVariants.{Braille, Entries, EntriesAndBraille}
use Rattle.desk_parts.specs.declared.rows.BookRow.{BookRow}
use Rattle.desk_model.specs.Book.{Book}
use Rattle.desk_parts.specs.FileRows.{FileRows, HasUtf8Texts, Named, entries_in, spelled}
use Rattle.desk_parts.specs.declared.file_table.FileTable.TheVariants as tables
use Rattle.desk_parts.specs.Puts.{PutRow, RowPut, put_rows}
use Rattle.desk_parts.specs.Rows.{ParaCells, NamedCorr}
use Rattle.desk_model.specs.Shows.{AreCached, book_row_of, entry_rows_of}

-- a row of version 0 in the second format, and nothing else
abbrev pub new_rows : FileRows
new_rows = record {
  books = book_row_of 2 0 ∷ [];
  tabs = [];
  paras = [];
  entries = Named [];
  marks = [];
  caches = Some [];
}

-- with these rows of braille
abbrev pub with_caches : List ParaCells → FileRows → FileRows
with_caches caches rows = record rows { caches = Some caches }

-- in the second format, each entry with a name, empty if it had none
abbrev pub in_second_format : FileRows → FileRows
in_second_format rows = record rows {
  books = map (λ (row : BookRow). record row { format = pos 2 }) rows.books;
  entries = Named (entries_in rows.entries);
}

-- with the tables that the second format adds, both empty
abbrev pub with_new_tables : FileRows → FileRows
with_new_tables rows = record rows { entries = Named []; caches = Some [] }

-- with a table for the entries of the second format alone, empty
abbrev pub with_new_entries : FileRows → FileRows
with_new_entries rows = record rows { entries = Named [] }

-- these are the entries of the book's histories, in any order
abbrev pub AreEntriesOf : Book → List NamedCorr → Type 0
AreEntriesOf book entries =
    All (HasUtf8Texts tables.NamedCorr) entries
    × IsPermutation (map (spelled tables.NamedCorr) entries) (flat_map entry_rows_of book.paragraphs)

-- what brings rows of this version to the second format, once they have its tables: the row of
-- `book`, each entry, and the braille of each paragraph
abbrev pub second_format_puts : ℕ → FileRows → List ParaCells → List RowPut
second_format_puts version rows caches =
    PutRow tables.Book (book_row_of 2 version)
    ∷ (put_rows tables.NamedCorr (entries_in rows.entries) ++ put_rows tables.Cache caches)

-- ---- what fills new tables

-- with these tables, all of them empty
abbrev pub with_empty : NewTables → FileRows → FileRows
with_empty EntriesAndBraille rows = with_new_tables rows
with_empty Entries rows = with_new_entries rows
with_empty Braille rows = with_caches [] rows

-- the row of `book` in the second format, and these entries
abbrev pub entry_puts : Book → List NamedCorr → List RowPut
entry_puts book entries = PutRow tables.Book (book_row_of 2 book.version) ∷ put_rows tables.NamedCorr entries

-- This fills these tables: with the entries of the book's histories, after the row of `book`, and
-- with the braille of each of its paragraphs.
abbrev pub Fills : NewTables → Book → List RowPut → Type 0
Fills EntriesAndBraille book puts =
    (entries : List NamedCorr) × (caches : List ParaCells) × AreEntriesOf book entries × AreCached book caches
    × (puts ≡ entry_puts book entries ++ put_rows tables.Cache caches)
Fills Entries book puts = (entries : List NamedCorr) × AreEntriesOf book entries × (puts ≡ entry_puts book entries)
Fills Braille book puts = (caches : List ParaCells) × AreCached book caches × (puts ≡ put_rows tables.Cache caches)
