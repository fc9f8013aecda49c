-- Which rows show a book, in either format.
use Rattle.std.specs.Prelude.{◌≡◌, ℕ, ℤ, pos, Bool, true, false, List, [], ◌∷◌, map, IsPermutation}
use Rattle.std.specs.List.{All, Contains, enumerate_from, flat_map}
use Rattle.std.specs.Option.{ForSome}
use Rattle.desk_parts.specs.declared.rows.BookRow.{BookRow}
use Rattle.desk_model.specs.declared.style.Style.{Style}
use Rattle.desk_model.specs.declared.style.Style.TheVariants.{Body, Heading}
use Rattle.desk_model.specs.Book.{Entry, Corrects, Undoes, Paragraph, Mark, Book}
use Rattle.desk_parts.specs.declared.file_table.FileTable.TheVariants as file
use Rattle.desk_parts.specs.FileRows.{FileRows, AreTexts, entries_in, format_of, spelled}
use Rattle.desk_model.specs.Print.{print_of}
use Rattle.desk_parts.specs.Rows.{Tab, Para, NamedCorr, Mark as MarkRow, ParaCells}
use Rattle.desk_model.specs.Sound.{IsSound}
use Rattle.desk_model.specs.Translation.{IsBraille}

-- ---- the row of each part of a book, with its texts as characters

-- the row of `book`, whose id is 1
abbrev pub book_row_of : (format version : ℕ) → BookRow
book_row_of format version = record { id = pos 1; format = pos format; version = pos version }

-- the row of a table: its name and its text
abbrev pub tab_of : List ℕ × List ℕ → Tab
tab_of (name, text) = record { name = name; body = text }

-- the number of a style
abbrev pub style_number : Style → ℤ
style_number Body = pos 0
style_number Heading = pos 1

-- the number of a flag
abbrev pub flag_number : Bool → ℤ
flag_number false = pos 0
flag_number true = pos 1

-- the paragraph at this place of the book, from 1
abbrev pub para_of : ℕ × Paragraph → Para
para_of (place, paragraph) = record {
  id = pos paragraph.id;
  place = pos place;
  tab = paragraph.table;
  original = paragraph.original;
  print = print_of paragraph;
  style = style_number paragraph.style;
  volume = flag_number paragraph.begins_volume;
  struck = flag_number paragraph.struck;
}

-- The entry with this number, from 1, in the history of the paragraph with this id. An undo has the
-- number of the entry that it takes back in place of a start, and nothing else.
abbrev pub entry_row_of : ℕ → ℕ × Entry → NamedCorr
entry_row_of id (number, Corrects r who) = record {
  entry = record
      { para = pos id; seq = pos number; kind = pos 0; start = pos r.start; len = pos r.count; body = r.text };
  who = who;
}
entry_row_of id (number, Undoes undone) = record {
  entry = record { para = pos id; seq = pos number; kind = pos 1; start = pos undone; len = pos 0; body = [] };
  who = [];
}

-- the entries of a paragraph's history with their numbers, from 1
abbrev pub entry_rows_of : Paragraph → List NamedCorr
entry_rows_of paragraph = map (entry_row_of paragraph.id) (enumerate_from 1 paragraph.history)

-- the row of a mark
abbrev pub mark_row_of : Mark → MarkRow
mark_row_of mark = record {
  id = pos mark.id;
  para = pos mark.paragraph;
  start = pos mark.start;
  stop = pos mark.end;
  note = mark.note;
  touched = flag_number mark.touched;
  resolved = flag_number mark.resolved;
}

-- the row has the masks of the braille of a paragraph of the book
pub record IsCached (book : Book) (row : ParaCells) : Type 0 where
  pub paragraph : Paragraph
  pub there : Contains book.paragraphs paragraph
  pub named : row.para ≡ pos paragraph.id
  pub cells : IsBraille book paragraph row.cells

-- each paragraph of the book has one row, with the masks of its braille, and there are no others
pub record AreCached (book : Book) (rows : List ParaCells) : Type 0 where
  pub one_each : IsPermutation (map (λ row. row.para) rows) (map (λ paragraph. pos paragraph.id) book.paragraphs)
  pub cells : All (IsCached book) rows

-- no correction of the book has a name
abbrev pub IsUnnamed : Book → Type 0
IsUnnamed book = All (λ row. row.who ≡ []) (flat_map entry_rows_of book.paragraphs)

-- ---- a file's rows

-- The book is sound, the texts are UTF-8, and the rows are those of the book's parts, in any order.
-- In the first format a book is shown only if none of its corrections has a name.
pub record Shows (rows : FileRows) (book : Book) : Type 0 where
  pub sound : IsSound book
  pub texts : AreTexts rows
  pub row : rows.books ≡ book_row_of (format_of rows.entries) book.version ∷ []
  pub tables : IsPermutation (map (spelled file.Tab) rows.tabs) (map tab_of book.tables)
  pub paragraphs : IsPermutation (map (spelled file.Para) rows.paras) (map para_of (enumerate_from 1 book.paragraphs))
  pub entries : IsPermutation (map (spelled file.NamedCorr) (entries_in rows.entries))
      (flat_map entry_rows_of book.paragraphs)
  pub marks : IsPermutation (map (spelled file.Mark) rows.marks) (map mark_row_of book.marks)
  pub caches : ForSome rows.caches (AreCached book)
