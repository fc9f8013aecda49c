-- Which rows a change may lend: those of what its command changes, and no others.
use Rattle.std.specs.Prelude.{◌≡◌, ◌⊎◌, ℕ, ℤ, ◌+◌, true, IsSome, List, [], ◌∷◌, ◌++◌, Some, encode_utf8_all, pos, min}
use Rattle.std.specs.Prelude.{map, slice_get, unwrap_or, All, Contains}
use Rattle.desk_model.specs.declared.command.Command.{Command}
use Rattle.desk_model.specs.Book.{Book, Mark, Paragraph, paragraph_of}
use Rattle.desk_parts.specs.Puts.{Flags, Place, Print, PutRow, Resolved, RowPut}
use Rattle.desk_parts.specs.Puts.{SetColumns, Span, Table, Version, with_puts}
use Rattle.desk_model.specs.Named.{Retabled, named_by, next_entry}
use Rattle.desk_model.specs.NextBook.{next_id}
use Rattle.desk_parts.specs.declared.file_table.FileTable.TheVariants as tables
use Rattle.desk_parts.specs.FileRows.{FileRows, table_of}
use Rattle.desk_parts.specs.Rows.{NamedCorr}
use Rattle.desk_model.specs.Shows.{Shows}

-- the number, or the greatest of 64 bits with a sign in place of one above it
abbrev pub row_number : ℕ → ℤ
row_number n = pos (min n 9223372036854775807)

-- the number of the next entry in the history of the paragraph with this id
abbrev pub next_entry_number : Book → ℕ → ℕ
next_entry_number book id = unwrap_or (next_entry id book) 1

-- the paragraph with this id is new
abbrev pub IsAdded : Book → Command → ℕ → Type 0
IsAdded book command id = (id ≡ next_id book) × ((named_by command).adds_paragraph ≡ true)

-- the mark is new: the next book has it after those of this one
abbrev pub GetsMark : (book next : Book) → Mark → Type 0
GetsMark book next mark = next.marks ≡ book.marks ++ mark ∷ []

-- the history of the paragraph with this id gets an entry, and its marks move
abbrev pub GetsEntry : Command → ℕ → Type 0
GetsEntry command id = (named_by command).history_grown ≡ Some id

-- the style or a flag of the paragraph with this id is set
abbrev pub GetsFlags : Command → ℕ → Type 0
GetsFlags command id = (named_by command).flags_set ≡ Some id

-- the mark with this id becomes resolved
abbrev pub GetsResolved : Command → ℕ → Type 0
GetsResolved command id = (named_by command).mark_named ≡ Some id

-- the paragraph with this id gets the table with this name
abbrev pub GetsTable : Command → ℕ → List ℕ → Type 0
GetsTable command id table = (named_by command).paragraph_translated ≡ Some (Retabled id table)

-- the paragraph with this id uses the table whose text the command replaces
abbrev pub UsesReplaced : Book → Command → ℕ → Type 0
UsesReplaced book command id =
    (name : List ℕ) × (text : List ℕ) × (paragraph : Paragraph) × ((named_by command).table_given ≡ Some (name, text))
    × (paragraph_of book id ≡ Some paragraph) × (paragraph.table ≡ name)

-- the paragraph with this id gets other braille: it is new, its print changes, it gets another
-- table, or its table another text
abbrev pub GetsCells : Book → Command → ℕ → Type 0
GetsCells book command id =
    IsAdded book command id ⊎ (GetsEntry command id
    ⊎ (((table : List ℕ) × GetsTable command id table) ⊎ UsesReplaced book command id))

-- paragraphs stand at other places: one is added or moved
abbrev pub Reorders : Command → Type 0
Reorders command = IsSome (named_by command).place_given

-- the paragraph with this id stands at this index of the book
abbrev pub StandsAt : Book → (id index : ℕ) → Type 0
StandsAt book id index = slice_get (map (λ paragraph. paragraph.id) book.paragraphs) index ≡ Some id

-- the paragraph with this id stands at this index of the next book, and didn't in this one
abbrev pub GetsIndex : (book next : Book) → (id index : ℕ) → Type 0
GetsIndex book next id index = StandsAt next id index × ¬ StandsAt book id index

-- The command makes the next book of this one, and this is put for something that it changes. No
-- whole row of `book` or `corr` is lent, and columns are set in rows of `book`, `para` and `mark`
-- alone.
abbrev pub IsLent : (book next : Book) → Command → RowPut → Type 0
IsLent book next command (PutRow tables.Book row) = ⊥
IsLent book next command (PutRow tables.Tab row) =
    (name : List ℕ) × (text : List ℕ) × ((named_by command).table_given ≡ Some (name, text))
    × (row.name ≡ encode_utf8_all name) × (row.body ≡ text)
IsLent book next command (PutRow tables.Para row) = (id : ℕ) × (row.id ≡ row_number id) × IsAdded book command id
IsLent book next command (PutRow tables.Corr row) = ⊥
IsLent book next command (PutRow tables.Mark row) =
    (mark : Mark) × (row.id ≡ row_number mark.id) × GetsMark book next mark
IsLent book next command (PutRow tables.Cache row) = (id : ℕ) × (row.para ≡ row_number id) × GetsCells book command id
IsLent book next command (PutRow tables.NamedCorr row) =
    (id : ℕ) × (row.entry.para ≡ row_number id) × (row.entry.seq ≡ row_number (next_entry_number book id))
    × GetsEntry command id
IsLent book next command (SetColumns tables.Book id (Version version)) =
    (id ≡ pos 1) × (version ≡ row_number next.version)
IsLent book next command (SetColumns tables.Para id (Place place)) =
    (named : ℕ) × (index : ℕ) × (id ≡ row_number named) × (place ≡ row_number (index + 1)) × Reorders command
    × GetsIndex book next named index
IsLent book next command (SetColumns tables.Para id (Flags style volume struck)) =
    (named : ℕ) × (id ≡ row_number named) × GetsFlags command named
IsLent book next command (SetColumns tables.Para id (Table tab)) =
    (named : ℕ) × (table : List ℕ) × (id ≡ row_number named) × (tab ≡ encode_utf8_all table)
    × GetsTable command named table
IsLent book next command (SetColumns tables.Para id (Print print)) =
    (named : ℕ) × (id ≡ row_number named) × GetsEntry command named
IsLent book next command (SetColumns tables.Mark id (Span start stop touched)) =
    (mark : Mark) × Contains book.marks mark × (id ≡ row_number mark.id) × GetsEntry command mark.paragraph
IsLent book next command (SetColumns tables.Mark id (Resolved resolved)) =
    (named : ℕ) × (id ≡ row_number named) × GetsResolved command named
IsLent book next command (SetColumns t key none) = absurd none

-- all that is lent is lent for what the command changes
abbrev pub AreLent : (book next : Book) → Command → List RowPut → Type 0
AreLent book next command puts = All (IsLent book next command) puts

-- the rows have the table of entries with names, if one is put
abbrev pub TakesEntries : FileRows → List RowPut → Type 0
TakesEntries rows puts =
    (row : NamedCorr) → Contains puts (PutRow tables.NamedCorr row) → table_of rows.entries ≡ tables.NamedCorr

-- Put into any rows that show the book, and that take the entries among them, they make rows that
-- show the next. A row of `cache` is put only if that is there.
abbrev pub LeadTo : Book → List RowPut → Book → Type 0
LeadTo book puts next = (rows : FileRows) → Shows rows book → TakesEntries rows puts → Shows (with_puts puts rows) next
