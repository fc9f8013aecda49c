-- What is put into the rows of a book's file, and the rows after it.
use Rattle.std.specs.Prelude.{◌≡◌, ℕ, ℤ, pos, Bool, not, ◌&&◌, if◌then◌else◌, List, [], ◌∷◌, map, filter, fold, Option}
use Rattle.std.specs.Prelude.{option_map, option_to_list, MatchOption, IsSome, bytes_eq, encode_utf8_all, All}
use Rattle.std.specs.Ordering.{int_eq}
use Rattle.desk_parts.specs.declared.file_table.FileTable.{FileTable}
use Rattle.desk_parts.specs.declared.file_table.FileTable.TheVariants as tables
use Rattle.desk_parts.specs.declared.put.MarkPut.{MarkPut}
use Rattle.desk_parts.specs.declared.put.NamedCorrPut.{NamedCorrPut}
use Rattle.desk_parts.specs.declared.put.ParaPut.{ParaPut}
use Rattle.desk_parts.specs.declared.put.Put.{Put}
use Rattle.desk_parts.specs.declared.put.Put.TheVariants as lent
use Rattle.desk_parts.specs.FileRows.{EntryRows, FileRows, Named, Unnamed, table_of}
use Rattle.desk_parts.specs.Rows.{Corr, Mark, NamedCorr, Para, RowOf}

-- ---- what is put

-- what the key of a row is: a number, a name, or of an entry its paragraph's id and its own number
abbrev pub KeyOf : FileTable → Type 0
KeyOf tables.Book = ℤ
KeyOf tables.Tab = List ℕ
KeyOf tables.Para = ℤ
KeyOf tables.Corr = ℤ × ℤ
KeyOf tables.Mark = ℤ
KeyOf tables.Cache = ℤ
KeyOf tables.NamedCorr = ℤ × ℤ

-- Columns that are set without the rest of their row, those of one case at once: of the row of
-- `book`, of a paragraph, and of a mark.
pub data BookColumns : Type 0 where
  Version : ℤ → BookColumns

-- the columns of a paragraph that are set at once
pub data ParaColumns : Type 0 where
  Place : ℤ → ParaColumns
  Flags : (style volume struck : ℤ) → ParaColumns
  Table : List ℕ → ParaColumns
  Print : List ℕ → ParaColumns

-- the columns of a mark that are set at once
pub data MarkColumns : Type 0 where
  Span : (start stop touched : ℤ) → MarkColumns
  Resolved : ℤ → MarkColumns

-- The columns of a row of this table that are set so. Where there are none, the type is empty, and
-- definitions over them end with `absurd none`.
abbrev pub ColumnsOf : FileTable → Type 0
ColumnsOf tables.Book = BookColumns
ColumnsOf tables.Tab = ⊥
ColumnsOf tables.Para = ParaColumns
ColumnsOf tables.Corr = ⊥
ColumnsOf tables.Mark = MarkColumns
ColumnsOf tables.Cache = ⊥
ColumnsOf tables.NamedCorr = ⊥

-- A row that is added, or replaces the one with its key, or columns that are set in the row with a
-- key. A text is its bytes.
pub data RowPut : Type 0 where
  PutRow : (t : FileTable) → RowOf t → RowPut
  SetColumns : (t : FileTable) → KeyOf t → ColumnsOf t → RowPut

-- the value of an iterator that lends puts: what it has yet to put
abbrev pub RowPuts : Type 0
RowPuts = List RowPut

-- these rows of a table, put one by one
abbrev pub put_rows : (t : FileTable) → List (RowOf t) → List RowPut
put_rows t rows = map (PutRow t) rows

-- a lent row of a paragraph, of a mark, or of an entry
abbrev pub lent_para : ParaPut → Para
lent_para row = record {
  id = row.id;
  place = row.place;
  tab = row.tab.now;
  original = row.original.now;
  print = encode_utf8_all row.print.now;
  style = row.style;
  volume = row.volume;
  struck = row.struck;
}

-- the row of a mark that is lent
abbrev pub lent_mark : MarkPut → Mark
lent_mark row = record {
  id = row.id;
  para = row.para;
  start = row.start;
  stop = row.stop;
  note = row.note.now;
  touched = row.touched;
  resolved = row.resolved;
}

-- the row of a history entry that is lent
abbrev pub lent_entry : NamedCorrPut → NamedCorr
lent_entry row = record {
  entry = record {
    para = row.para;
    seq = row.seq;
    kind = row.kind;
    start = row.start;
    len = row.len;
    body = row.body.now;
  };
  who = row.who.now;
}

-- what a lent one puts
abbrev pub put_of : Put → RowPut
put_of (lent.Book row) = PutRow tables.Book row
put_of (lent.Tab row) = PutRow tables.Tab (record { name = row.name.now; body = row.body.now })
put_of (lent.Para row) = PutRow tables.Para (lent_para row)
put_of (lent.Mark row) = PutRow tables.Mark (lent_mark row)
put_of (lent.Cache row) = PutRow tables.Cache (record { para = row.para; cells = row.cells.now })
put_of (lent.NamedCorr row) = PutRow tables.NamedCorr (lent_entry row)
put_of (lent.Place id place) = SetColumns tables.Para id (Place place)
put_of (lent.Flags id style volume struck) = SetColumns tables.Para id (Flags style volume struck)
put_of (lent.Table id tab) = SetColumns tables.Para id (Table tab.now)
put_of (lent.Print id print) = SetColumns tables.Para id (Print (encode_utf8_all print.now))
put_of (lent.Span id start stop touched) = SetColumns tables.Mark id (Span start stop touched)
put_of (lent.Resolved id resolved) = SetColumns tables.Mark id (Resolved resolved)
put_of (lent.Version version) = SetColumns tables.Book (pos 1) (Version version)

-- what is lent, if anything is
abbrev pub puts_in : Option Put → List RowPut
puts_in put = option_to_list (option_map put_of put)

-- the first of what is put is lent, and the others are left; or there is none, and nothing is lent
abbrev pub LendsFirst : List RowPut → Option Put → List RowPut → Type 0
LendsFirst puts item left = MatchOption item ((puts ≡ []) × (left ≡ [])) (λ put. puts ≡ put_of put ∷ left)

-- ---- the rows once something is put

-- the rows with this one in place of those with its key
abbrev pub put_by_key : {X : Type 0} → (X → Bool) → X → List X → List X
put_by_key has_key x xs = x ∷ filter (λ y. not (has_key y)) xs

-- whether this is the key of a row
abbrev pub has_key : (t : FileTable) → KeyOf t → RowOf t → Bool
has_key tables.Book id b = int_eq b.id id
has_key tables.Tab name t = bytes_eq t.name name
has_key tables.Para id p = int_eq p.id id
has_key tables.Corr entry e = int_eq e.para entry.0 && int_eq e.seq entry.1
has_key tables.Mark id m = int_eq m.id id
has_key tables.Cache para c = int_eq c.para para
has_key tables.NamedCorr entry e = int_eq e.entry.para entry.0 && int_eq e.entry.seq entry.1

-- a row with these columns set
abbrev pub with_columns : (t : FileTable) → ColumnsOf t → RowOf t → RowOf t
with_columns tables.Book (Version version) b = record b { version = version }
with_columns tables.Para (Place place) p = record p { place = place }
with_columns tables.Para (Flags style volume struck) p =
    record p { style = style; volume = volume; struck = struck }
with_columns tables.Para (Table tab) p = record p { tab = tab }
with_columns tables.Para (Print print) p = record p { print = print }
with_columns tables.Mark (Span start stop touched) m =
    record m { start = start; stop = stop; touched = touched }
with_columns tables.Mark (Resolved resolved) m = record m { resolved = resolved }
with_columns t none row = absurd none

-- The rows of a table once one is put: in place of those with its key, or, of an entry of a
-- history, beside them.
abbrev pub put_to : (t : FileTable) → RowOf t → List (RowOf t) → List (RowOf t)
put_to tables.Book row = put_by_key (has_key tables.Book row.id) row
put_to tables.Tab row = put_by_key (has_key tables.Tab row.name) row
put_to tables.Para row = put_by_key (has_key tables.Para row.id) row
put_to tables.Corr row = λ rows. row ∷ rows
put_to tables.Mark row = put_by_key (has_key tables.Mark row.id) row
put_to tables.Cache row = put_by_key (has_key tables.Cache row.para) row
put_to tables.NamedCorr row = λ rows. row ∷ rows

-- the table that it changes
abbrev pub table_put : RowPut → FileTable
table_put (PutRow t row) = t
table_put (SetColumns t key columns) = t

-- what it makes of the rows of that table
abbrev pub change_of : (it : RowPut) → List (RowOf (table_put it)) → List (RowOf (table_put it))
change_of (PutRow t row) = put_to t row
change_of (SetColumns t key columns) = map (λ row. if has_key t key row then with_columns t columns row else row)

-- the entries, with this done to those without names, to those with names
abbrev pub with_unnamed : (List Corr → List Corr) → EntryRows → EntryRows
with_unnamed change (Unnamed corrs) = Unnamed (change corrs)
with_unnamed change (Named corrs) = Named corrs

-- the entries, with this done to those with names
abbrev pub with_named : (List NamedCorr → List NamedCorr) → EntryRows → EntryRows
with_named change (Unnamed corrs) = Unnamed corrs
with_named change (Named corrs) = Named (change corrs)

-- a further entry, if the table has names
abbrev pub with_entry_row : NamedCorr → EntryRows → EntryRows
with_entry_row row = with_named (put_to tables.NamedCorr row)

-- the rows of a file, with this done to those of one table, if the file has it
abbrev pub with_rows_of : (t : FileTable) → (List (RowOf t) → List (RowOf t)) → FileRows → FileRows
with_rows_of tables.Book change rows = record rows { books = change rows.books }
with_rows_of tables.Tab change rows = record rows { tabs = change rows.tabs }
with_rows_of tables.Para change rows = record rows { paras = change rows.paras }
with_rows_of tables.Corr change rows = record rows { entries = with_unnamed change rows.entries }
with_rows_of tables.Mark change rows = record rows { marks = change rows.marks }
with_rows_of tables.Cache change rows = record rows { caches = option_map change rows.caches }
with_rows_of tables.NamedCorr change rows = record rows { entries = with_named change rows.entries }

-- a file's rows once this is put
abbrev pub with_put : RowPut → FileRows → FileRows
with_put it rows = with_rows_of (table_put it) (change_of it) rows

-- the rows once these are put in turn
abbrev pub with_puts : List RowPut → FileRows → FileRows
with_puts puts rows = fold (λ made put. with_put put made) rows puts

-- ---- what they need

-- the file has this table
abbrev pub HasTable : FileRows → FileTable → Type 0
HasTable rows tables.Book = Unit {0}
HasTable rows tables.Tab = Unit {0}
HasTable rows tables.Para = Unit {0}
HasTable rows tables.Corr = table_of rows.entries ≡ tables.Corr
HasTable rows tables.Mark = Unit {0}
HasTable rows tables.Cache = IsSome rows.caches
HasTable rows tables.NamedCorr = table_of rows.entries ≡ tables.NamedCorr

-- the table that it changes is there
abbrev pub HasItsTable : FileRows → RowPut → Type 0
HasItsTable rows it = HasTable rows (table_put it)

-- each of `cache`, `corr2` and `corr` is there if a row of it is put
abbrev pub HasTheirTables : List RowPut → FileRows → Type 0
HasTheirTables puts rows = All (HasItsTable rows) puts
