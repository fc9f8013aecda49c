-- The rows of the tables, each as its columns.
use Rattle.std.specs.Prelude.{List, [], ◌∷◌}
use Rattle.std.specs.Cmp.Lexicographic.{slice_cmp}
use Rattle.std.specs.Ordering.{int_cmp, nat_cmp, ordering_then}
use Rattle.std.specs.declared.cmp.Ordering.{Ordering}
use Rattle.sqlite_value.specs.declared.value.Value.TheVariants.{Int, Text, Blob}
use Rattle.sqlite_value.specs.Order.{Row}
use Rattle.desk_parts.specs.declared.file_table.FileTable.{FileTable}
use Rattle.desk_parts.specs.declared.file_table.FileTable.TheVariants as tables
use Rattle.desk_parts.specs.Rows.{RowOf, StoredTab}

-- a row as the query shows it: the row of its table, but that of `tab` with its hidden rowid
abbrev pub ShownOf : FileTable → Type 0
ShownOf tables.Book = RowOf tables.Book
ShownOf tables.Tab = StoredTab
ShownOf tables.Para = RowOf tables.Para
ShownOf tables.Corr = RowOf tables.Corr
ShownOf tables.Mark = RowOf tables.Mark
ShownOf tables.Cache = RowOf tables.Cache
ShownOf tables.NamedCorr = RowOf tables.NamedCorr

-- the columns of a row
abbrev pub columns_of : (t : FileTable) → RowOf t → Row
columns_of tables.Book b = Int b.id ∷ Int b.format ∷ Int b.version ∷ []
columns_of tables.Tab t = Text t.name ∷ Blob t.body ∷ []
columns_of tables.Para p =
    Int p.id ∷ Int p.place ∷ Text p.tab ∷ Text p.original ∷ Text p.print
    ∷ Int p.style ∷ Int p.volume ∷ Int p.struck ∷ []
columns_of tables.Corr e = Int e.para ∷ Int e.seq ∷ Int e.kind ∷ Int e.start ∷ Int e.len ∷ Text e.body ∷ []
columns_of tables.Mark m =
    Int m.id ∷ Int m.para ∷ Int m.start ∷ Int m.stop ∷ Text m.note
    ∷ Int m.touched ∷ Int m.resolved ∷ []
columns_of tables.Cache k = Int k.para ∷ Blob k.cells ∷ []
columns_of tables.NamedCorr e =
    Int e.entry.para ∷ Int e.entry.seq ∷ Int e.entry.kind ∷ Int e.entry.start ∷ Int e.entry.len
    ∷ Text e.entry.body ∷ Text e.who ∷ []

-- the columns of a row that the query shows
abbrev pub shown_columns : (t : FileTable) → ShownOf t → Row
shown_columns tables.Book x = columns_of tables.Book x
shown_columns tables.Tab s = Int s.rowid ∷ columns_of tables.Tab s.row
shown_columns tables.Para x = columns_of tables.Para x
shown_columns tables.Corr x = columns_of tables.Corr x
shown_columns tables.Mark x = columns_of tables.Mark x
shown_columns tables.Cache x = columns_of tables.Cache x
shown_columns tables.NamedCorr x = columns_of tables.NamedCorr x

-- the row of the table that it shows
abbrev pub own : (t : FileTable) → ShownOf t → RowOf t
own tables.Book x = x
own tables.Tab s = s.row
own tables.Para x = x
own tables.Corr x = x
own tables.Mark x = x
own tables.Cache x = x
own tables.NamedCorr x = x

-- The order in which they are read. Texts are in UTF-8, so what is in order of its bytes is in
-- order of its code points.
abbrev pub order : (t : FileTable) → ShownOf t → ShownOf t → Ordering
order tables.Book a b = int_cmp a.id b.id
order tables.Tab a b = slice_cmp nat_cmp a.row.name b.row.name
order tables.Para a b = int_cmp a.id b.id
order tables.Corr a b = ordering_then (int_cmp a.para b.para) (int_cmp a.seq b.seq)
order tables.Mark a b = int_cmp a.id b.id
order tables.Cache a b = int_cmp a.para b.para
order tables.NamedCorr a b = ordering_then (int_cmp a.entry.para b.entry.para) (int_cmp a.entry.seq b.entry.seq)

-- with other rows in one table
abbrev pub set_at : (t : FileTable) → (List (RowOf t) → List (RowOf t))
    → ((v : FileTable) → List (RowOf v)) → (v : FileTable) → List (RowOf v)
set_at tables.Book f rows tables.Book = f (rows tables.Book)
set_at tables.Tab f rows tables.Tab = f (rows tables.Tab)
set_at tables.Para f rows tables.Para = f (rows tables.Para)
set_at tables.Corr f rows tables.Corr = f (rows tables.Corr)
set_at tables.Mark f rows tables.Mark = f (rows tables.Mark)
set_at tables.Cache f rows tables.Cache = f (rows tables.Cache)
set_at tables.NamedCorr f rows tables.NamedCorr = f (rows tables.NamedCorr)
set_at t f rows v = rows v
