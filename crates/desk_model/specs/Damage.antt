-- What is wrong with rows that show no book, and which of it is reported: the first damaged table,
-- and in it the smallest id. All of this is said of rows whose texts are UTF-8 and whose tables are
-- those of their format; for any others another fault is reported first. What is said of a table
-- counts only if the tables that are checked before it are sound.
use Rattle.std.specs.Prelude.{◌≡◌, ◌≢◌, ◌⊎◌, ℕ, ◌+◌, ◌<◌, ◌≤◌, ℤ, pos, ◌+ℤ◌, ◌≤ℤ◌, nat_abs, if◌then◌else◌, List, []}
use Rattle.std.specs.Prelude.{◌∷◌, map, filter, length, take, slice_get, option_map, Some, Contains, IsPermutation}
use Rattle.std.specs.Prelude.{IsSortedBy, chars}
use Rattle.std.specs.Ordering.{int_eq, is_lt, nat_cmp, ordering_then}
use Rattle.std.specs.Cmp.Lexicographic.{slice_cmp}
use Rattle.louis_table.specs.Meaning.{Meaning}
use Rattle.louis_table.specs.Table.{Means}
use Rattle.louis_translate.specs.declared.choices.Choice.{Choice}
use Rattle.louis_translate.specs.Braille.{braille}
use Rattle.louis_translate.specs.Position.{AreDefined}
use Rattle.louis_translate.specs.Tiling.{Tiles}
use Rattle.desk_parts.specs.declared.file_table.FileTable.{FileTable}
use Rattle.desk_parts.specs.declared.file_table.FileTable.TheVariants.{Book, Tab, Para, Corr, Mark, Cache, NamedCorr}
use Rattle.desk_parts.specs.declared.rows.BookRow.{BookRow}
use Rattle.desk_model.specs.Book.{Entry, Corrects, Undoes}
use Rattle.desk_parts.specs.FileRows.{FileRows, entries_in, format_of, table_of}
use Rattle.desk_model.specs.Limits.{most_entries, most_marks, most_note, most_paragraphs}
use Rattle.desk_model.specs.Limits.{most_print, most_tables, most_version}
use Rattle.desk_model.specs.ValidNames.{IsProofreaderName, IsTableName}
use Rattle.desk_model.specs.Print.{corrected_print, newest}
use Rattle.desk_parts.specs.Rows.{Tab as TabRow, Para as ParaRow, NamedCorr as EntryRow, Mark as MarkRow, ParaCells}
use Rattle.desk_model.specs.BookTexts.{IsUnbarred}

-- ---- numbers

-- from the first to the last
abbrev pub IsWithin : ℕ → ℕ → ℤ → Type 0
IsWithin first last n = (pos first ≤ℤ n) × (n ≤ℤ pos last)

-- 0 or 1
abbrev pub IsFlag : ℤ → Type 0
IsFlag n = (n ≡ pos 0) ⊎ (n ≡ pos 1)

-- how many rows have this number as their key
abbrev pub rows_with : {X : Type 0} → (X → ℤ) → ℤ → List X → ℕ
rows_with key id rows = length (filter (λ row. int_eq (key row) id) rows)

-- the number is from 1 to the last one, no other row has it, and it is 1 or a row has the one
-- before it
pub record IsNumber {X : Type 0} (key : X → ℤ) (last : ℕ) (rows : List X) (id : ℤ) : Type 0 where
  pub within : IsWithin 1 last id
  pub once : rows_with key id rows ≡ 1
  pub next : (id ≡ pos 1) ⊎ ((row : X) × Contains rows row × (key row +ℤ pos 1 ≡ id))

-- ---- book

-- the row of `book`: its id is 1, and its format and its version are within their ranges
pub record IsSoundBookRow (row : BookRow) : Type 0 where
  pub id : row.id ≡ pos 1
  pub format : pos 1 ≤ℤ row.format
  pub version : IsWithin 0 most_version row.version

-- there isn't exactly one row, or it isn't sound: always at 1
abbrev pub IsDamagedBook : List BookRow → ℤ → Type 0
IsDamagedBook books id = (id ≡ pos 1) × ¬ ((row : BookRow) × (books ≡ row ∷ []) × IsSoundBookRow row)

-- ---- tab

-- the row at this index has a name that no row before it has, a text with a meaning, and there is
-- room for it
pub record IsSoundTabRow (sorted : List TabRow) (index : ℕ) (row : TabRow) : Type 0 where
  pub named : IsTableName (chars row.name)
  pub meaning : Meaning
  pub means : Means row.body meaning
  pub room : index < most_tables
  pub new : (before : ℕ) (other : TabRow) → before < index → slice_get sorted before ≡ Some other
      → other.name ≢ row.name

-- of the tables in order of their names, those of one name in order of their texts, the one with
-- this number, from 1, isn't sound
abbrev pub IsDamagedTab : List TabRow → ℤ → Type 0
IsDamagedTab tabs id =
    (sorted : List TabRow) × IsPermutation tabs sorted
    × IsSortedBy
    (λ a b. is_lt (ordering_then (slice_cmp nat_cmp a.name b.name) (slice_cmp nat_cmp a.body b.body))) sorted
    × ((index : ℕ) × (row : TabRow) × (slice_get sorted index ≡ Some row) × (id ≡ pos (index + 1))
    × ¬ IsSoundTabRow sorted index row)

-- ---- para

-- no longer than a print may be, and without barred characters
abbrev pub IsPrintText : List ℕ → Type 0
IsPrintText text = (length text ≤ most_print) × IsUnbarred text

-- the table that the paragraph names is there, and its text has this meaning
pub record IsItsTable (tabs : List TabRow) (row : ParaRow) (meaning : Meaning) : Type 0 where
  pub table : TabRow
  pub there : Contains tabs table
  pub named : table.name ≡ row.tab
  pub means : Means table.body meaning

-- the row of a paragraph: no column is damaged, and its table, which is there, defines its print
pub record IsSoundParaRow (tabs : List TabRow) (paras : List ParaRow) (row : ParaRow) : Type 0 where
  pub number : IsNumber (λ other. other.id) most_paragraphs paras row.id
  pub place : IsWithin 1 (length paras) row.place
  -- no smaller id has the place
  pub own : (other : ParaRow) → Contains paras other → other.place ≡ row.place → row.id ≤ℤ other.id
  pub original : IsPrintText (chars row.original)
  pub print : IsPrintText (chars row.print)
  pub meaning : Meaning
  pub table : IsItsTable tabs row meaning
  pub defined : AreDefined meaning (chars row.print)
  pub style : IsFlag row.style
  pub volume : IsFlag row.volume
  pub struck : IsFlag row.struck

-- a row with this id is not sound
abbrev pub IsDamagedPara : List TabRow → List ParaRow → ℤ → Type 0
IsDamagedPara tabs paras id = (row : ParaRow) × Contains paras row × (row.id ≡ id) × ¬ IsSoundParaRow tabs paras row

-- the rows have a paragraph with this id
abbrev pub HasPara : List ParaRow → ℤ → Type 0
HasPara paras id = (row : ParaRow) × Contains paras row × (row.id ≡ id)

-- ---- corr, corr2

-- what a row stands for: an undo if its kind is 1, and otherwise a correction
abbrev pub entry_of : EntryRow → Entry
entry_of row =
    if int_eq row.entry.kind (pos 1) then Undoes (nat_abs row.entry.start)
    else Corrects
    (record { start = nat_abs row.entry.start; count = nat_abs row.entry.len; text = chars row.entry.body })
    (chars row.who)

-- what rows stand for
abbrev pub history_of : List EntryRow → List Entry
history_of rows = map entry_of rows

-- a correction of this print
pub record IsSoundCorrection (print : List ℕ) (row : EntryRow) : Type 0 where
  pub kind : row.entry.kind ≡ pos 0
  pub start : pos 0 ≤ℤ row.entry.start
  pub len : pos 0 ≤ℤ row.entry.len
  pub span : (row.entry.start +ℤ row.entry.len) ≤ℤ pos (length print)
  pub text : IsUnbarred (chars row.entry.body)
  pub who : IsProofreaderName (chars row.who)

-- an undo of the newest correction that these entries leave in force
pub record IsSoundUndo (before : List Entry) (row : EntryRow) : Type 0 where
  pub kind : row.entry.kind ≡ pos 1
  pub number : ℕ
  pub newest_is : option_map (λ correction. correction.0) (newest before) ≡ Some number
  pub start : row.entry.start ≡ pos number
  pub len : row.entry.len ≡ pos 0
  pub body : row.entry.body ≡ []
  pub who : row.who ≡ []

-- the row with this index, from 0, has the next number, and what it stands for fits what those
-- before it leave; the print after it is within its limit
pub record IsSoundEntryRow (original : List ℕ) (sorted : List EntryRow) (index : ℕ) (row : EntryRow) : Type 0 where
  pub number : row.entry.seq ≡ pos (index + 1)
  pub room : index < most_entries
  pub fits : IsSoundCorrection (corrected_print original (history_of (take index sorted))) row
      ⊎ IsSoundUndo (history_of (take index sorted)) row
  pub short : length (corrected_print original (history_of (take (index + 1) sorted))) ≤ most_print

-- the rows of the paragraph's entries are sound, in order of their numbers, and the print after all
-- of them is its own
pub record HasSoundEntries (entries : List EntryRow) (para : ParaRow) : Type 0 where
  pub sorted : List EntryRow
  pub its_own : IsPermutation (filter (λ row. int_eq row.entry.para para.id) entries) sorted
  pub each : (index : ℕ) (row : EntryRow) → slice_get sorted index ≡ Some row
      → IsSoundEntryRow (chars para.original) sorted index row
  pub print : corrected_print (chars para.original) (history_of sorted) ≡ chars para.print

-- the paragraph with this id doesn't have sound entries, or there are entries of this id and no
-- such paragraph
abbrev pub IsDamagedEntries : List ParaRow → List EntryRow → ℤ → Type 0
IsDamagedEntries paras entries id =
    ((para : ParaRow) × Contains paras para × (para.id ≡ id) × ¬ HasSoundEntries entries para)
    ⊎ ((row : EntryRow) × Contains entries row × (row.entry.para ≡ id) × ¬ HasPara paras id)

-- ---- mark

-- the paragraph is there, and its print has the places from the start up to the stop
pub record IsSpanned (paras : List ParaRow) (row : MarkRow) : Type 0 where
  pub paragraph : ParaRow
  pub there : Contains paras paragraph
  pub named : paragraph.id ≡ row.para
  pub start : pos 0 ≤ℤ row.start
  pub ordered : row.start ≤ℤ row.stop
  pub stop : row.stop ≤ℤ pos (length (chars paragraph.print))

-- the row of a mark: no column is damaged, and its paragraph is there
pub record IsSoundMarkRow (paras : List ParaRow) (marks : List MarkRow) (row : MarkRow) : Type 0 where
  pub number : IsNumber (λ other. other.id) most_marks marks row.id
  pub span : IsSpanned paras row
  pub short : length (chars row.note) ≤ most_note
  pub note : IsUnbarred (chars row.note)
  pub touched : IsFlag row.touched
  pub resolved : IsFlag row.resolved

-- a row with this id is not sound
abbrev pub IsDamagedMark : List ParaRow → List MarkRow → ℤ → Type 0
IsDamagedMark paras marks id = (row : MarkRow) × Contains marks row × (row.id ≡ id) × ¬ IsSoundMarkRow paras marks row

-- ---- cache

-- no other row is of this paragraph, which is there, and the cells are the translation of its print
pub record IsSoundCacheRow (tabs : List TabRow) (paras : List ParaRow) (caches : List ParaCells)
    (row : ParaCells) : Type 0 where
  pub once : rows_with (λ other. other.para) row.para caches ≡ 1
  pub paragraph : ParaRow
  pub there : Contains paras paragraph
  pub named : paragraph.id ≡ row.para
  pub meaning : Meaning
  pub table : IsItsTable tabs paragraph meaning
  pub choices : List Choice
  pub tiles : Tiles meaning (chars paragraph.print) choices
  pub cells : row.cells ≡ braille meaning (chars paragraph.print) choices

-- a row of this id isn't sound, or the paragraph with this id has none
abbrev pub IsDamagedCache : List TabRow → List ParaRow → List ParaCells → ℤ → Type 0
IsDamagedCache tabs paras caches id =
    ((row : ParaCells) × Contains caches row × (row.para ≡ id) × ¬ IsSoundCacheRow tabs paras caches row)
    ⊎ (HasPara paras id × (rows_with (λ row. row.para) id caches ≡ 0))

-- ---- what is reported

-- The table has damage at this id; `cache` only if it is there, and of `corr` and `corr2` the one
-- that is read. The id is always 1 in `book`; the number of the row by order of names in `tab`;
-- that of the paragraph in `para`, `corr`, `corr2` and `cache`; and that of the mark in `mark`. If
-- a number is missing, the next one that is there is damaged; a key that two rows have is damaged,
-- of equal names in `tab` the second in the order of their texts; of two rows with one place the
-- one with the greater id.
abbrev pub IsDamaged : FileRows → FileTable → ℤ → Type 0
IsDamaged rows Book id = IsDamagedBook rows.books id
IsDamaged rows Tab id = IsDamagedTab rows.tabs id
IsDamaged rows Para id = IsDamagedPara rows.tabs rows.paras id
IsDamaged rows Corr id = (table_of rows.entries ≡ Corr) × IsDamagedEntries rows.paras (entries_in rows.entries) id
IsDamaged rows NamedCorr id =
    (table_of rows.entries ≡ NamedCorr) × IsDamagedEntries rows.paras (entries_in rows.entries) id
IsDamaged rows Mark id = IsDamagedMark rows.paras rows.marks id
IsDamaged rows Cache id =
    (caches : List ParaCells) × (rows.caches ≡ Some caches) × IsDamagedCache rows.tabs rows.paras caches id

-- the rank of a table, in the order in which they are checked: `corr2` has that of `corr`
abbrev pub table_rank : FileTable → ℕ
table_rank Book = 1
table_rank Tab = 2
table_rank Para = 3
table_rank Corr = 4
table_rank NamedCorr = 4
table_rank Mark = 5
table_rank Cache = 6

-- no table that is checked before this one is damaged, and this one at no smaller id: at most one
-- damage is the first
pub record IsFirstDamage (rows : FileRows) (table : FileTable) (id : ℤ) : Type 0 where
  pub damaged : IsDamaged rows table id
  pub tables : (other : FileTable) (n : ℤ) → IsDamaged rows other n → table_rank table ≤ table_rank other
  pub ids : (n : ℤ) → IsDamaged rows table n → id ≤ℤ n

-- if `book` has one row, with a format from 1 on, the entries are those of this format
abbrev pub HasItsTables : FileRows → Type 0
HasItsTables rows = (row : BookRow) → rows.books ≡ row ∷ [] → pos 1 ≤ℤ row.format
    → row.format ≡ pos (format_of rows.entries)
