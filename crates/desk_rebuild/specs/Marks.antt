-- Rows of marks, checked against the paragraphs that are held.
use Rattle.std.specs.Prelude.{◌≡◌, ℕ, ℤ, pos, ◌+◌, ◌<◌, ◌≤◌, ◌≤ℤ◌, List, length, slice_get, Some, chars}
use Rattle.desk_memory.specs.declared.marks.HeldMark.{HeldMark}
use Rattle.desk_memory.specs.declared.paragraphs.Paragraph.{Paragraph as HeldParagraph}
use Rattle.desk_memory.specs.Held.{mark_held}
use Rattle.desk_model.specs.Damage.{IsFlag}
use Rattle.desk_rebuild.specs.OrderedRows.{AreHeldUpTo, RowRule}
use Rattle.desk_model.specs.Limits.{most_marks, most_note}
use Rattle.desk_parts.specs.declared.file_table.FileTable.TheVariants as tables
use Rattle.desk_parts.specs.FileRows.{HasUtf8Texts, spelled}
use Rattle.desk_parts.specs.Rows.{Mark as MarkRow}
use Rattle.desk_model.specs.Shows.{mark_row_of}
use Rattle.desk_model.specs.BookTexts.{IsUnbarred}

-- ---- a row, but for its id

-- the held paragraph has this id
pub record HasId (items : List HeldParagraph) (id : ℤ) (held : HeldParagraph) : Type 0 where
  pub index : ℕ
  pub is : id ≡ pos (index + 1)
  pub at : slice_get items index ≡ Some held

-- a print of so many characters has the places from the start up to the stop
pub record IsSpan (count : ℕ) (start stop : ℤ) : Type 0 where
  pub low : pos 0 ≤ℤ start
  pub ordered : start ≤ℤ stop
  pub high : stop ≤ℤ pos count

-- a note is short enough, and has no barred character
pub record IsNoteText (text : List ℕ) : Type 0 where
  pub short : length text ≤ most_note
  pub unbarred : IsUnbarred text

-- its two flags are each 0 or 1
pub record HasFlags (row : MarkRow) : Type 0 where
  pub touched : IsFlag row.touched
  pub resolved : IsFlag row.resolved

-- the row is sound, whatever its id
pub record IsMarkOn (items : List HeldParagraph) (row : MarkRow) : Type 0 where
  pub held : HeldParagraph
  pub named : HasId items row.para held
  pub span : IsSpan (length held.print) row.start row.stop
  pub note : IsNoteText (chars row.note)
  pub flags : HasFlags row

-- the held mark has what the row says: its own row, given the id of this one, is this one with its
-- note as characters
abbrev pub IsHeldOf : MarkRow → HeldMark → Type 0
IsHeldOf row mark = record (mark_row_of (mark_held (0, mark))) { id = row.id } ≡ spelled tables.Mark row

-- ---- rows in the order of their ids

-- what is asked of the rows beside these paragraphs
abbrev pub mark_rule : List HeldParagraph → RowRule MarkRow
mark_rule items = record {
  id = λ row. row.id;
  most = most_marks;
  IsSound = λ index row. IsMarkOn items row;
  HasUtf8Texts = HasUtf8Texts tables.Mark;
}

-- each row is sound, and has its mark
abbrev pub AreHeldOf : List HeldParagraph → List MarkRow → List HeldMark → Type 0
AreHeldOf items rows marks = AreHeldUpTo (mark_rule items) IsHeldOf (length rows) rows marks

-- ---- the indexes of a paragraph's marks

-- the mark is on one of so many paragraphs
abbrev pub IsOnOne : ℕ → HeldMark → Type 0
IsOnOne count mark = (0 < mark.paragraph) × (mark.paragraph ≤ count)
