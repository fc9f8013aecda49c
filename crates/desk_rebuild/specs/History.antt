-- What is said of the rows of one history while they are read.
use Rattle.std.specs.Prelude.{◌≡◌, ◌⊎◌, ℕ, ◌+◌, ◌<◌, ◌≤◌, pos, List, [], ◌∷◌, ◌++◌, length, nat_abs, slice_get, Some}
use Rattle.std.specs.Prelude.{IsPermutation, chars}
use Rattle.desk_rebuild.specs.declared.history.Next.{Next}
use Rattle.desk_rebuild.specs.declared.history.Reading.{Reading}
use Rattle.desk_memory.specs.declared.paragraphs.Paragraph.{Paragraph as HeldParagraph}
use Rattle.desk_model.specs.Book.{Entry}
use Rattle.desk_memory.specs.Histories.{replaced_by}
use Rattle.desk_model.specs.Damage.{IsSoundCorrection, IsSoundEntryRow, IsSoundUndo, entry_of, history_of}
use Rattle.desk_memory.specs.Histories.{HaveTaken, LeavePrint, TookFrom, entries_held, entry_held}
use Rattle.desk_model.specs.Limits.{most_entries, most_print}
use Rattle.desk_model.specs.Print.{corrected_print}
use Rattle.desk_parts.specs.Rows.{NamedCorr}
use Rattle.desk_model.specs.Sound.{IsSoundEntry}
use Rattle.desk_model.specs.BookTexts.{AreCharacters}

-- ---- one row

-- the row fits what the entries before it leave: it corrects the print, or undoes the newest
-- correction in force
abbrev pub IsFit : List ℕ → List Entry → NamedCorr → Type 0
IsFit original before row = IsSoundCorrection (corrected_print original before) row ⊎ IsSoundUndo before row

-- the row is sound after these rows
pub record IsSoundNext (original : List ℕ) (rows : List NamedCorr) (row : NamedCorr) : Type 0 where
  pub number : row.entry.seq ≡ pos (length rows + 1)
  pub room : length rows < most_entries
  pub fits : IsFit original (history_of rows) row
  pub short : length (corrected_print original (history_of (rows ++ row ∷ []))) ≤ most_print

-- the entry is that of the row, which corrects this print, and the next print follows from it
pub record IsCorrecting (print : List ℕ) (row : NamedCorr) (next : Next) : Type 0 where
  pub sound : IsSoundCorrection print row
  pub entry : entry_held next.entry ≡ entry_of row
  pub taken : TookFrom print next.entry
  pub print_is : next.print.items
      ≡ replaced_by (nat_abs row.entry.start) (nat_abs row.entry.len) (chars row.entry.body) print
  pub characters : AreCharacters (chars row.entry.body)
  pub who_characters : AreCharacters (chars row.who)

-- the entry is that of the row, which fits these entries, and the next print follows from it
pub record IsNext (original : List ℕ) (before : List Entry) (row : NamedCorr) (next : Next) : Type 0 where
  pub fits : IsFit original before row
  pub sound : IsSoundEntry original before (entry_of row)
  pub entry : entry_held next.entry ≡ entry_of row
  pub taken : TookFrom (corrected_print original before) next.entry
  pub print : next.print.items ≡ corrected_print original (before ++ entry_of row ∷ [])

-- ---- rows in turn

-- the rows have been read
pub record IsRead (original : List ℕ) (rows : List NamedCorr) (reading : Reading) : Type 0 where
  pub left : LeavePrint original reading.entries.items reading.print.items
  pub entries : entries_held reading.entries.items ≡ history_of rows

-- the rows in this order are sound
abbrev pub AreSoundRows : List ℕ → List NamedCorr → Type 0
AreSoundRows original rows = (index : ℕ) (row : NamedCorr) → slice_get rows index ≡ Some row
    → IsSoundEntryRow original rows index row

-- ---- a paragraph

-- in some order the rows are sound, and this is the print after all of them
pub record CanBeRead (rows : List NamedCorr) (original print : List ℕ) : Type 0 where
  pub sorted : List NamedCorr
  pub same : IsPermutation rows sorted
  pub each : AreSoundRows original sorted
  pub print_is : corrected_print original (history_of sorted) ≡ print

-- the held paragraph has the history of these rows
pub record HasRead (rows : List NamedCorr) (held : HeldParagraph) : Type 0 where
  pub sorted : List NamedCorr
  pub same : IsPermutation rows sorted
  pub each : AreSoundRows held.original sorted
  pub history : entries_held held.history ≡ history_of sorted
  pub taken : HaveTaken held.original held.history
  pub print : corrected_print held.original (history_of sorted) ≡ held.print
