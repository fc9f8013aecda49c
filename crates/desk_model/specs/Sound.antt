-- What is true of each book that the commands can make.
use Rattle.std.specs.Prelude.{◌≡◌, ℕ, ◌+◌, ◌≤◌, List, length, map, take, slice_get, Some, option_map}
use Rattle.std.specs.Ordering.{nat_cmp}
use Rattle.std.specs.List.{All, range_with_len}
use Rattle.std.specs.List.Sorted.{IsPermutation, IsStrictlySortedBy}
use Rattle.std.specs.Cmp.Lexicographic.{slice_cmp}
use Rattle.louis_table.specs.Meaning.{Meaning}
use Rattle.louis_table.specs.Table.{Means}
use Rattle.louis_translate.specs.Position.{AreDefined}
use Rattle.desk_model.specs.Book.{Entry, Corrects, Undoes, Paragraph, Mark, Book, text_of, paragraph_of}
use Rattle.desk_model.specs.Print.{corrected_print, newest, print_of}
use Rattle.desk_model.specs.Limits.{most_entries, most_marks, most_note, most_paragraphs}
use Rattle.desk_model.specs.Limits.{most_print, most_tables, most_version}
use Rattle.desk_model.specs.BookTexts.{AreCharacters, IsClean}
use Rattle.desk_model.specs.ValidNames.{IsProofreaderName, IsTableName}

-- ---- histories

-- after the entries before it, a correction replaces characters that are there by a clean text, for
-- a proofreader with a name that is allowed, and an undo names the newest correction then in force
abbrev pub IsSoundEntry : List ℕ → List Entry → Entry → Type 0
IsSoundEntry original before (Corrects r who) =
    (r.start + r.count ≤ length (corrected_print original before)) × IsClean r.text × IsProofreaderName who
    × AreCharacters who
IsSoundEntry original before (Undoes n) = option_map (λ correction. correction.0) (newest before) ≡ Some n

-- each entry is sound after those before it
abbrev pub AreSoundEntries : List ℕ → List Entry → Type 0
AreSoundEntries original history =
    (i : ℕ) (entry : Entry) → slice_get history i ≡ Some entry → IsSoundEntry original (take i history) entry

-- a history has few enough entries, each of them sound, and every print on the way is short enough
pub record IsSoundHistory (original : List ℕ) (history : List Entry) : Type 0 where
  pub few : length history ≤ most_entries
  pub entries : AreSoundEntries original history
  pub short : (i : ℕ) → i ≤ length history → length (corrected_print original (take i history)) ≤ most_print

-- ---- the parts of a book

-- a table has a name and a text with a meaning
pub record IsSoundTable (entry : List ℕ × List ℕ) : Type 0 where
  pub named : IsTableName entry.0
  pub meaning : Meaning
  pub means : Means entry.1 meaning

-- the original is clean and the history sound; the paragraph's table is one of the book's, and
-- defines its print
pub record IsSoundParagraph (book : Book) (paragraph : Paragraph) : Type 0 where
  pub clean : IsClean paragraph.original
  pub history : IsSoundHistory paragraph.original paragraph.history
  pub text : List ℕ
  pub meaning : Meaning
  pub found : text_of book paragraph.table ≡ Some text
  pub means : Means text meaning
  pub defined : AreDefined meaning (print_of paragraph)

-- the mark stands on places of a print of the book, and has a short and clean note
pub record IsSoundMark (book : Book) (mark : Mark) : Type 0 where
  pub paragraph : Paragraph
  pub found : paragraph_of book mark.paragraph ≡ Some paragraph
  pub ordered : mark.start ≤ mark.end
  pub within : mark.end ≤ length (print_of paragraph)
  pub clean : IsClean mark.note
  pub short : length mark.note ≤ most_note

-- all is within its limit; tables have names that differ and stand in order; the ids of paragraphs
-- are 1, 2, .. in some order, those of marks in this order; and each part is sound. All texts are
-- then Unicode scalar values.
pub record IsSound (book : Book) : Type 0 where
  pub version : book.version ≤ most_version
  pub few_tables : length book.tables ≤ most_tables
  pub few_paragraphs : length book.paragraphs ≤ most_paragraphs
  pub few_marks : length book.marks ≤ most_marks
  pub names : IsStrictlySortedBy (slice_cmp nat_cmp) (map (λ entry. entry.0) book.tables)
  pub tables : All IsSoundTable book.tables
  pub ids : IsPermutation (range_with_len 1 (length book.paragraphs)) (map (λ paragraph. paragraph.id) book.paragraphs)
  pub paragraphs : All (IsSoundParagraph book) book.paragraphs
  pub numbers : map (λ mark. mark.id) book.marks ≡ range_with_len 1 (length book.marks)
  pub marks : All (IsSoundMark book) book.marks
