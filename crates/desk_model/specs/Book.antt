-- A book: what was typed, corrected and marked, and nothing that follows from that.
use Rattle.std.specs.Prelude.{ℕ, nat_eq, Bool, false, List, [], Option, find}
use Rattle.std.specs.Map.{lookup}
use Rattle.std.specs.Cmp.Lexicographic.{pointwise}
use Rattle.desk_model.specs.declared.style.Style.{Style}

-- a text that replaces so many characters of a print from a place on
pub record Replacement : Type 0 where
  pub start : ℕ
  pub count : ℕ
  pub text : List ℕ

-- an entry of a paragraph's history: a correction, with the name of its proofreader, which may be
-- empty, or the undo of the correction with this number
pub data Entry : Type 0 where
  Corrects : Replacement → List ℕ → Entry
  Undoes : ℕ → Entry

-- the original is the typed text as it is stored; the entries of the history have the numbers 1, 2,
-- ..
pub record Paragraph : Type 0 where
  pub id : ℕ
  pub table : List ℕ
  pub original : List ℕ
  pub history : List Entry
  pub style : Style
  pub begins_volume : Bool
  pub struck : Bool

-- a proofreader's note on the places of a paragraph's print from start up to but not including end
pub record Mark : Type 0 where
  pub id : ℕ
  pub paragraph : ℕ
  pub start : ℕ
  pub end : ℕ
  pub note : List ℕ
  pub touched : Bool
  pub resolved : Bool

-- a mark that was just made on places of a print
abbrev pub new_mark : (id paragraph start end : ℕ) → List ℕ → Mark
new_mark id paragraph start end note = record {
  id = id;
  paragraph = paragraph;
  start = start;
  end = end;
  note = note;
  touched = false;
  resolved = false;
}

-- the texts of the tables stand in the order of their names, the paragraphs in the order of the
-- book, the marks in the order of their ids; prints and cells follow from these, and are no part of
-- it
pub record Book : Type 0 where
  pub version : ℕ
  pub tables : List (List ℕ × List ℕ)
  pub paragraphs : List Paragraph
  pub marks : List Mark

-- the text of the table with this name, if there is one
abbrev pub text_of : Book → List ℕ → Option (List ℕ)
text_of book name = lookup (pointwise nat_eq name) book.tables

-- the paragraph with this id, if there is one
abbrev pub paragraph_of : Book → ℕ → Option Paragraph
paragraph_of book id = find (λ paragraph. nat_eq paragraph.id id) book.paragraphs

-- the mark with this id, if there is one
abbrev pub mark_of : Book → ℕ → Option Mark
mark_of book id = find (λ mark. nat_eq mark.id id) book.marks

-- a book with nothing in it
abbrev pub empty_book : Book
empty_book = record { version = 0; tables = []; paragraphs = []; marks = [] }

-- paragraphs in the order of a book
abbrev pub ParagraphList : Type 0
ParagraphList = List Paragraph

-- the entries of a history with their numbers
abbrev pub EntryList : Type 0
EntryList = List (ℕ × Entry)

-- marks in the order of their ids
abbrev pub MarkList : Type 0
MarkList = List Mark
