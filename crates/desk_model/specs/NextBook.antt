-- What an accepted command makes of a book.
use Rattle.std.specs.Prelude.{◌≡◌, ℕ, ◌+◌, ◌==◌, Bool, true, false, not, if◌then◌else◌, List, [], ◌∷◌, ◌++◌, length}
use Rattle.std.specs.Prelude.{map, Some, filter, flat_map}
use Rattle.std.specs.Ordering.{nat_cmp}
use Rattle.std.specs.Cmp.Lexicographic.{slice_cmp}
use Rattle.std.specs.FinMap.Entries.{put}
use Rattle.std.specs.Option.{option_map_or}
use Rattle.desk_model.specs.declared.command.Anchor.{Anchor}
use Rattle.desk_model.specs.declared.command.Anchor.TheVariants.{Front, End, Para}
use Rattle.desk_model.specs.declared.command.Command.{Command}
use Rattle.desk_model.specs.declared.command.Command.TheVariants.{Table, TypeIn, Correct, Undo, Mark, Resolve, Strike}
use Rattle.desk_model.specs.declared.command.Command.TheVariants.{Restore, Style, Volume, Retable, Move}
use Rattle.desk_model.specs.declared.style.Style.TheVariants.{Body}
use Rattle.desk_model.specs.Book.{Replacement, Entry, Corrects, Undoes, Book, Paragraph}
use Rattle.desk_model.specs.Book.{Mark as BookMark, new_mark, paragraph_of}
use Rattle.desk_model.specs.Marks.{mark_moved, mark_moved_back}
use Rattle.desk_model.specs.Print.{newest, with_entry}
use Rattle.desk_model.specs.BookTexts.{normal_form}
use Rattle.desk_model.specs.Translation.{AreMarked}

-- the paragraphs with a new one, where the command says
abbrev pub with_paragraph : Anchor → Paragraph → List Paragraph → List Paragraph
with_paragraph Front new paragraphs = new ∷ paragraphs
with_paragraph End new paragraphs = paragraphs ++ new ∷ []
with_paragraph (Para id) new paragraphs =
    flat_map (λ paragraph. if paragraph.id == id then paragraph ∷ new ∷ [] else paragraph ∷ []) paragraphs

-- the paragraphs with a change of the one with this id
abbrev pub with_change : ℕ → (Paragraph → Paragraph) → List Paragraph → List Paragraph
with_change id change paragraphs =
    map (λ paragraph. if paragraph.id == id then change paragraph else paragraph) paragraphs

-- a paragraph that was just typed
abbrev pub new_paragraph : ℕ → List ℕ → List ℕ → Paragraph
new_paragraph id table text = record {
  id = id;
  table = table;
  original = normal_form text;
  history = [];
  style = Body;
  begins_volume = false;
  struck = false;
}

-- whether this is the place after the paragraph with this id
abbrev pub is_after : ℕ → Anchor → Bool
is_after id Front = false
is_after id End = false
is_after id (Para other) = other == id

-- the paragraphs with the one with this id moved; a move after itself leaves it where it is
abbrev pub with_move : ℕ → Anchor → Book → List Paragraph
with_move id anchor book =
    let others = filter (λ paragraph. not (paragraph.id == id)) book.paragraphs in
    if is_after id anchor then book.paragraphs
    else option_map_or (λ paragraph. with_paragraph anchor paragraph others) (paragraph_of book id) book.paragraphs

-- the id of the next paragraph
abbrev pub next_id : Book → ℕ
next_id book = length book.paragraphs + 1

-- the book at its next version, with these paragraphs
abbrev pub next_with_paragraphs : Book → List Paragraph → Book
next_with_paragraphs book paragraphs = record book { version = book.version + 1; paragraphs = paragraphs }

-- the book at its next version, with these marks
abbrev pub next_with_marks : Book → List BookMark → Book
next_with_marks book marks = record book { version = book.version + 1; marks = marks }

-- the book at its next version, in which the table with this name has this text
abbrev pub next_with_table : Book → (name text : List ℕ) → Book
next_with_table book name text =
    record book { version = book.version + 1; tables = put (slice_cmp nat_cmp) name text book.tables }

-- ---- corrections and marks

-- the text, as it is stored, in place of so many characters from a place on
abbrev pub replacement_by : (start count : ℕ) → List ℕ → Replacement
replacement_by start count text = record { start = start; count = count; text = normal_form text }

-- the marks, those of the paragraph with this id moved
abbrev pub with_marks_moved : ℕ → (BookMark → BookMark) → List BookMark → List BookMark
with_marks_moved id move marks = map (λ mark. if mark.paragraph == id then move mark else mark) marks

-- the book at its next version with one entry more in the history of the paragraph with this id,
-- whose marks move
abbrev pub next_with_entry : Book → ℕ → Entry → (BookMark → BookMark) → Book
next_with_entry book id entry move = record book {
  version = book.version + 1;
  paragraphs = with_change id (with_entry entry) book.paragraphs;
  marks = with_marks_moved id move book.marks;
}

-- of the corrections in force of the paragraph with this id, this is the newest, with its number
pub record IsNewest (book : Book) (id number : ℕ) (correction : Replacement) : Type 0 where
  pub paragraph : Paragraph
  pub found : paragraph_of book id ≡ Some paragraph
  pub newest_is : newest paragraph.history ≡ Some (number, correction)

-- the id of the next mark
abbrev pub next_mark : Book → ℕ
next_mark book = length book.marks + 1

-- the marks with the one with this id resolved
abbrev pub with_resolved : ℕ → List BookMark → List BookMark
with_resolved id marks =
    map (λ (mark : BookMark). if mark.id == id then record mark { resolved = true } else mark) marks

-- ---- each command

-- the command, if it is accepted, makes the next book of this one
abbrev pub Makes : Book → Command → Book → Type 0
Makes book (Table name text) next = next ≡ next_with_table book name text
Makes book (TypeIn anchor table text) next =
    next ≡ next_with_paragraphs book (with_paragraph anchor (new_paragraph (next_id book) table text) book.paragraphs)
Makes book (Correct id start count text who) next =
    let r = replacement_by start count text in next ≡ next_with_entry book id (Corrects r who) (mark_moved r)
Makes book (Undo id) next =
    (n : ℕ) × (r : Replacement) × IsNewest book id n r × (next ≡ next_with_entry book id (Undoes n) (mark_moved_back r))
Makes book (Mark id cell count note) next =
    (start : ℕ) × (end : ℕ) × AreMarked book id cell count start end
    × (next ≡ next_with_marks book (book.marks ++ new_mark (next_mark book) id start end note ∷ []))
Makes book (Resolve id) next = next ≡ next_with_marks book (with_resolved id book.marks)
Makes book (Strike id) next =
    next ≡ next_with_paragraphs book (with_change id (λ p. record p { struck = true }) book.paragraphs)
Makes book (Restore id) next =
    next ≡ next_with_paragraphs book (with_change id (λ p. record p { struck = false }) book.paragraphs)
Makes book (Style id style) next =
    next ≡ next_with_paragraphs book (with_change id (λ p. record p { style = style }) book.paragraphs)
Makes book (Volume id begins) next =
    next ≡ next_with_paragraphs book (with_change id (λ p. record p { begins_volume = begins }) book.paragraphs)
Makes book (Retable id table) next =
    next ≡ next_with_paragraphs book (with_change id (λ p. record p { table = table }) book.paragraphs)
Makes book (Move id anchor) next = next ≡ next_with_paragraphs book (with_move id anchor book)
