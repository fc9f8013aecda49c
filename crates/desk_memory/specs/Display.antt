-- What a book shows of a paragraph as it is held in memory. Only private functions and proofs need
-- these words.
use Rattle.std.specs.Prelude.{◌≡◌, ℕ, List, length, Some}
use Rattle.louis_table.specs.Meaning.{Meaning}
use Rattle.louis_translate.specs.declared.choices.Choice.{Choice}
use Rattle.louis_translate.specs.Position.{AreDefined}
use Rattle.louis_translate.specs.Braille.{braille}
use Rattle.desk_memory.specs.declared.paragraphs.Paragraph.{Paragraph as HeldParagraph}
use Rattle.desk_model.specs.Book.{Book, Paragraph, paragraph_of}
use Rattle.desk_memory.specs.Histories.{HaveTaken}
use Rattle.desk_memory.specs.Held.{paragraph_held}
use Rattle.desk_model.specs.ParagraphMarks.{marks_on}
use Rattle.desk_model.specs.Print.{print_of}
use Rattle.desk_model.specs.Sound.{IsSoundParagraph}
use Rattle.desk_model.specs.Translation.{IsTranslatedBy}

-- the held paragraph has the print and the braille of the book's, which it stands for, and whose
-- table has this meaning and defines the print; it has what each of its corrections took away, and
-- as many marks as the book has on it
pub record IsShown (book : Book) (id : ℕ) (held : HeldParagraph) (meaning : Meaning) : Type 0 where
  pub paragraph : Paragraph
  pub found : paragraph_of book id ≡ Some paragraph
  pub print : held.print ≡ print_of paragraph
  pub choices : List Choice
  pub translated : IsTranslatedBy book paragraph meaning choices
  pub cells : held.cells ≡ braille meaning (print_of paragraph) choices
  pub defined : AreDefined meaning (print_of paragraph)
  pub held_is : paragraph ≡ paragraph_held (id, held)
  pub sound : IsSoundParagraph book paragraph
  pub taken : HaveTaken held.original held.history
  pub marked : length held.marks ≡ length (marks_on id book.marks)
