-- What is said of a command, its expected version aside, and of what it names. Only private
-- functions and proofs need these words.
use Rattle.std.specs.Prelude.{◌≡◌, ◌⊎◌, ℕ, false, List, [], Some, None, IsSome}
use Rattle.std.specs.List.{All, Contains}
use Rattle.louis_table.specs.Meaning.{Meaning}
use Rattle.louis_table.specs.Table.{Means}
use Rattle.desk_book.specs.declared.change.Effect.{Effect}
use Rattle.desk_model.specs.declared.command.Command.{Command}
use Rattle.desk_model.specs.declared.refusal.Refusal.{Refusal}
use Rattle.desk_model.specs.declared.refusal.Refusal.TheVariants.{NoMemory}
use Rattle.desk_memory.specs.declared.paragraphs.Paragraph.{Paragraph as HeldParagraph}
use Rattle.desk_model.specs.declared.style.Style.TheVariants.{Body}
use Rattle.desk_memory.specs.declared.tables.BookTable.{BookTable}
use Rattle.desk_model.specs.Book.{Book, paragraph_of, text_of}
use Rattle.desk_book.specs.Changes.{Does}
use Rattle.desk_memory.specs.Braille.{AreCellsOf}
use Rattle.desk_model.specs.Judging.{MayLackMemory}
use Rattle.desk_memory.specs.Held.{paragraph_held}
use Rattle.desk_model.specs.Named.{HasCharacters}
use Rattle.desk_model.specs.Print.{print_of}
use Rattle.desk_model.specs.Refusals.{IsAccepted, IsRefused}
use Rattle.desk_model.specs.NextBook.{Makes}
use Rattle.desk_model.specs.BookTexts.{AreCharacters}

-- the command is accepted, the effect is what it does, and what it puts into the book is of
-- characters
abbrev pub IsPlanned : Book → Command → Effect → Type 0
IsPlanned book command effect =
    IsAccepted book None command × ((next : Book) × Makes book command next × Does book command next effect)
    × HasCharacters command

-- the command is refused with the first refusal that holds, or an allocation failed
abbrev pub IsTurnedDown : Book → Command → Refusal → Type 0
IsTurnedDown book command refusal =
    IsRefused book None command refusal ⊎ ((refusal ≡ NoMemory) × MayLackMemory book None command)

-- the book has paragraphs with these ids
abbrev pub AreThere : Book → List ℕ → Type 0
AreThere book ids = (id : ℕ) → Contains ids id → IsSome (paragraph_of book id)

-- the book has no paragraph with one of these ids
abbrev pub AreNotAllThere : Book → List ℕ → Type 0
AreNotAllThere book ids = (id : ℕ) × Contains ids id × (paragraph_of book id ≡ None)

-- the held paragraph is the only one of the book with this id, and has its print
pub record IsHeldFor (book : Book) (id : ℕ) (held : HeldParagraph) : Type 0 where
  pub found : paragraph_of book id ≡ Some (paragraph_held (id, held))
  pub alone : All (λ paragraph. paragraph.id ≡ id → paragraph ≡ paragraph_held (id, held)) book.paragraphs
  pub print : held.print ≡ print_of (paragraph_held (id, held))

-- the held table is the book's with this name, and has the rules that its text means
pub record IsTableFor (book : Book) (name : List ℕ) (table : BookTable) : Type 0 where
  pub found : text_of book name ≡ Some table.text
  pub means : Means table.text table.rules

-- the held paragraph was just typed: it uses this table, has this print and the cells by this
-- meaning
pub record IsNewParagraph (table print : List ℕ) (meaning : Meaning) (held : HeldParagraph) : Type 0 where
  pub table_is : held.table ≡ table
  pub original : held.original ≡ print
  pub style : held.style ≡ Body
  pub begins_volume : held.begins_volume ≡ false
  pub struck : held.struck ≡ false
  pub print_is : held.print ≡ print
  pub cells : AreCellsOf meaning print held.cells
  pub characters : AreCharacters print
  pub history : held.history ≡ []
  pub unmarked : held.marks ≡ []
