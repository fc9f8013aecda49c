-- What a change does, and what it has in it, so that nothing is left to be asked for when it is
-- applied to its book.
use Rattle.std.specs.Coded.{Coded, code_by, coded×, coded_option, coded_ℕ}
use Rattle.std.specs.Prelude.{refl, ◌≡◌, ◌≢◌, ℕ, ◌+◌, ◌<◌, ◌≤◌, List, [], ◌∷◌, ◌++◌, length}
use Rattle.std.specs.Prelude.{map, Option, Some, None, IsSome, MatchOption}
use Rattle.std.specs.List.{All, insert}
use Rattle.std.specs.List.Sorted.{IsPermutation}
use Rattle.louis_table.specs.Meaning.{Meaning}
use Rattle.louis_table.specs.Table.{Means}
use Rattle.desk_book.specs.declared.change.Effect.{Effect}
use Rattle.desk_book.specs.declared.change.Effect.TheVariants.{AddTable, ReplaceTable, AddParagraph, ChangePrint}
use Rattle.desk_book.specs.declared.change.Effect.TheVariants.{AddMark, ResolveMark, SetFlags, ChangeTable, Reorder}
use Rattle.desk_memory.specs.declared.marks.HeldMark.{HeldMark}
use Rattle.desk_memory.specs.declared.paragraphs.PrintChange.{PrintChange}
use Rattle.desk_model.specs.declared.command.Anchor.{Anchor}
use Rattle.desk_model.specs.declared.command.Command.{Command}
use Rattle.desk_model.specs.declared.command.Command.TheVariants.{TypeIn}
use Rattle.desk_memory.specs.declared.paragraphs.Paragraph.{Paragraph as HeldParagraph}
use Rattle.desk_model.specs.Book.{Book, Paragraph, text_of, paragraph_of}
use Rattle.desk_book.specs.ChangePuts.{effect_puts, version_put}
use Rattle.desk_model.specs.Loans.{GetsEntry, GetsFlags, GetsResolved, GetsTable, Reorders}
use Rattle.desk_memory.specs.Histories.{HaveTaken, TookFrom, entry_held}
use Rattle.desk_memory.specs.Held.{HeldParagraphs, HeldTables, IsHeld, book_held, mark_held, new_cells, paragraph_held}
use Rattle.desk_model.specs.Limits.{most_entries, most_marks, most_paragraphs, most_print}
use Rattle.desk_model.specs.Marks.{mark_moved_by}
use Rattle.desk_model.specs.ParagraphMarks.{marks_on}
use Rattle.desk_parts.specs.Puts.{RowPut}
use Rattle.desk_model.specs.Print.{print_of, with_entry}
use Rattle.desk_model.specs.Named.{HasCharacters, named_by, number_of}
use Rattle.desk_model.specs.Refusals.{IsAccepted}
use Rattle.desk_memory.specs.Room.{Suffices}
use Rattle.desk_model.specs.NextBook.{Makes, new_paragraph, next_id, next_mark, next_with_entry, next_with_marks}
use Rattle.desk_model.specs.NextBook.{next_with_paragraphs, next_with_table, with_change, with_resolved}
use Rattle.desk_model.specs.BookTexts.{normal_form}
use Rattle.desk_memory.specs.Braille.{AreCellsOf}

-- each paragraph that uses the table has new cells by the meaning, and no other has any
abbrev pub AreRenewed : Book → List ℕ → Meaning → List (Option (List ℕ)) → Type 0
AreRenewed book name meaning cells =
    All (λ paragraph. MatchOption (new_cells cells paragraph.id)
    (paragraph.table ≢ name)
    (λ new. (paragraph.table ≡ name) × AreCellsOf meaning (print_of paragraph) new)) book.paragraphs

-- a paragraph as it is held when it was just typed
pub record IsHeldTyped (book : Book) (table text : List ℕ) (held : HeldParagraph) : Type 0 where
  pub held_is : paragraph_held (next_id book, held) ≡ new_paragraph (next_id book) table text
  pub print : held.print ≡ normal_form text
  pub source : List ℕ
  pub meaning : Meaning
  pub found : text_of book table ≡ Some source
  pub means : Means source meaning
  pub cells : AreCellsOf meaning held.print held.cells
  pub taken : HaveTaken held.original held.history
  pub unmarked : held.marks ≡ []

-- the cells are those of the paragraph's print by the table with this name
pub record AreCellsByTable (book : Book) (id : ℕ) (table cells : List ℕ) : Type 0 where
  pub paragraph : Paragraph
  pub there : paragraph_of book id ≡ Some paragraph
  pub source : List ℕ
  pub meaning : Meaning
  pub found : text_of book table ≡ Some source
  pub means : Means source meaning
  pub cells_are : AreCellsOf meaning (print_of paragraph) cells

-- the change gives the paragraph with this id one entry more and the print and cells that follow
-- from it, and moves its marks
pub record ChangesPrint (book next : Book) (id : ℕ) (change : PrintChange) : Type 0 where
  pub next_is : next
      ≡ next_with_entry book id (entry_held change.entry) (mark_moved_by change.start change.removed change.added)
  pub paragraph : Paragraph
  pub there : paragraph_of book id ≡ Some paragraph
  pub room : Suffices (length paragraph.history) change.room
  pub few : length paragraph.history < most_entries
  pub print : change.print ≡ print_of (with_entry (entry_held change.entry) paragraph)
  pub source : List ℕ
  pub meaning : Meaning
  pub found : text_of book paragraph.table ≡ Some source
  pub means : Means source meaning
  pub cells : AreCellsOf meaning change.print change.cells
  pub taken : TookFrom (print_of paragraph) change.entry
  pub within : change.start + change.removed ≤ most_print
  pub short : change.added ≤ most_print

-- the change adds a paragraph that was just typed by the command, with room for it and for its id,
-- at its place in the order
pub record AddsParagraph (book next : Book) (command : Command) (held : HeldParagraph) (room order_room : Option ℕ)
    (place : ℕ) : Type 0 where
  pub anchor : Anchor
  pub text : List ℕ
  pub command_is : command ≡ TypeIn anchor held.table text
  pub typed_is : IsHeldTyped book held.table text held
  pub few : length book.paragraphs < most_paragraphs
  pub room_is : Suffices (length book.paragraphs) room
  pub order_room_is : Suffices (length book.paragraphs) order_room
  pub within : place ≤ length book.paragraphs
  pub order : insert (map (λ other. other.id) book.paragraphs) place (next_id book)
      ≡ map (λ other. other.id) next.paragraphs

-- the command gives the table with this name this text, and changes nothing else
abbrev pub GivesText : Book → Command → Book → (name text : List ℕ) → Type 0
GivesText book command next name text =
    ((named_by command).table_given ≡ Some (name, text)) × (next ≡ next_with_table book name text)

-- the command gives the paragraph with this id the table with this name, and changes nothing else
abbrev pub GivesTable : Book → Command → Book → ℕ → List ℕ → Type 0
GivesTable book command next id table =
    GetsTable command id table
    × (next ≡ next_with_paragraphs book (with_change id (λ p. record p { table = table }) book.paragraphs))

-- the command puts a paragraph elsewhere: the next book has the same paragraphs, and changes in
-- nothing but their order
abbrev pub MovesParagraph : Book → Command → Book → Type 0
MovesParagraph book command next =
    Reorders command × IsPermutation book.paragraphs next.paragraphs
    × (next ≡ next_with_paragraphs book next.paragraphs)

-- the effect makes the next book by the command, with room for all that it adds
abbrev pub Does : Book → Command → Book → Effect → Type 0
Does book command next (AddTable name table room) =
    GivesText book command next name table.text × (text_of book name ≡ None) × (length book.tables < room)
    × Means table.text table.rules
Does book command next (ReplaceTable name table cells) =
    GivesText book command next name table.text × IsSome (text_of book name) × Means table.text table.rules
    × AreRenewed book name table.rules cells.items × (length cells.items ≤ length book.paragraphs)
Does book command next (AddParagraph paragraph room order_room place) =
    AddsParagraph book next command paragraph room order_room place
Does book command next (ChangePrint id change) = GetsEntry command id × ChangesPrint book next id change
Does book command next (AddMark mark room index_room) =
    (next ≡ next_with_marks book (book.marks ++ mark_held (next_mark book, mark) ∷ []))
    × Suffices (length book.marks) room
    × (length book.marks < most_marks) × Suffices (length (marks_on mark.paragraph book.marks)) index_room
Does book command next (ResolveMark id) =
    GetsResolved command id × (next ≡ next_with_marks book (with_resolved id book.marks))
Does book command next (SetFlags id style begins struck) =
    GetsFlags command id
    × (next ≡ next_with_paragraphs book
    (with_change id (λ p. record p { style = style; begins_volume = begins; struck = struck }) book.paragraphs))
Does book command next (ChangeTable id table cells) =
    GivesTable book command next id table × AreCellsByTable book id table cells
Does book command next (Reorder order) =
    MovesParagraph book command next × (order ≡ map (λ other. other.id) next.paragraphs)

-- some accepted command makes the next book of this one, at the version given, by the effect
pub record IsEffect (book : Book) (version : ℕ) (effect : Effect) (next : Book) : Type 0 where
  pub command : Command
  pub accepted : IsAccepted book None command
  pub written : HasCharacters command
  pub makes : Makes book command next
  pub at : version ≡ next.version
  pub does : Does book command next effect

-- the effect is one on the book that these held parts stand for
abbrev pub IsEffectOn : (was : ℕ) → HeldTables → HeldParagraphs → List HeldMark → (at : ℕ) → Effect → Book → Type 0
IsEffectOn was tables paragraphs marks at effect next =
    IsHeld was tables paragraphs marks × IsEffect (book_held was tables paragraphs marks) at effect next

-- a change as its callers see it: the version that it gives its book, and the number that the
-- command answers. What it does is named here alone, so that nothing that is said of a change
-- depends on it
pub record Change : Type 0 where
  pub version : ℕ
  pub number : Option ℕ
  effect : Effect

-- a change is stored as the tuple of its parts
abbrev pub change_code : Coded Effect → Coded Change
change_code effects =
    code_by (ℕ × (Option ℕ × Effect)) (coded× coded_ℕ (coded× (coded_option coded_ℕ) effects))
    (λ c. (c.version, (c.number, c.effect)))
    (λ p. record { version = p.0; number = p.1.0; effect = p.1.1 })
    (λ _. refl)

-- the change that does this
pub change_by : (version : ℕ) (number : Option ℕ) → Effect → Change
change_by version number effect = record { version = version; number = number; effect = effect }

-- the change made by these has this number
pub number-change_by : (version : ℕ) (number : Option ℕ) (effect : Effect)
    → (change_by version number effect).number ≡ number
unfolding change_by
number-change_by version number effect = refl

-- the change makes the next book of this one by the command, which is accepted and whose texts are
-- characters, and has the room for all that it adds
pub record Carries (book : Book) (command : Command) (next : Book) (change : Change) : Type 0 where
  pub accepted : IsAccepted book None command
  pub written : HasCharacters command
  pub makes : Makes book command next
  pub version : change.version ≡ next.version
  pub number : change.number ≡ number_of book command
  does : Does book command next change.effect

-- a change made by these carries what they are said to do
pub Carries-change_by : (book : Book) (command : Command) (next : Book)
    → (version : ℕ) (number : Option ℕ) (effect : Effect)
    → IsAccepted book None command → HasCharacters command → Makes book command next
    → version ≡ next.version → number ≡ number_of book command → Does book command next effect
    → Carries book command next (change_by version number effect)
unfolding change_by
Carries-change_by book command next version number effect accepted written makes at answers does = record {
  accepted = accepted;
  written = written;
  makes = makes;
  version = at;
  number = answers;
  does = does;
}

-- what a change carries is made by its effect
pub IsEffect-change_by : (book : Book) (command : Command) (next : Book)
    → (version : ℕ) (number : Option ℕ) (effect : Effect)
    → Carries book command next (change_by version number effect) → IsEffect book version effect next
unfolding change_by
IsEffect-change_by book command next version number effect carries = record {
  command = command;
  accepted = carries.accepted;
  written = carries.written;
  makes = carries.makes;
  at = carries.version;
  does = carries.does;
}

-- and is what its command does
pub Does-change_by : (book : Book) (command : Command) (next : Book)
    → (version : ℕ) (number : Option ℕ) (effect : Effect)
    → Carries book command next (change_by version number effect) → Does book command next effect
unfolding change_by
Does-change_by book command next version number effect carries = carries.does

-- what the change puts into the rows of its book's file, in order: the version, and what its effect
-- puts
pub change_puts : Book → Change → List RowPut
change_puts book change = version_put change.version ∷ effect_puts book change.effect

-- a change made by these puts its version, and what its effect puts
pub puts-change_by : (book : Book) (version : ℕ) (number : Option ℕ) (effect : Effect)
    → change_puts book (change_by version number effect) ≡ version_put version ∷ effect_puts book effect
unfolding change_by change_puts
puts-change_by book version number effect = refl

-- each change has an effect
pub has-effect : (change : Change) → (effect : Effect) × (change_by change.version change.number effect ≡ change)
unfolding change_by
has-effect change = (change.effect, refl)
