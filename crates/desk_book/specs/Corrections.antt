-- What is said of corrections and undos while they are planned. Only private functions and proofs
-- need these words.
use Rattle.std.specs.Prelude.{◌≡◌, ◌⊎◌, ℕ, ◌<◌, ◌≤◌, true, List, length, Some, None}
use Rattle.louis_table.specs.Meaning.{Meaning}
use Rattle.louis_translate.specs.Position.{AreDefined, IsFirstUndefined}
use Rattle.desk_book.specs.declared.change.Effect.{Effect}
use Rattle.desk_book.specs.declared.change.Effect.TheVariants.{ChangePrint}
use Rattle.desk_memory.specs.declared.paragraphs.PrintChange.{PrintChange}
use Rattle.desk_book.specs.declared.corrections.NewEntry.{NewEntry}
use Rattle.desk_memory.specs.declared.paragraphs.Paragraph.{Paragraph as HeldParagraph}
use Rattle.desk_model.specs.declared.refusal.Limit.TheVariants.{Entries, Version}
use Rattle.desk_model.specs.declared.refusal.Refusal.{Refusal}
use Rattle.desk_model.specs.declared.refusal.Refusal.TheVariants.{Full, NoMemory, NoParagraph, Struck}
use Rattle.desk_model.specs.declared.refusal.Refusal.TheVariants.{TooLong, Undefined}
use Rattle.desk_model.specs.Book.{Book, Paragraph, paragraph_of}
use Rattle.desk_memory.specs.Braille.{AreCellsOf}
use Rattle.desk_model.specs.Limits.{most_entries, most_print, most_version}
use Rattle.desk_memory.specs.Room.{Suffices}

-- the paragraph isn't there, or is struck
abbrev pub IsUnfit : Book → ℕ → Refusal → Type 0
IsUnfit book id refusal =
    ((refusal ≡ NoParagraph) × (paragraph_of book id ≡ None))
    ⊎ ((refusal ≡ Struck)
    × ((paragraph : Paragraph) × (paragraph_of book id ≡ Some paragraph) × (paragraph.struck ≡ true)))

-- the effect brings the entry into the history, and its print is short and defined
pub record IsEntered (book : Book) (id : ℕ) (held : HeldParagraph) (meaning : Meaning) (new : NewEntry)
    (effect : Effect) : Type 0 where
  pub change : PrintChange
  pub effect_is : effect ≡ ChangePrint id change
  pub entry : change.entry ≡ new.entry
  pub room : Suffices (length held.history) change.room
  pub print : change.print ≡ new.print.items
  pub cells : AreCellsOf meaning new.print.items change.cells
  pub start : change.start ≡ new.start
  pub removed : change.removed ≡ new.removed
  pub added : change.added ≡ new.added
  pub short : length new.print.items ≤ most_print
  pub few : length held.history < most_entries
  pub left : book.version < most_version
  pub defined : AreDefined meaning new.print.items

-- a print of so many characters is too long; or it isn't, and the history is full; or it isn't
-- either, and the version is
abbrev pub HaltsEntry : Book → HeldParagraph → ℕ → Refusal → Type 0
HaltsEntry book held count refusal =
    ((refusal ≡ TooLong) × (most_print < count))
    ⊎ (((refusal ≡ Full Entries) × (count ≤ most_print) × (most_entries ≤ length held.history))
    ⊎ ((refusal ≡ Full Version) × (count ≤ most_print) × (length held.history < most_entries)
    × (most_version ≤ book.version)))

-- the history may have an entry more, after which the print has so many characters
pub record TakesEntry (book : Book) (held : HeldParagraph) (count : ℕ) : Type 0 where
  pub short : count ≤ most_print
  pub few : length held.history < most_entries
  pub left : book.version < most_version

-- the table doesn't define the print, or an allocation failed
abbrev pub HaltsPrint : Meaning → List ℕ → Refusal → Type 0
HaltsPrint meaning print refusal =
    ((place : ℕ) × (refusal ≡ Undefined place) × IsFirstUndefined meaning print place) ⊎ (refusal ≡ NoMemory)
