-- When a command is refused, and with which refusal. Only the first that holds is reported.
use Rattle.std.specs.Prelude.{◌≡◌, ◌≢◌, ℕ, ◌⊎◌, ◌<◌, ◌≤◌, true, false, List, ◌∷◌, ◌++◌, length, Option, Some, None}
use Rattle.std.specs.Prelude.{IsSome, IsSomeAnd, option_map, All, Contains, option_and_then}
use Rattle.louis_table.specs.Meaning.{Meaning}
use Rattle.louis_table.specs.Table.{Means, Bad}
use Rattle.louis_translate.specs.Position.{AreDefined, IsFirstUndefined}
use Rattle.desk_model.specs.declared.command.Command.{Command}
use Rattle.desk_model.specs.declared.refusal.Limit.{Limit}
use Rattle.desk_model.specs.declared.refusal.Limit.TheVariants.{Tables, Paragraphs, Entries, Marks, Version}
use Rattle.desk_model.specs.declared.refusal.Refusal.{Refusal}
use Rattle.desk_model.specs.declared.refusal.Refusal.TheVariants.{Moved, BadName, BadReader, BadText, NoParagraph}
use Rattle.desk_model.specs.declared.refusal.Refusal.TheVariants.{NoTable, NoMark, Struck, NotStruck, Resolved}
use Rattle.desk_model.specs.declared.refusal.Refusal.TheVariants.{BadSpan, NothingToUndo, TooLong, Full, BadTable}
use Rattle.desk_model.specs.declared.refusal.Refusal.TheVariants.{Undefined, Untranslatable, NoMemory}
use Rattle.desk_model.specs.Book.{Book, Paragraph, text_of, paragraph_of, mark_of}
use Rattle.desk_model.specs.Print.{newest, print_of}
use Rattle.desk_model.specs.Limits.{most_entries, most_marks, most_note, most_version}
use Rattle.desk_model.specs.Limits.{most_tables, most_paragraphs, most_print}
use Rattle.desk_model.specs.ValidNames.{IsProofreaderName, IsTableName}
use Rattle.desk_model.specs.Named.{Cells, Changed, Characters, Retabled, Span, Translated, Typed, named_by}
use Rattle.desk_model.specs.BookTexts.{IsFirstBarred}
use Rattle.desk_model.specs.Translation.{LacksCells}
use Rattle.desk_model.specs.Ranks.{rank}

-- ---- what makes refusals hold, if that takes more than a line

-- the book has another version than the one expected, and this is the book's
pub record IsMoved (book : Book) (expect : Option ℕ) (version : ℕ) : Type 0 where
  pub expected : ℕ
  pub given : expect ≡ Some expected
  pub other : expected ≢ book.version
  pub reported : version ≡ book.version

-- the book has the paragraph, and its print ends before the characters do, or its braille before
-- the cells do, or no cell is asked for
abbrev pub LacksSpan : Book → Span → Type 0
LacksSpan book (Characters id end) = IsSomeAnd (paragraph_of book id) (λ paragraph. length (print_of paragraph) < end)
LacksSpan book (Cells id cell count) = LacksCells book id cell count

-- the print that the paragraph would have, if that is a new one
abbrev pub print_made : Book → Translated → Option (List ℕ)
print_made book (Typed print table) = Some print
print_made book (Changed id change) = option_and_then change (paragraph_of book id)
print_made book (Retabled id table) = None

-- the print that a paragraph would have by the command, if that changes one
abbrev pub new_print : Book → Command → Option (List ℕ)
new_print book command = option_and_then (print_made book) (named_by command).paragraph_translated

-- there is such a text, of more than so many characters
abbrev pub IsLongerThan : ℕ → Option (List ℕ) → Type 0
IsLongerThan most text = IsSomeAnd text (λ characters. most < length characters)

-- what the command would add to is at its limit: the tables, if the name is new, the paragraphs,
-- the entries of a history, or the marks; or the version is
abbrev pub IsFull : Book → Command → Limit → Type 0
IsFull book command Tables =
    IsSomeAnd (named_by command).table_given
    (λ given. (text_of book given.0 ≡ None) × (most_tables ≤ length book.tables))
IsFull book command Paragraphs = ((named_by command).adds_paragraph ≡ true) × (most_paragraphs ≤ length book.paragraphs)
IsFull book command Entries =
    IsSomeAnd (named_by command).history_grown
    (λ id. IsSomeAnd (paragraph_of book id) (λ paragraph. most_entries ≤ length paragraph.history))
IsFull book command Marks = IsSome (named_by command).note_given × (most_marks ≤ length book.marks)
IsFull book command Version = most_version ≤ book.version

-- the print that the paragraph would have, and the name of the table that it would use
abbrev pub print_and_table : Book → Translated → Option (List ℕ × List ℕ)
print_and_table book (Typed print table) = Some (print, table)
print_and_table book (Changed id change) =
    option_and_then (λ paragraph. option_map (λ print. (print, paragraph.table)) (change paragraph))
    (paragraph_of book id)
print_and_table book (Retabled id table) = option_map (λ paragraph. (print_of paragraph, table)) (paragraph_of book id)

-- the print that a paragraph would have, and the name of the table that it would use, if the
-- command changes one
abbrev pub print_to_translate : Book → Command → Option (List ℕ × List ℕ)
print_to_translate book command = option_and_then (print_and_table book) (named_by command).paragraph_translated

-- the table doesn't define that print, first at this place
pub record IsUndefined (book : Book) (command : Command) (place : ℕ) : Type 0 where
  pub print : List ℕ
  pub name : List ℕ
  pub print_is : print_to_translate book command ≡ Some (print, name)
  pub text : List ℕ
  pub meaning : Meaning
  pub found : text_of book name ≡ Some text
  pub means : Means text meaning
  pub first : IsFirstUndefined meaning print place

-- the table with this name, by this meaning, defines the paragraph's print, if the paragraph uses
-- the table
abbrev pub DefinesUser : Meaning → List ℕ → Paragraph → Type 0
DefinesUser meaning name paragraph = paragraph.table ≡ name → AreDefined meaning (print_of paragraph)

-- the first of these paragraphs that uses the table with this name and whose print isn't defined by
-- this meaning, and the first place of a character that it lacks
pub record IsFirstUser (meaning : Meaning) (name : List ℕ) (paragraphs : List Paragraph) (id place : ℕ) : Type 0 where
  pub before : List Paragraph
  pub paragraph : Paragraph
  pub after : List Paragraph
  pub parts : paragraphs ≡ before ++ paragraph ∷ after
  pub uses : paragraph.table ≡ name
  pub reported : id ≡ paragraph.id
  pub first : IsFirstUndefined meaning (print_of paragraph) place
  pub others : All (DefinesUser meaning name) before

-- By its new text the table doesn't define the print of a paragraph that uses it; a table that
-- isn't there yet is used by none. These are the first such paragraph, and the first place of it.
pub record IsUntranslatable (book : Book) (command : Command) (id place : ℕ) : Type 0 where
  pub name : List ℕ
  pub text : List ℕ
  pub given : (named_by command).table_given ≡ Some (name, text)
  pub meaning : Meaning
  pub means : Means text meaning
  pub user : IsFirstUser meaning name book.paragraphs id place

-- ---- when each holds

-- When each refusal holds of a command.
-- Moved: the book has another version than the one expected, and this is the book's.
-- BadName: the name that it gives a table isn't one that a table may have.
-- BadReader: the name that it gives a proofreader isn't one that a proofreader may have.
-- BadText: the text, as it was given, has a barred character, first at this place.
-- NoParagraph: a paragraph that it speaks of isn't there.
-- NoTable: the table that a paragraph is to use isn't there.
-- NoMark: the mark that it speaks of isn't there.
-- Struck: the paragraph is there and is struck, and must not be.
-- NotStruck: the paragraph is there and isn't struck, and must be.
-- Resolved: the mark is there, and is resolved already.
-- BadSpan: the paragraph is there, but not all the characters or cells that are named, or no cell
-- is asked for. NothingToUndo: the paragraph is there, and no correction of it is in force.
-- TooLong: a text as it is stored, the print that the paragraph would have, or the note is over its
-- limit. Full: what it would add to is at this limit. BadTable: the text of the table is bad, at
-- the line and for the cause that the fault tells. Undefined: the table doesn't define the print
-- that the paragraph would have, first at this place. Untranslatable: by its new text the table
-- doesn't define the print of a paragraph that uses it, of which this is the first, first at this
-- place. NoMemory: never; when it may be answered is said by MayLackMemory.
abbrev pub Holds : Book → Option ℕ → Command → Refusal → Type 0
Holds book expect command (Moved version) = IsMoved book expect version
Holds book expect command BadName = IsSomeAnd (named_by command).table_given (λ given. ¬ IsTableName given.0)
Holds book expect command BadReader = IsSomeAnd (named_by command).proofreader_given (λ name. ¬ IsProofreaderName name)
Holds book expect command (BadText place) = IsSomeAnd (named_by command).text_given (λ text. IsFirstBarred text place)
Holds book expect command NoParagraph =
    (id : ℕ) × Contains (named_by command).paragraphs_named id × (paragraph_of book id ≡ None)
Holds book expect command NoTable = IsSomeAnd (named_by command).table_named (λ name. text_of book name ≡ None)
Holds book expect command NoMark = IsSomeAnd (named_by command).mark_named (λ id. mark_of book id ≡ None)
Holds book expect command Struck =
    IsSomeAnd (named_by command).live_paragraph
    (λ id. IsSomeAnd (paragraph_of book id) (λ paragraph. paragraph.struck ≡ true))
Holds book expect command NotStruck =
    IsSomeAnd (named_by command).struck_paragraph
    (λ id. IsSomeAnd (paragraph_of book id) (λ paragraph. paragraph.struck ≡ false))
Holds book expect command Resolved =
    IsSomeAnd (named_by command).mark_named (λ id. IsSomeAnd (mark_of book id) (λ mark. mark.resolved ≡ true))
Holds book expect command BadSpan = IsSomeAnd (named_by command).span_named (LacksSpan book)
Holds book expect command NothingToUndo =
    IsSomeAnd (named_by command).paragraph_undone
    (λ id. IsSomeAnd (paragraph_of book id) (λ paragraph. newest paragraph.history ≡ None))
Holds book expect command TooLong =
    IsLongerThan most_print (named_by command).text_stored
    ⊎ (IsLongerThan most_print (new_print book command) ⊎ IsLongerThan most_note (named_by command).note_given)
Holds book expect command (Full limit) = IsFull book command limit
Holds book expect command (BadTable fault) =
    IsSomeAnd (named_by command).table_given (λ given. Bad given.1 fault.line fault.cause)
Holds book expect command (Undefined place) = IsUndefined book command place
Holds book expect command (Untranslatable id place) = IsUntranslatable book command id place
Holds book expect command NoMemory = ⊥

-- ---- which is reported

-- the refusal is the first that holds
pub record IsRefused (book : Book) (expect : Option ℕ) (command : Command) (refusal : Refusal) : Type 0 where
  pub holds : Holds book expect command refusal
  pub first : (other : Refusal) → Holds book expect command other → rank refusal ≤ rank other

-- no refusal holds
abbrev pub IsAccepted : Book → Option ℕ → Command → Type 0
IsAccepted book expect command = (refusal : Refusal) → ¬ Holds book expect command refusal
