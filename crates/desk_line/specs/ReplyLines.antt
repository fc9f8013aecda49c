-- What is replied to a request.
use Rattle.std.specs.Prelude.{◌≡◌, ◌⊎◌, ℕ, Bool, true, false, List, [], ◌∷◌, ◌++◌, length, map}
use Rattle.std.specs.Prelude.{codes, decimal, option_to_list, Option, Some, None}
use Rattle.std.specs.List.{All, flat_map, enumerate_from}
use Rattle.std.specs.Str.{encode_utf8_all}
use Rattle.louis_table.specs.Lines.{pieces_of}
use Rattle.desk_ends.specs.Cells.{text_of}
use Rattle.desk_ends.specs.declared.ends.Sink.{Ghosts}
use Rattle.desk_ends.specs.Sending.{Puts, Transmits}
use Rattle.desk_model.specs.declared.refusal.Refusal.{Refusal}
use Rattle.desk_model.specs.declared.refusal.Refusal.TheVariants as refusals
use Rattle.desk_model.specs.declared.style.Style.{Style}
use Rattle.desk_model.specs.declared.style.Style.TheVariants.{Body, Heading}
use Rattle.desk_model.specs.Book.{Book, Paragraph, Entry, Corrects, Undoes, Mark, Replacement, paragraph_of}
use Rattle.desk_model.specs.ParagraphMarks.{marks_on}
use Rattle.desk_model.specs.Print.{print_of}
use Rattle.desk_model.specs.Codes.{code_of, limit_number}
use Rattle.desk_model.specs.Translation.{IsBraille, IsOutputPlace, IsPrintPlace, LacksPlace, LacksCell}
use Rattle.desk_line.specs.declared.answer.Answer.{Answer}
use Rattle.desk_line.specs.declared.answer.Answer.TheVariants.{Done, Refused, Asked, Syntax, NoMemory, Lost}
use Rattle.desk_line.specs.declared.request.Query.{Query}
use Rattle.desk_line.specs.declared.request.Query.TheVariants.{Print, Braille, History, Marks, WhereIs, Whence, Version}
use Rattle.desk_line.specs.declared.request.Query.TheVariants as queries
use Rattle.desk_line.specs.Fields.{line_of_fields}

-- ---- lines

-- a line: its fields with one blank between them, and a line feed
abbrev pub line_of : List (List ℕ) → List ℕ
line_of fields = line_of_fields fields ++ 10 ∷ []

-- a word, and numbers after it
abbrev pub word_and : List ℕ → List ℕ → List ℕ
word_and word numbers = line_of (word ∷ map decimal numbers)

-- ---- refusals

-- the numbers of a refusal after its code
abbrev pub details : Refusal → List ℕ
details (refusals.Moved version) = version ∷ []
details (refusals.BadText place) = place ∷ []
details (refusals.Undefined place) = place ∷ []
details (refusals.BadTable fault) = fault.line ∷ fault.cause ∷ []
details (refusals.Untranslatable id place) = id ∷ place ∷ []
details (refusals.Full limit) = limit_number limit ∷ []
details refusals.BadName = []
details refusals.BadReader = []
details refusals.NoParagraph = []
details refusals.NoTable = []
details refusals.NoMark = []
details refusals.Struck = []
details refusals.NotStruck = []
details refusals.Resolved = []
details refusals.BadSpan = []
details refusals.NothingToUndo = []
details refusals.TooLong = []
details refusals.NoMemory = []

-- the line that reports a refusal
abbrev pub refusal_line : Refusal → List ℕ
refusal_line refusal = word_and (codes "no") (code_of refusal ∷ details refusal)

-- ---- what a query shows

-- a text in UTF-8
abbrev pub shown_text : List ℕ → List ℕ
shown_text = encode_utf8_all

-- a style, in a request as in a reply
abbrev pub style_word : Style → List ℕ
style_word Body = codes "body"
style_word Heading = codes "heading"

-- the first word if the flag is set, and the other if not
abbrev pub word_if : Bool → List ℕ → List ℕ → List ℕ
word_if true word other = word
word_if false word other = other

-- a paragraph in the list of a book
abbrev pub list_line : Paragraph → List ℕ
list_line paragraph = line_of_fields (decimal paragraph.id ∷ shown_text paragraph.table ∷ style_word paragraph.style
    ∷ word_if paragraph.begins_volume (codes "volume") (codes "-")
    ∷ word_if paragraph.struck (codes "struck") (codes "live")
    ∷ decimal (length (print_of paragraph)) ∷ [])

-- a correction, with the name of its proofreader if somebody is named
abbrev pub correction_line : ℕ → Replacement → List ℕ → List ℕ
correction_line number r [] =
    line_of_fields (decimal number ∷ codes "correct" ∷ decimal r.start ∷ decimal r.count ∷ shown_text r.text ∷ [])
correction_line number r (c ∷ who) =
    line_of_fields
    (decimal number ∷ codes "correct-by" ∷ shown_text (c ∷ who) ∷ decimal r.start ∷ decimal r.count
    ∷ shown_text r.text ∷ [])

-- an entry of a history, with its number
abbrev pub entry_line : ℕ × Entry → List ℕ
entry_line (number, Corrects r who) = correction_line number r who
entry_line (number, Undoes undone) = line_of_fields (decimal number ∷ codes "undo" ∷ decimal undone ∷ [])

-- a mark of a paragraph
abbrev pub mark_line : Mark → List ℕ
mark_line mark = line_of_fields (decimal mark.id ∷ decimal mark.start ∷ decimal mark.end
    ∷ word_if mark.resolved (codes "resolved") (codes "open") ∷ word_if mark.touched (codes "touched") (codes "kept")
    ∷ shown_text mark.note ∷ [])

-- the lines that the book shows for the query
pub data ShowsLines (book : Book) (query : Query) (lines : List (List ℕ)) : Type 0 where
  print : (id : ℕ) (paragraph : Paragraph) → query ≡ Print id → paragraph_of book id ≡ Some paragraph
      → lines ≡ shown_text (print_of paragraph) ∷ [] → ShowsLines book query lines
  braille : (id : ℕ) (paragraph : Paragraph) (cells : List ℕ) → query ≡ Braille id
      → paragraph_of book id ≡ Some paragraph
      → IsBraille book paragraph cells → lines ≡ text_of cells ∷ [] → ShowsLines book query lines
  history : (id : ℕ) (paragraph : Paragraph) → query ≡ History id → paragraph_of book id ≡ Some paragraph
      → lines ≡ map entry_line (enumerate_from 1 paragraph.history) → ShowsLines book query lines
  marks : (id : ℕ) (paragraph : Paragraph) → query ≡ Marks id → paragraph_of book id ≡ Some paragraph
      → lines ≡ map mark_line (marks_on id book.marks) → ShowsLines book query lines
  where_is : (id place cell : ℕ) (paragraph : Paragraph) → query ≡ WhereIs id place
      → paragraph_of book id ≡ Some paragraph
      → IsOutputPlace book paragraph place cell → lines ≡ decimal cell ∷ [] → ShowsLines book query lines
  whence : (id cell place : ℕ) (paragraph : Paragraph) → query ≡ Whence id cell → paragraph_of book id ≡ Some paragraph
      → IsPrintPlace book paragraph cell place → lines ≡ decimal place ∷ [] → ShowsLines book query lines
  list : query ≡ queries.List → lines ≡ map list_line book.paragraphs → ShowsLines book query lines
  version : query ≡ Version → lines ≡ [] → ShowsLines book query lines

-- the paragraph that a query names, if it names one
abbrev pub paragraph_asked : Query → Option ℕ
paragraph_asked (Print id) = Some id
paragraph_asked (Braille id) = Some id
paragraph_asked (History id) = Some id
paragraph_asked (Marks id) = Some id
paragraph_asked (WhereIs id place) = Some id
paragraph_asked (Whence id cell) = Some id
paragraph_asked queries.List = None
paragraph_asked Version = None

-- the book refuses the query
pub data Refuses (book : Book) (query : Query) (refusal : Refusal) : Type 0 where
  no_paragraph : (id : ℕ) → paragraph_asked query ≡ Some id → paragraph_of book id ≡ None
      → refusal ≡ refusals.NoParagraph → Refuses book query refusal
  no_place : (id place : ℕ) → query ≡ WhereIs id place → LacksPlace book id place
      → refusal ≡ refusals.BadSpan → Refuses book query refusal
  no_cell : (id cell : ℕ) → query ≡ Whence id cell → LacksCell book id cell
      → refusal ≡ refusals.BadSpan → Refuses book query refusal

-- a line that a query shows, after a bar and a blank
abbrev pub shown_line : List ℕ → List ℕ
shown_line line = line_of (codes "|" ∷ line ∷ [])

-- ---- the reply

-- the reply to a query: its lines and the book's version, or the refusal
pub data RepliesToQuery (book : Book) (query : Query) (text : List ℕ) : Type 0 where
  shown : (lines : List (List ℕ)) → ShowsLines book query lines
      → text ≡ flat_map shown_line lines ++ word_and (codes "end") (book.version ∷ []) → RepliesToQuery book query text
  refused : (refusal : Refusal) → Refuses book query refusal → text ≡ refusal_line refusal
      → RepliesToQuery book query text

-- the reply to a request by its answer, on the book as it is then
abbrev pub IsReply : Book → Answer → List ℕ → Type 0
IsReply book (Done number) text = text ≡ word_and (codes "ok") (book.version ∷ option_to_list number)
IsReply book (Refused refusal) text = text ≡ refusal_line refusal
IsReply book (Asked query) text = RepliesToQuery book query text
IsReply book Syntax text = text ≡ word_and (codes "no") (1 ∷ [])
IsReply book NoMemory text = text ≡ word_and (codes "no") (90 ∷ [])
IsReply book Lost text = text ≡ word_and (codes "no") (91 ∷ [])

-- ---- the lines of a reply

-- the line begins with these bytes
abbrev pub BeginsWith : List ℕ → List ℕ → Type 0
BeginsWith front line = (rest : List ℕ) × (line ≡ front ++ rest)

-- each line of the text but the last begins with a bar and a blank, and the last with one of these
-- words
pub record EndsAfterBars (text : List ℕ) : Type 0 where
  pub others : List (List ℕ)
  pub last : List ℕ
  pub lines : pieces_of text ≡ others ++ last ∷ []
  pub bars : All (BeginsWith (codes "| ")) others
  pub word : BeginsWith (codes "end ") last ⊎ BeginsWith (codes "no ") last

-- ---- what is sent

-- the lines that a query shows went to the sink so, after what was held back before
abbrev pub PutsShown : {K : Type 0} → Ghosts K → K → K → (was held : List ℕ) → Book → Query → Bool → Type 0
PutsShown sink old new was held book query whole =
    (lines : List (List ℕ)) × ShowsLines book query lines
    × Puts sink old new (was ++ flat_map shown_line lines) held whole

-- the same of the reply to a query
abbrev pub PutsQueryReply : {K : Type 0} → Ghosts K → K → K → (was held : List ℕ) → Book → Query → Bool → Type 0
PutsQueryReply sink old new was held book query whole =
    (text : List ℕ) × RepliesToQuery book query text × Puts sink old new (was ++ text) held whole

-- and of the reply to a request
abbrev pub PutsReply : {K : Type 0} → Ghosts K → K → K → (was held : List ℕ) → Book → Answer → Bool → Type 0
PutsReply sink old new was held book answer whole =
    (text : List ℕ) × IsReply book answer text × Puts sink old new (was ++ text) held whole

-- what went out is a beginning of a reply to the request, and all of it if that succeeded, as it
-- does unless the end can fail
pub record IsReplied (CanFail : Type 0) (old new : Option (List ℕ)) (book : Book) (answer : Answer)
    (whole : Bool) : Type 0 where
  pub text : List ℕ
  pub is : IsReply book answer text
  pub sent : Transmits CanFail old new text [] whole
