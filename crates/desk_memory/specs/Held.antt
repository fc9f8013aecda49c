-- How a book is held in memory: its tables with their rules, its paragraphs with their prints and
-- cells, and its marks.
use Rattle.std.specs.Prelude.{◌≡◌, ℕ, ◌-◌, ◌≤◌, length, drop, nat_eq, not, ◌==◌, if◌then◌else◌, List, [], ◌∷◌, ◌++◌}
use Rattle.std.specs.Prelude.{map, slice_get, Option, Some, option_to_list, option_map, chars, String, string_bytes}
use Rattle.std.specs.List.{All, enumerate_from, filter, find, flat_map, fold}
use Rattle.std.specs.Option.{option_and_then, option_map_or}
use Rattle.std.specs.Map.{lookup}
use Rattle.std.specs.Ordering.{nat_cmp}
use Rattle.std.specs.Cmp.Lexicographic.{pointwise, slice_cmp}
use Rattle.std.specs.FinMap.Entries.{put}
use Rattle.louis_table.specs.Table.{Means}
use Rattle.louis_translate.specs.declared.choices.Choice.{Choice}
use Rattle.louis_translate.specs.Tiling.{Tiles}
use Rattle.louis_translate.specs.Braille.{braille}
use Rattle.desk_model.specs.declared.command.Anchor.{Anchor}
use Rattle.desk_model.specs.declared.command.Anchor.TheVariants.{Front, End, Para}
use Rattle.desk_memory.specs.declared.tables.BookTable.{BookTable}
use Rattle.desk_memory.specs.declared.marks.HeldMark.{HeldMark}
use Rattle.desk_memory.specs.declared.paragraphs.Paragraph.{Paragraph as HeldParagraph}
use Rattle.desk_model.specs.Book.{Book, Mark, Paragraph}
use Rattle.desk_memory.specs.Histories.{HaveTaken, entries_held}
use Rattle.desk_memory.specs.HeldMarks.{indexes_on}
use Rattle.desk_model.specs.Limits.{most_paragraphs}
use Rattle.desk_model.specs.Print.{print_of}
use Rattle.desk_model.specs.Sound.{IsSound}
use Rattle.desk_model.specs.NextBook.{is_after}

-- tables by name, in the order of the names
abbrev pub HeldTables : Type 0
HeldTables = List (List ℕ × BookTable)

-- paragraphs with their ids, in the order of the book
abbrev pub HeldParagraphs : Type 0
HeldParagraphs = List (ℕ × HeldParagraph)

-- the tables with this one under its name
abbrev pub with_table : List ℕ → BookTable → HeldTables → HeldTables
with_table = put (slice_cmp nat_cmp)

-- entries in any order, by their names
abbrev pub by_name : {Z : Type 0} → List (String Z × BookTable) → HeldTables
by_name entries = fold (λ sorted entry. with_table (chars (string_bytes entry.0)) entry.1 sorted) [] entries

-- the ids in the order of the book
abbrev pub ids : HeldParagraphs → List ℕ
ids held = map (λ entry. entry.0) held

-- the paragraph with an id, from 1, of a list in the order of ids, beside that id
abbrev pub paragraph_with_id : List HeldParagraph → ℕ → HeldParagraphs
paragraph_with_id items id = option_to_list (option_map (λ held. (id, held)) (slice_get items (id - 1)))

-- these paragraphs in the order of their ids here
abbrev pub in_order_of : List ℕ → HeldParagraphs → HeldParagraphs
in_order_of order held =
    flat_map (λ id. option_to_list (option_map (λ paragraph. (id, paragraph)) (lookup (nat_eq id) held))) order

-- the order with one id more, put where the command says
abbrev pub with_id : Anchor → ℕ → List ℕ → List ℕ
with_id Front new order = new ∷ order
with_id End new order = order ++ new ∷ []
with_id (Para id) new order = flat_map (λ other. if other == id then other ∷ new ∷ [] else other ∷ []) order

-- the order with one id taken out and put elsewhere; after itself it stays
abbrev pub with_id_moved : Anchor → ℕ → List ℕ → List ℕ
with_id_moved anchor id order =
    if is_after id anchor then order else with_id anchor id (filter (λ other. not (other == id)) order)

-- the paragraph's new cells, if it has any: by its id, from 1
abbrev pub new_cells : List (Option (List ℕ)) → ℕ → Option (List ℕ)
new_cells cells id = option_and_then (λ found. found) (slice_get cells (id - 1))

-- the paragraph with its new cells, if it has any
abbrev pub with_new_cells : List (Option (List ℕ)) → ℕ × HeldParagraph → ℕ × HeldParagraph
with_new_cells cells (id, held) = (id, option_map_or (λ new. record held { cells = new }) (new_cells cells id) held)

-- the held paragraph with these cells, if there are any
abbrev pub with_cells : Option (List ℕ) → HeldParagraph → HeldParagraph
with_cells new held = option_map_or (λ cells. record held { cells = cells }) new held

-- the held paragraphs in the order of their ids, each with its new cells, if it has any
abbrev pub renewed_items : List (Option (List ℕ)) → List HeldParagraph → List HeldParagraph
renewed_items cells [] = []
renewed_items [] (held ∷ items) = held ∷ items
renewed_items (new ∷ cells) (held ∷ items) = with_cells new held ∷ renewed_items cells items

-- the paragraphs with a change of the one with this id
abbrev pub with_held_change : ℕ → (HeldParagraph → HeldParagraph) → HeldParagraphs → HeldParagraphs
with_held_change id change held = map (λ entry. if entry.0 == id then (entry.0, change entry.1) else entry) held

-- what a held paragraph stands for
abbrev pub paragraph_held : ℕ × HeldParagraph → Paragraph
paragraph_held (id, held) = record {
  id = id;
  table = held.table;
  original = held.original;
  history = entries_held held.history;
  style = held.style;
  begins_volume = held.begins_volume;
  struck = held.struck;
}

-- what held paragraphs from a place on stand for
abbrev pub paragraphs_from : ℕ → HeldParagraphs → List Paragraph
paragraphs_from place held = map paragraph_held (drop place held)

-- there are no more than a book may have, and each has its print
abbrev pub HavePrints : HeldParagraphs → Type 0
HavePrints held = (length held ≤ most_paragraphs) × All (λ entry. entry.1.print ≡ print_of (paragraph_held entry)) held

-- paragraphs in the order of their ids here
abbrev pub in_order : List ℕ → List Paragraph → List Paragraph
in_order order paragraphs =
    flat_map (λ id. option_to_list (find (λ paragraph. nat_eq paragraph.id id) paragraphs)) order

-- what a held mark stands for, with its id
abbrev pub mark_held : ℕ × HeldMark → Mark
mark_held (id, held) = record {
  id = id;
  paragraph = held.paragraph;
  start = held.start;
  end = held.end;
  note = held.note;
  touched = held.touched;
  resolved = held.resolved;
}

-- what marks in the order of their ids stand for
abbrev pub marks_held : List HeldMark → List Mark
marks_held marks = map mark_held (enumerate_from 1 marks)

-- what held tables, paragraphs and marks stand for
abbrev pub book_held : ℕ → HeldTables → HeldParagraphs → List HeldMark → Book
book_held version tables paragraphs marks = record {
  version = version;
  tables = map (λ entry. (entry.0, entry.1.text)) tables;
  paragraphs = map paragraph_held paragraphs;
  marks = marks_held marks;
}

-- the held paragraph has its print, the cells of that print's braille by the rules of its table,
-- and what each of its corrections took away
pub record IsHeldParagraph (tables : HeldTables) (entry : ℕ × HeldParagraph) : Type 0 where
  pub print : entry.1.print ≡ print_of (paragraph_held entry)
  pub table : BookTable
  pub found : lookup (pointwise nat_eq entry.1.table) tables ≡ Some table
  pub choices : List Choice
  pub tiles : Tiles table.rules entry.1.print choices
  pub cells : entry.1.cells ≡ braille table.rules entry.1.print choices
  pub taken : HaveTaken entry.1.original entry.1.history

-- the held paragraph has the indexes of its marks
abbrev pub HasMarks : List HeldMark → ℕ × HeldParagraph → Type 0
HasMarks marks entry = entry.1.marks ≡ indexes_on entry.0 marks

-- what is true of a book as it is held: it stands for a sound book, each table has the rules that
-- its text means, and each paragraph has its print, its braille, for each of its corrections the
-- characters that gave way to it, and the indexes of its marks, which are their ids less one
pub record IsHeld (version : ℕ) (tables : HeldTables) (paragraphs : HeldParagraphs)
    (marks : List HeldMark) : Type 0 where
  pub sound : IsSound (book_held version tables paragraphs marks)
  pub means : All (λ entry. Means entry.1.text entry.1.rules) tables
  pub translated : All (IsHeldParagraph tables) paragraphs
  pub marked : All (HasMarks marks) paragraphs
