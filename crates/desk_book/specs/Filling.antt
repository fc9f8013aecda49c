-- What is left of what a book puts into new tables of its file.
use Rattle.std.specs.Prelude.{ℕ, List, [], ◌∷◌, ◌++◌, map, drop}
use Rattle.std.specs.List.{enumerate_from, flat_map}
use Rattle.desk_memory.specs.declared.history.HeldEntry.{HeldEntry}
use Rattle.desk_memory.specs.declared.paragraphs.Paragraph.{Paragraph as HeldParagraph}
use Rattle.desk_book.specs.ChangePuts.{cache_put, entry_row}
use Rattle.desk_memory.specs.Held.{HeldParagraphs}
use Rattle.desk_parts.specs.declared.file_table.FileTable.TheVariants.{NamedCorr}
use Rattle.desk_parts.specs.Puts.{PutRow, RowPut}

-- the entry with this number in the history of the paragraph with this id
abbrev pub entry_put : ℕ → ℕ × HeldEntry → RowPut
entry_put id (seq, entry) = PutRow NamedCorr (entry_row id seq entry)

-- the entries of the history of the paragraph with this id from an index on, with their numbers
-- from 1
abbrev pub entry_puts_from : (id index : ℕ) → List HeldEntry → List RowPut
entry_puts_from id index entries = map (entry_put id) (drop index (enumerate_from 1 entries))

-- the entries of a paragraph's history
abbrev pub history_puts : ℕ × HeldParagraph → List RowPut
history_puts (id, held) = entry_puts_from id 0 held.history

-- the entries of the paragraphs from a place on
abbrev pub histories_from : ℕ → HeldParagraphs → List RowPut
histories_from place held = flat_map history_puts (drop place held)

-- the entries of the first paragraph from an index on, and all of those after it
abbrev pub entries_after : ℕ → HeldParagraphs → List RowPut
entries_after at [] = []
entries_after at ((id, held) ∷ more) = entry_puts_from id at held.history ++ flat_map history_puts more

-- the entries of the paragraphs from a place on, without so many of the first of them
abbrev pub entries_left : (place at : ℕ) → HeldParagraphs → List RowPut
entries_left place at held = entries_after at (drop place held)

-- the braille of a paragraph
abbrev pub braille_put : ℕ × HeldParagraph → RowPut
braille_put (id, held) = cache_put id held.cells

-- the braille of the paragraphs from a place on
abbrev pub braille_from : ℕ → HeldParagraphs → List RowPut
braille_from place held = map braille_put (drop place held)
