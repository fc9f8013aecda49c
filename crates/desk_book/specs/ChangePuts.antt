-- What a change puts into the rows of its book's file.
use Rattle.std.specs.Prelude.{ℕ, ◌+◌, ◌-◌, ◌≤◌, ◌==◌, pos, Bool, false, if◌then◌else◌, List, [], ◌∷◌}
use Rattle.std.specs.Prelude.{length, map, drop, slice_get, Option, Some, None, encode_utf8_all}
use Rattle.std.specs.List.{All, enumerate_from, flat_map}
use Rattle.std.specs.Option.{option_map_or}
use Rattle.desk_book.specs.declared.change.Effect.{Effect}
use Rattle.desk_book.specs.declared.change.Effect.TheVariants as effect
use Rattle.desk_model.specs.declared.style.Style.{Style}
use Rattle.desk_memory.specs.declared.history.HeldEntry.{HeldEntry}
use Rattle.desk_memory.specs.declared.history.HeldEntry.TheVariants.{Corrects, Undoes}
use Rattle.desk_memory.specs.declared.marks.HeldMark.{HeldMark}
use Rattle.desk_memory.specs.declared.paragraphs.Paragraph.{Paragraph as HeldParagraph}
use Rattle.desk_memory.specs.declared.tables.BookTable.{BookTable}
use Rattle.desk_model.specs.Book.{Book, Mark}
use Rattle.desk_model.specs.Limits.{most_print}
use Rattle.desk_model.specs.Marks.{mark_moved_by}
use Rattle.desk_model.specs.ParagraphMarks.{marks_on}
use Rattle.desk_parts.specs.declared.file_table.FileTable.TheVariants as tables
use Rattle.desk_parts.specs.Puts.{Flags, Place, Print, PutRow, Resolved, RowPut, SetColumns, Span, Table, Version}
use Rattle.desk_parts.specs.Rows.{Mark as MarkRow, NamedCorr, Para}
use Rattle.desk_model.specs.Shows.{flag_number, style_number}
use Rattle.desk_model.specs.NextBook.{next_id, next_mark}
use Rattle.desk_model.specs.Loans.{next_entry_number, row_number}

-- the entry with this number in the history of the paragraph with this id
abbrev pub entry_row : (id seq : ℕ) → HeldEntry → NamedCorr
entry_row id seq (Corrects c) = record {
  entry = record {
    para = row_number id;
    seq = row_number seq;
    kind = pos 0;
    start = row_number c.start;
    len = row_number (length c.taken);
    body = encode_utf8_all c.text;
  };
  who = encode_utf8_all c.who;
}
entry_row id seq (Undoes undone) = record {
  entry = record
      { para = row_number id; seq = row_number seq; kind = pos 1; start = row_number undone; len = pos 0; body = [] };
  who = [];
}

-- the row of the cells of the paragraph with this id
abbrev pub cache_put : ℕ → List ℕ → RowPut
cache_put id cells = PutRow tables.Cache (record { para = row_number id; cells = cells })

-- the new cells of the paragraph with this id, if it has any
abbrev pub cells_put : ℕ × Option (List ℕ) → List RowPut
cells_put (id, None) = []
cells_put (id, Some new) = cache_put id new ∷ []

-- the new cells of the paragraphs from an index on
abbrev pub cells_from : ℕ → List (Option (List ℕ)) → List RowPut
cells_from index cells = flat_map cells_put (drop index (enumerate_from 1 cells))

-- the paragraph with this id at this place
abbrev pub place_put : (id place : ℕ) → RowPut
place_put id place = SetColumns tables.Para (row_number id) (Place (row_number place))

-- the paragraph with this id at the place after this one
abbrev pub further_put : ℕ × ℕ → RowPut
further_put (place, id) = place_put id (place + 1)

-- the paragraphs from an index of the order on, each a place further
abbrev pub further_from : ℕ → List ℕ → List RowPut
further_from index order = map further_put (drop index (enumerate_from 1 order))

-- whether the paragraph at this place stood there in the old order, too
abbrev pub stays_in : List ℕ → ℕ × ℕ → Bool
stays_in old (place, id) = option_map_or (λ other. other == id) (slice_get old (place - 1)) false

-- the paragraph with this id at its place, if it stood elsewhere
abbrev pub elsewhere_put : List ℕ → ℕ × ℕ → List RowPut
elsewhere_put old (place, id) = if stays_in old (place, id) then [] else place_put id place ∷ []

-- the paragraphs from an index of the new order on that stand elsewhere than in the old one
abbrev pub elsewhere_from : ℕ → (old new : List ℕ) → List RowPut
elsewhere_from index old new = flat_map (elsewhere_put old) (drop index (enumerate_from 1 new))

-- the span of the mark after so many characters from a place on gave way to others
abbrev pub span_put : (start removed added : ℕ) → Mark → RowPut
span_put start removed added mark =
    let moved = mark_moved_by start removed added mark in
    SetColumns tables.Mark (row_number mark.id)
    (Span (row_number moved.start) (row_number moved.end) (flag_number moved.touched))

-- a mark stands within a print
abbrev pub AreSpans : List Mark → Type 0
AreSpans marks = All (λ mark. (mark.start ≤ mark.end) × (mark.end ≤ most_print)) marks

-- ---- a change's, effect by effect

-- the row of a paragraph as it is held
abbrev pub held_row : (id place : ℕ) → HeldParagraph → Para
held_row id place held = record {
  id = row_number id;
  place = row_number place;
  tab = encode_utf8_all held.table;
  original = encode_utf8_all held.original;
  print = encode_utf8_all held.print;
  style = style_number held.style;
  volume = flag_number held.begins_volume;
  struck = flag_number held.struck;
}

-- the row of a mark as it is held
abbrev pub held_mark_row : ℕ → HeldMark → MarkRow
held_mark_row id held = record {
  id = row_number id;
  para = row_number held.paragraph;
  start = row_number held.start;
  stop = row_number held.end;
  note = encode_utf8_all held.note;
  touched = flag_number held.touched;
  resolved = flag_number held.resolved;
}

-- the table with this name
abbrev pub tab_put : List ℕ → BookTable → RowPut
tab_put name table = PutRow tables.Tab (record { name = encode_utf8_all name; body = table.text })

-- the print of the paragraph with this id
abbrev pub print_put : ℕ → List ℕ → RowPut
print_put id print = SetColumns tables.Para (row_number id) (Print (encode_utf8_all print))

-- the table that the paragraph with this id uses
abbrev pub used_table_put : ℕ → List ℕ → RowPut
used_table_put id table = SetColumns tables.Para (row_number id) (Table (encode_utf8_all table))

-- the style and the flags of the paragraph with this id
abbrev pub flags_put : ℕ → Style → (begins_volume struck : Bool) → RowPut
flags_put id style begins_volume struck =
    SetColumns tables.Para (row_number id) (Flags (style_number style) (flag_number begins_volume) (flag_number struck))

-- that the mark with this id is resolved
abbrev pub resolved_put : ℕ → RowPut
resolved_put id = SetColumns tables.Mark (row_number id) (Resolved (pos 1))

-- the version of the book
abbrev pub version_put : ℕ → RowPut
version_put version = SetColumns tables.Book (pos 1) (Version (row_number version))

-- what the effect puts after the version: the new row, or the columns that change, with the
-- cells of each paragraph that is translated anew, the places of those that stand elsewhere, and
-- the spans of all marks on a new print, even of those that stay, so that no mark is looked at
-- twice
abbrev pub effect_puts : Book → Effect → List RowPut
effect_puts book (effect.AddTable name table room) = tab_put name table ∷ []
effect_puts book (effect.ReplaceTable name table cells) = tab_put name table ∷ cells_from 0 cells.items
effect_puts book (effect.AddParagraph paragraph room order_room place) =
    PutRow tables.Para (held_row (next_id book) (place + 1) paragraph) ∷ cache_put (next_id book) paragraph.cells
    ∷ further_from place (map (λ other. other.id) book.paragraphs)
effect_puts book (effect.ChangePrint id change) =
    PutRow tables.NamedCorr (entry_row id (next_entry_number book id) change.entry) ∷ print_put id change.print
    ∷ cache_put id change.cells
    ∷ map (span_put change.start change.removed change.added) (marks_on id book.marks)
effect_puts book (effect.AddMark mark room index_room) = PutRow tables.Mark (held_mark_row (next_mark book) mark) ∷ []
effect_puts book (effect.ResolveMark id) = resolved_put id ∷ []
effect_puts book (effect.SetFlags id style begins struck) = flags_put id style begins struck ∷ []
effect_puts book (effect.ChangeTable id table cells) = used_table_put id table ∷ cache_put id cells ∷ []
effect_puts book (effect.Reorder order) = elsewhere_from 0 (map (λ other. other.id) book.paragraphs) order
