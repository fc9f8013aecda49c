-- A paragraph that was just typed, held and as the book has it.
use Rattle.std.proofs.Common.{ℕ, List, refl, sym, ap, subst, ◌∙◌}
use Rattle.desk_memory.specs.declared.paragraphs.Paragraph.{Paragraph as HeldParagraph}
use Rattle.desk_memory.specs.declared.tables.BookTable.{BookTable}
use Rattle.desk_model.specs.Book.{Book, text_of}
use Rattle.desk_book.specs.Changes.{IsHeldTyped}
use Rattle.desk_memory.specs.Braille.{AreCellsOf}
use Rattle.desk_memory.specs.Histories.{HaveTaken}
use Rattle.desk_book.specs.Plans.{IsNewParagraph, IsTableFor}
use Rattle.desk_model.specs.BookTexts.{normal_form}

pub IsHeldTyped-new : (book : Book) (name text : List ℕ) (table : BookTable) (held : HeldParagraph) → IsTableFor book name table → IsNewParagraph name (normal_form text) table.rules held → IsHeldTyped book held.table text held
IsHeldTyped-new book name text table held found new = record {
  held_is = rw (new.original, new.style, new.begins_volume, new.struck, new.history) refl;
  print = new.print_is;
  source = table.text;
  meaning = table.rules;
  found = ap (text_of book) new.table_is ∙ found.found;
  means = found.means;
  cells = subst (λ (t : List ℕ). AreCellsOf table.rules t held.cells) (sym new.print_is) new.cells;
  taken = subst (HaveTaken held.original) (sym new.history) (λ i entry e. absurd (cc));
  unmarked = new.unmarked;
}
