-- What an entry that is planned changes in a book.
use Rattle.std.proofs.Common.{◌≡◌, ℕ, ◌+◌, ◌<◌, ◌≤◌, List, length, sym, ap, subst, ◌∙◌, arith}
use Rattle.std.proofs.lemmas.List.{length-map}
use Rattle.louis_table.specs.Meaning.{Meaning}
use Rattle.desk_book.specs.declared.change.Effect.{Effect}
use Rattle.desk_book.specs.declared.corrections.NewEntry.{NewEntry}
use Rattle.desk_memory.specs.declared.paragraphs.Paragraph.{Paragraph as HeldParagraph}
use Rattle.desk_model.specs.Book.{Book, Entry, Paragraph}
use Rattle.desk_book.specs.Changes.{ChangesPrint}
use Rattle.desk_memory.specs.Braille.{AreCellsOf}
use Rattle.desk_book.specs.Corrections.{IsEntered}
use Rattle.desk_memory.specs.Histories.{TookFrom, entry_held}
use Rattle.desk_model.specs.Limits.{most_entries, most_print}
use Rattle.desk_model.specs.Marks.{mark_moved_by}
use Rattle.desk_model.specs.Print.{print_of, with_entry}
use Rattle.desk_memory.specs.Room.{Suffices}
use Rattle.desk_memory.specs.Display.{IsShown}
use Rattle.desk_model.specs.NextBook.{next_with_entry}

pub ChangesPrint-entered : (book : Book) (id : ℕ) (held : HeldParagraph) (meaning : Meaning) (new : NewEntry) (effect : Effect) (shown : IsShown book id held meaning) (is : IsEntered book id held meaning new effect) (e : Entry)
    → entry_held new.entry ≡ e → new.print.items ≡ print_of (with_entry e shown.paragraph) → TookFrom (print_of shown.paragraph) new.entry → new.start + new.removed ≤ most_print → new.added ≤ most_print
    → ChangesPrint book (next_with_entry book id e (mark_moved_by new.start new.removed new.added)) id is.change
ChangesPrint-entered book id held meaning new effect shown is e entry_is print_is taken within short =
    let p : Paragraph = shown.paragraph in
    let count : length p.history ≡ length held.history = ap (λ (q : Paragraph). length q.history) shown.held_is ∙ length-map held.history entry_held in
    let entry : entry_held is.change.entry ≡ e = ap entry_held is.entry ∙ entry_is in
    let start = is.start in
    let removed = is.removed in
    let added = is.added in
    record {
      next_is = λ i. next_with_entry book id (sym entry i) (mark_moved_by (sym start i) (sym removed i) (sym added i));
      paragraph = p;
      there = shown.found;
      room = subst (λ (n : ℕ). Suffices n is.change.room) (sym count) is.room;
      few = subst (λ (n : ℕ). n < most_entries) (sym count) is.few;
      print = is.print ∙ (print_is ∙ ap (λ (x : Entry). print_of (with_entry x p)) (sym entry));
      source = shown.translated.text;
      meaning = meaning;
      found = shown.translated.found;
      means = shown.translated.means;
      cells = subst (λ (t : List ℕ). AreCellsOf meaning t is.change.cells) (sym is.print) is.cells;
      taken = subst (TookFrom (print_of p)) (sym is.entry) taken;
      within = omega arith;
      short = omega arith;
    }
