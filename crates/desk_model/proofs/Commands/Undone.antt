-- The print after an undo.
use Rattle.std.proofs.Common.{ℕ, refl, ap, ◌∙◌}
use Rattle.desk_model.specs.declared.command.Command.TheVariants.{Undo}
use Rattle.desk_model.specs.Book.{Book, Paragraph, Undoes}
use Rattle.desk_model.specs.Print.{with_entry}
use Rattle.desk_model.specs.Restoration.{RestoresPrint}
use Rattle.desk_model.specs.Sound.{IsSound}
use Rattle.desk_model.specs.NextBook.{Makes}
use Rattle.desk_model.proofs.Books.HistoryLists.{IsLast-parts, corrected_print-before, newest-parts}
use Rattle.desk_model.proofs.Books.ParagraphLists.{found, found-changed}
use Rattle.desk_model.proofs.Books.SoundBooks.{IsSoundParagraph-found}

pub RestoresPrint-undo : (book next : Book) (id : ℕ) → IsSound book → Makes book (Undo id) next → RestoresPrint book next id
RestoresPrint-undo book next id sound (n, r, is, e) =
    let p : Paragraph = is.paragraph in
    let s = IsSoundParagraph-found book sound id p is.found in
    let parts = newest-parts p.history n r is.newest_is in
    let last = IsLast-parts p.history 1 p.history parts.0 n r parts.1 in
    record {
      paragraph = p;
      found = is.found;
      number = n;
      correction = r;
      who = last.who;
      newest_is = is.newest_is;
      at = last.at;
      later = with_entry (Undoes n) p;
      found_later = ap (λ (b : Book). found id b.paragraphs) e ∙ found-changed id (with_entry (Undoes n)) (λ q. refl) book.paragraphs p is.found;
      entry = refl;
      print = corrected_print-before p.original p.history s.history.entries n r is.newest_is;
    }
