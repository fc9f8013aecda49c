use Rattle.std.proofs.Common.{◌≡◌, ◌+◌, length, Some, sym, ap, ◌∙◌, arith}
use Rattle.std.specs.Option.{option_copied}
use Rattle.std.specs.Prelude.{option_map}
use Rattle.std.proofs.lemmas.List.{length-map}
use Rattle.desk_model.specs.Book.{Paragraph, paragraph_of}
use Rattle.desk_memory.specs.Histories.{entry_held}
use Rattle.desk_memory.specs.Held.{paragraph_held}
use Rattle.desk_book.proofs.Held.HeldLookups.{paragraph_of-held, sound}
use Rattle.desk_model.proofs.Books.SoundBooks.{IsSoundParagraph-found}
use Rattle.desk_book.proofs.book.Book.next_entry.Goals as goal

pub overflow_add-result : goal.overflow_add-result
overflow_add-result c =
    let book = c.args.self.now in
    let held = c.in_ok-paragraph.paragraph.now in
    let there : paragraph_of book c.args.id ≡ Some (paragraph_held (c.args.id, held)) = paragraph_of-held _ _ _ _ book c.self.view_is c.args.id ∙ ap (option_map (λ p. paragraph_held (c.args.id, p))) (sym c.get.ensures ∙ ap option_copied c.in_ok-paragraph.was) in
    let few = (IsSoundParagraph-found book (sound _ _ _ _ book c.self.view_is c.self.invariant) c.args.id _ there).history.few in
    let count = length-map held.history entry_held in
    let many = c.len.ensures in
    omega arith

pub returns : goal.returns
returns c =
    let book = c.args.self.now in
    let held = c.in_ok-paragraph.paragraph.now in
    let there : paragraph_of book c.args.id ≡ Some (paragraph_held (c.args.id, held)) = paragraph_of-held _ _ _ _ book c.self.view_is c.args.id ∙ ap (option_map (λ p. paragraph_held (c.args.id, p))) (sym c.get.ensures ∙ ap option_copied c.in_ok-paragraph.was) in
    let count = length-map held.history entry_held in
    ap (λ n. Some (n + 1)) (c.len.ensures ∙ sym count) ∙ sym (ap (option_map (λ (p : Paragraph). length p.history + 1)) there)

pub returns-in_err-paragraph : goal.returns-in_err-paragraph
returns-in_err-paragraph c =
    let book = c.args.self.now in
    rw c.from_residual.ensures (sym (ap (option_map (λ (p : Paragraph). length p.history + 1)) (paragraph_of-held _ _ _ _ book c.self.view_is c.args.id ∙ ap (option_map (λ p. paragraph_held (c.args.id, p))) (sym c.get.ensures ∙ ap option_copied c.in_err-paragraph.was))))
