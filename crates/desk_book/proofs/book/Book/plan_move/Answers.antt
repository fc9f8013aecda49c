use Rattle.std.proofs.Common.{◌≡◌, ℕ, None, refl, sym, ap, ◌∙◌}
use Rattle.desk_model.specs.declared.command.Anchor.{Anchor}
use Rattle.desk_model.specs.declared.command.Command.TheVariants.{Move}
use Rattle.desk_memory.specs.declared.paragraphs.Paragraph.{Paragraph as HeldParagraph}
use Rattle.desk_model.specs.Book.{Book}
use Rattle.desk_model.specs.Judging.{Passes}
use Rattle.desk_memory.specs.Held.{with_id_moved}
use Rattle.desk_book.specs.Plans.{AreThere, IsHeldFor}
use Rattle.desk_model.specs.Named.{paragraph_before}
use Rattle.desk_model.specs.NextBook.{with_move}
use Rattle.desk_model.specs.Ranks.{bad_table_rank, rank}
use Rattle.desk_model.specs.declared.refusal.Refusal.TheVariants.{NoMemory, NoParagraph, NoTable}
use Rattle.desk_book.proofs.Held.HeldLookups.{ids_of-book, sound}
use Rattle.desk_memory.proofs.Callers.{ids_of-with_move}
use Rattle.desk_model.proofs.Books.ParagraphLists.{ids_of}
use Rattle.desk_model.proofs.Books.SoundSteps.{IsPermutation-moved}
use Rattle.desk_book.proofs.Plans.Planning.{exit, AreNotAllThere-cons, AreThere-cons, no_memory, no_paragraph, past_paragraphs}
use Rattle.desk_model.proofs.Commands.Ranks.{accepted_after, passes_to, past_version, to_rank}
use Rattle.desk_book.proofs.book.Book.plan_move.Goals as goal

named : (book : Book) (id : ℕ) (anchor : Anchor) (held : HeldParagraph) → IsHeldFor book id held → AreThere book (paragraph_before anchor) → Passes book None (Move id anchor) (rank NoTable)
named book id anchor held found there =
    past_paragraphs book (Move id anchor) (passes_to book (Move id anchor) (rank NoParagraph) refl) (AreThere-cons book id held (paragraph_before anchor) found there)

pub returns-in_err-check_anchor-clause-refused : goal.returns-in_err-check_anchor-clause-refused
returns-in_err-check_anchor-clause-refused c =
    let command = Move c.args.id c.args.anchor in
    let reported = c.in_err-check_anchor.ensures.missing in
    exit _ _ _ c.from_residual-in_err-check_anchor.ensures.1
    (no_paragraph c.args.self.now command _ (passes_to c.args.self.now command (rank NoParagraph) refl) (AreNotAllThere-cons c.args.self.now c.args.id (paragraph_before c.args.anchor) reported.1) reported.0)

pub returns-in_err-order_with_move-clause-refused : goal.returns-in_err-order_with_move-clause-refused
returns-in_err-order_with_move-clause-refused c =
    let passes = named c.args.self.now c.args.id c.args.anchor _ c.in_ok-held_paragraph.ensures.found c.in_ok-check_anchor.ensures.there in
    let left = past_version c.args.self.now (Move c.args.id c.args.anchor) (rank NoTable) passes refl c.in_ok-check_version.ensures.left in
    exit _ _ _ c.from_residual-in_err-order_with_move.ensures.1
    (no_memory c.args.self.now (Move c.args.id c.args.anchor) _ (rank NoMemory) refl (to_rank c.args.self.now (Move c.args.id c.args.anchor) bad_table_rank (rank NoMemory) refl left) refl)

pub returns-clause-planned : goal.returns-clause-planned
returns-clause-planned c =
    let found = c.in_ok-held_paragraph.ensures.found in
    let passes = named c.args.self.now c.args.id c.args.anchor _ found c.in_ok-check_anchor.ensures.there in
    let left = past_version c.args.self.now (Move c.args.id c.args.anchor) (rank NoTable) passes refl c.in_ok-check_version.ensures.left in
    let order : c.in_ok-order_with_move.field-0 ≡ ids_of (with_move c.args.id c.args.anchor c.args.self.now) =
    c.in_ok-order_with_move.ensures
    ∙ (ap (with_id_moved c.args.anchor c.args.id) (sym (ids_of-book _ _ _ _ c.args.self.now c.self.view_is))
    ∙ sym (ids_of-with_move c.args.self.now c.args.id c.args.anchor _ found.found refl)) in
    let accepted = accepted_after c.args.self.now (Move c.args.id c.args.anchor) bad_table_rank left refl in
    let moved = IsPermutation-moved c.args.self.now None c.args.id c.args.anchor (sound _ _ _ _ c.args.self.now c.self.view_is c.self.invariant) accepted in
    (accepted, (_, refl, ((refl, moved, refl), order)), (tt, tt, tt))
