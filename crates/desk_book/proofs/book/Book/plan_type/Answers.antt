use Rattle.std.proofs.Common.{◌≡◌, ℕ, ◌<◌, ◌≤◌, List, None, Result, IfErr, IsErrAnd, length, refl, sym, ap, subst, ◌∙◌, arith}
use Rattle.std.specs.List.{insert}
use Rattle.std.proofs.lemmas.Result.{err_from_is_err_and}
use Rattle.louis_translate.specs.Position.{AreDefined}
use Rattle.desk_book.specs.declared.change.Effect.{Effect}
use Rattle.desk_model.specs.declared.command.Command.{Command}
use Rattle.desk_model.specs.declared.command.Command.TheVariants.{TypeIn}
use Rattle.desk_model.specs.declared.refusal.Refusal.{Refusal}
use Rattle.desk_model.specs.declared.refusal.Refusal.TheVariants.{Full, NoMark, NoMemory, TooLong}
use Rattle.desk_model.specs.Judging.{Passes}
use Rattle.desk_memory.specs.Held.{with_id}
use Rattle.desk_model.specs.Limits.{most_paragraphs, most_print, most_version}
use Rattle.desk_book.specs.Plans.{IsNewParagraph, IsTurnedDown}
use Rattle.desk_model.specs.Named.{paragraph_before}
use Rattle.desk_memory.specs.Room.{Suffices}
use Rattle.desk_model.specs.NextBook.{new_paragraph, next_id, with_paragraph}
use Rattle.desk_model.specs.BookTexts.{normal_form}
use Rattle.desk_model.specs.Ranks.{bad_table_rank, bad_text_rank, rank, undefined_rank, untranslatable_rank}
use Rattle.desk_model.specs.declared.refusal.Limit.TheVariants.{Entries, Paragraphs, Tables}
use Rattle.desk_book.proofs.Held.HeldLookups.{Contains-there, count-paragraphs, ids_of-book}
use Rattle.desk_book.proofs.Plans.NewParagraphs.{IsHeldTyped-new}
use Rattle.desk_memory.proofs.Callers.{ids_of-with_paragraph}
use Rattle.desk_model.proofs.Books.ParagraphLists.{ids_of}
use Rattle.desk_model.proofs.Commands.Ranks.{accepted_after, passes_to, past_length, past_room, past_table, past_text, past_version, to_rank}
use Rattle.desk_book.proofs.Plans.Planning.{no_memory, past_paragraphs, past_print}
use Rattle.desk_book.proofs.book.Book.plan_type.Goals as goal
use Rattle.desk_book.proofs.book.Book.plan_type.Goals.{In_ok-held}

-- how far the checks come once the table is found
module _ (c : In_ok-held) where
  abbrev command : Command
  command = TypeIn c.args.anchor c.args.table.now c.args.text.now

  tabled : Passes c.args.self.now None command (rank TooLong)
  tabled =
      let cleaned = past_text c.args.self.now command c.args.text.now (passes_to c.args.self.now command bad_text_rank refl) refl c.in_ok-check_text.ensures.unbarred in
      let anchored = past_paragraphs c.args.self.now command cleaned c.in_ok-check_anchor.ensures.there in
      to_rank c.args.self.now command (rank NoMark) (rank TooLong) refl (past_table c.args.self.now command c.args.table.now _ anchored refl c.in_ok-held.ensures.found.found)

  -- where an allocation fails then
  lacking : (r : Result Effect Refusal) → IsErrAnd r (λ reported. reported ≡ NoMemory) → IfErr r (IsTurnedDown c.args.self.now command)
  lacking r failed = let p = err_from_is_err_and r failed in rw p.1 (no_memory c.args.self.now command p.0 (rank TooLong) refl tabled p.2)

  left : length (normal_form c.args.text.now) ≤ most_print → length c.args.self.now.paragraphs < most_paragraphs → c.args.self.now.version < most_version → Passes c.args.self.now None command undefined_rank
  left short room version =
      let shortened = to_rank c.args.self.now command (rank (Full Tables)) (rank (Full Paragraphs)) refl (past_length c.args.self.now command (normal_form c.args.text.now) tabled refl refl refl short) in
      to_rank c.args.self.now command bad_table_rank undefined_rank refl (past_version c.args.self.now command (rank (Full Entries)) (past_room c.args.self.now command shortened room) refl version)

pub returns-in_err-print-clause-refused : goal.returns-in_err-print-clause-refused
returns-in_err-print-clause-refused c = lacking (goal.at.returns-in_err-print-clause-refused c).In_ok-held _ c.from_residual-in_err-print.ensures.1

pub returns-in_err-new_paragraph-clause-refused : goal.returns-in_err-new_paragraph-clause-refused
returns-in_err-new_paragraph-clause-refused c = lacking (goal.at.returns-in_err-new_paragraph-clause-refused c).In_ok-held _ c.from_residual-in_err-new_paragraph.ensures.1

pub returns-in_err-room-clause-refused : goal.returns-in_err-room-clause-refused
returns-in_err-room-clause-refused c = lacking (goal.at.returns-in_err-room-clause-refused c).In_ok-held _ c.from_residual-in_err-room.ensures.1

pub returns-in_err-order_room-clause-refused : goal.returns-in_err-order_room-clause-refused
returns-in_err-order_room-clause-refused c = lacking (goal.at.returns-in_err-order_room-clause-refused c).In_ok-held _ c.from_residual-in_err-order_room.ensures.1

pub place_for-requires : goal.place_for-requires
place_for-requires c = Contains-there _ _ _ _ c.args.self.now c.self.view_is (paragraph_before c.args.anchor) c.in_ok-check_anchor.ensures.there

pub returns-clause-planned : goal.returns-clause-planned
returns-clause-planned c =
    let book = c.args.self.now in
    let rules = c.in_ok-held.held.now.rules in
    let held = c.in_ok-new_paragraph.field-0 in
    let printed : c.in_ok-print.print.items ≡ normal_form c.args.text.now = c.in_ok-print.ensures ∙ ap normal_form c.as_str.ensures in
    let short = subst (λ (n : ℕ). n ≤ most_print) (c.len.ensures ∙ (c.in_ok-print.print.ok.0 ∙ ap length printed)) c.in_ok-check_length.ensures.short in
    let count = count-paragraphs _ _ _ _ book c.self.view_is in
    let room : length book.paragraphs < most_paragraphs = let left = c.in_ok-check_limit.ensures.left in omega arith in
    let passes = left (goal.at.returns-clause-planned c).In_ok-held short room c.in_ok-check_version.ensures.left in
    let defined = subst (AreDefined rules) (c.deref.ensures.value ∙ printed) c.in_ok-check_print.ensures.defined in
    let judged = past_print book (TypeIn c.args.anchor c.args.table.now c.args.text.now) c.args.table.now (normal_form c.args.text.now) _ refl c.in_ok-held.ensures.found passes defined in
    let new = subst (λ (t : List ℕ). IsNewParagraph c.args.table.now t rules held) printed c.in_ok-new_paragraph.ensures in
    let order : insert (ids_of book.paragraphs) c.place_for.result (next_id book) ≡ ids_of (with_paragraph c.args.anchor (new_paragraph (next_id book) c.args.table.now c.args.text.now) book.paragraphs) =
    ap (λ (list : List ℕ). insert list c.place_for.result (next_id book)) (ids_of-book _ _ _ _ book c.self.view_is)
    ∙ (c.place_for.ensures.place (next_id book)
    ∙ (ap (with_id c.args.anchor (next_id book)) (sym (ids_of-book _ _ _ _ book c.self.view_is))
    ∙ sym (ids_of-with_paragraph c.args.anchor (new_paragraph (next_id book) c.args.table.now c.args.text.now) book.paragraphs))) in (
      accepted_after book (TypeIn c.args.anchor c.args.table.now c.args.text.now) untranslatable_rank judged refl,
      (
        _,
        refl,
        record {
          anchor = c.args.anchor;
          text = c.args.text.now;
          command_is = ap (λ (t : List ℕ). TypeIn c.args.anchor t c.args.text.now) (sym new.table_is);
          typed_is = IsHeldTyped-new book c.args.table.now c.args.text.now _ held c.in_ok-held.ensures.found new;
          few = room;
          room_is = subst (λ (n : ℕ). Suffices n c.in_ok-room.field-0) (sym count) c.in_ok-room.ensures;
          order_room_is = subst (λ (n : ℕ). Suffices n c.in_ok-order_room.field-0) (sym count) c.in_ok-order_room.ensures;
          within = subst (λ (n : ℕ). c.place_for.result ≤ n) (sym count) c.place_for.ensures.within;
          order = order;
        },
      ),
      (new.characters, tt, tt),
    )
