-- How a correction is checked while no version is expected.
use Rattle.std.proofs.Common.{◌≡◌, ℕ, ◌+◌, ◌-◌, ◌<◌, ◌≤◌, false, List, length, Option, Some, None, refl, sym, ap, subst, ◌∙◌, arith, lit≤}
use Rattle.louis_table.specs.Meaning.{Meaning}
use Rattle.louis_translate.specs.Position.{AreDefined}
use Rattle.desk_book.specs.declared.change.Effect.{Effect}
use Rattle.desk_book.specs.declared.corrections.NewEntry.{NewEntry}
use Rattle.desk_model.specs.declared.command.Command.{Command}
use Rattle.desk_model.specs.declared.command.Command.TheVariants.{Correct}
use Rattle.desk_memory.specs.declared.paragraphs.Paragraph.{Paragraph as HeldParagraph}
use Rattle.desk_model.specs.declared.refusal.Refusal.{Refusal}
use Rattle.desk_model.specs.declared.refusal.Refusal.TheVariants.{BadReader, BadSpan, NoMemory, NoParagraph, NotStruck, TooLong}
use Rattle.desk_model.specs.Book.{Book, Corrects, Paragraph, Replacement}
use Rattle.desk_book.specs.Changes.{Does}
use Rattle.desk_book.specs.Corrections.{HaltsEntry, HaltsPrint, IsEntered, TakesEntry}
use Rattle.desk_memory.specs.Histories.{TookFrom, entry_held}
use Rattle.desk_model.specs.Judging.{Passes}
use Rattle.desk_model.specs.Limits.{most_note, most_print}
use Rattle.desk_model.specs.Marks.{mark_moved, mark_moved_by}
use Rattle.desk_model.specs.ValidNames.{IsProofreaderName}
use Rattle.desk_book.specs.Plans.{IsPlanned, IsTurnedDown}
use Rattle.desk_model.specs.Print.{print_of, with_entry, with_replacement}
use Rattle.desk_model.specs.Refusals.{IsLongerThan}
use Rattle.desk_memory.specs.Display.{IsShown}
use Rattle.desk_model.specs.NextBook.{next_with_entry, replacement_by}
use Rattle.desk_model.specs.BookTexts.{AreCharacters, IsUnbarred, normal_form}
use Rattle.desk_model.specs.Ranks.{bad_text_rank, rank}
use Rattle.desk_model.proofs.Lists.Options.{IsSomeAnd-value}
use Rattle.desk_book.proofs.Plans.EntryPlanned.{ChangesPrint-entered}
use Rattle.desk_model.proofs.Books.SoundBooks.{short-sound}
use Rattle.desk_book.proofs.Plans.EntryPlanning.{accepts_entry, halted, undefined, unstruck}
use Rattle.desk_model.proofs.Commands.Ranks.{passes_to, not_longer, past_text, to_rank}
use Rattle.desk_model.proofs.Books.HistoryLists.{corrected_print-corrects}
use Rattle.desk_model.proofs.Commands.Judging.{Passes-past}
use Rattle.desk_book.proofs.Plans.Planning.{no_memory}
use Rattle.desk_model.proofs.Books.SoundEntries.{length-replaced}

module _ (book : Book) (id start count : ℕ) (text who : List ℕ) where
  abbrev command : Command
  command = Correct id start count text who

  abbrev r : Replacement
  r = replacement_by start count text

  module _ (named : IsProofreaderName who) where
    pub past_proofreader : Passes book None command bad_text_rank
    past_proofreader = Passes-past book None command BadReader bad_text_rank refl (passes_to book command (rank BadReader) refl) (λ bad. bad named)

    module _ (unbarred : IsUnbarred text) where
      cleaned : Passes book None command (rank NoParagraph)
      cleaned = past_text book command text past_proofreader refl unbarred

      module _ (held : HeldParagraph) (meaning : Meaning) (shown : IsShown book id held meaning) (free : held.struck ≡ false) where
        abbrev p : Paragraph
        p = shown.paragraph

        fit : Passes book None command (rank BadSpan)
        fit = to_rank book command (rank NotStruck) (rank BadSpan) refl (unstruck book command id refl refl refl cleaned held meaning shown free)

        module _ (span : start + count ≤ length held.print) where
          spanned : Passes book None command (rank TooLong)
          spanned =
              Passes-past book None command BadSpan (rank TooLong) refl fit
              (λ b. let past = IsSomeAnd-value (λ (q : Paragraph). length (print_of q) < start + count) shown.found b in
              let one = ap length shown.print in
              omega arith)

          -- so many characters the print has after it
          pub counted : (len put : ℕ) → len ≡ length held.print → put ≡ length (normal_form text) → (len - count) + put ≡ length (with_replacement (print_of p) r)
          counted len put a b =
              let same = ap length shown.print in
              let sum = length-replaced (print_of p) r (subst (λ (t : List ℕ). start + count ≤ length t) shown.print span) in
              omega (arith, a, b)

          pub no_memory_here : (reported : Refusal) → reported ≡ NoMemory → IsTurnedDown book command reported
          no_memory_here reported is = no_memory book command reported (rank TooLong) refl spanned is

          module _ (print : List ℕ) (print_is : print ≡ with_replacement (print_of p) r) (short : length (normal_form text) ≤ most_print) where
            abbrev replaced : Paragraph → Option (List ℕ)
            replaced q = Some (with_replacement (print_of q) r)

            made : replaced p ≡ Some print
            made = ap Some (sym print_is)

            no_note : ¬ IsLongerThan most_note None
            no_note l = l

            pub halted_here : (reported : Refusal) → HaltsEntry book held (length print) reported → IsTurnedDown book command reported
            halted_here reported =
                halted book command id p shown.found held shown.held_is print shown.translated.text meaning shown.translated.found shown.translated.means refl replaced refl made
                (not_longer most_print (Some (normal_form text)) (normal_form text) refl short) no_note spanned refl refl refl refl reported

            pub undefined_here : TakesEntry book held (length print) → (reported : Refusal) → HaltsPrint meaning print reported → IsTurnedDown book command reported
            undefined_here takes reported =
                undefined book command id p shown.found held shown.held_is print shown.translated.text meaning shown.translated.found shown.translated.means refl replaced refl made
                (not_longer most_print (Some (normal_form text)) (normal_form text) refl short) no_note spanned refl refl refl refl (rank TooLong) refl (lit≤ tt) takes reported

            pub planned_here : (new : NewEntry) (effect : Effect) → new.print.items ≡ print → IsEntered book id held meaning new effect → entry_held new.entry ≡ Corrects r who → TookFrom (print_of p) new.entry
                → new.start ≡ start → new.removed ≡ count → new.added ≡ length (normal_form text) → AreCharacters (normal_form text) × AreCharacters who → IsPlanned book command effect
            planned_here new effect printed is entry_is taken starts removes adds written =
                let shorts : length print ≤ most_print = subst (λ (t : List ℕ). length t ≤ most_print) printed is.short in
                let defined = subst (AreDefined meaning) printed is.defined in
                let within : length (print_of p) ≤ most_print = short-sound book p shown.sound in
                let same = ap length shown.print in
                let after : new.print.items ≡ print_of (with_entry (Corrects r who) p) = printed ∙ (print_is ∙ sym (corrected_print-corrects p.original p.history r who shown.sound.history.entries)) in
                let change = ChangesPrint-entered book id held meaning new effect shown is (Corrects r who) entry_is after taken (omega arith) (omega arith) in
                let moves : next_with_entry book id (Corrects r who) (mark_moved_by new.start new.removed new.added) ≡ next_with_entry book id (Corrects r who) (mark_moved r) =
                λ i. next_with_entry book id (Corrects r who) (mark_moved_by (starts i) (removes i) (adds i)) in (
                  accepts_entry book command id p shown.found held shown.held_is print shown.translated.text meaning shown.translated.found shown.translated.means refl replaced refl made
                      (not_longer most_print (Some (normal_form text)) (normal_form text) refl short) no_note spanned refl refl refl refl shorts is.few is.left defined,
                  (next_with_entry book id (Corrects r who) (mark_moved_by new.start new.removed new.added), moves, subst (Does book command (next_with_entry book id (Corrects r who) (mark_moved_by new.start new.removed new.added))) (sym is.effect_is) (refl, change)),
                  (written.0, written.1, tt),
                )
