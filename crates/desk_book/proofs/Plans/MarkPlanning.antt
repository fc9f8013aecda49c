-- How a new mark is checked while no version is expected.
use Rattle.std.proofs.Common.{◌≡◌, ℕ, ◌<◌, ◌≤◌, false, List, length, None, refl, sym, ap, subst, ◌∙◌, arith, inr}
use Rattle.louis_table.specs.Meaning.{Meaning}
use Rattle.louis_translate.specs.Braille.{braille}
use Rattle.louis_translate.specs.Tiling.{Tiles}
use Rattle.louis_translate.proofs.Tilings.{one_cover}
use Rattle.desk_model.specs.declared.command.Command.{Command}
use Rattle.desk_model.specs.declared.command.Command.TheVariants.{Mark}
use Rattle.desk_memory.specs.declared.paragraphs.Paragraph.{Paragraph as HeldParagraph}
use Rattle.desk_model.specs.declared.refusal.Limit.TheVariants.{Marks, Tables, Version}
use Rattle.desk_model.specs.declared.refusal.Refusal.{Refusal}
use Rattle.desk_model.specs.declared.refusal.Refusal.TheVariants.{BadSpan, Full, NoMemory, NoParagraph, NotStruck, TooLong}
use Rattle.desk_model.specs.Book.{Book, Paragraph}
use Rattle.desk_model.specs.Judging.{Passes}
use Rattle.desk_model.specs.Limits.{most_marks, most_note, most_version}
use Rattle.desk_book.specs.Marking.{AreMarkedIn, HasCells}
use Rattle.desk_book.specs.Plans.{IsTurnedDown}
use Rattle.desk_model.specs.Print.{print_of}
use Rattle.desk_model.specs.Refusals.{IsAccepted}
use Rattle.desk_memory.specs.Display.{IsShown}
use Rattle.desk_model.specs.BookTexts.{IsUnbarred}
use Rattle.desk_model.specs.Translation.{AreMarked, LacksCells}
use Rattle.desk_model.specs.Ranks.{bad_table_rank, bad_text_rank, rank}
use Rattle.desk_model.proofs.Commands.Ranks.{accepted_after, passes_to, past_lengths, past_text, past_version, to_rank}
use Rattle.desk_book.proofs.Plans.EntryPlanning.{unstruck}
use Rattle.desk_model.proofs.Commands.Judging.{Passes-accepted, Passes-past}
use Rattle.desk_model.proofs.Commands.MarkedPlaces.{has_cells as cells_there}
use Rattle.desk_book.proofs.Plans.Planning.{full_version, no_memory, turned_down}

module _ (book : Book) (id cell count : ℕ) (note : List ℕ) where
  abbrev command : Command
  command = Mark id cell count note

  module _ (unbarred : IsUnbarred note) where
    cleaned : Passes book None command (rank NoParagraph)
    cleaned = past_text book command note (passes_to book command bad_text_rank refl) refl unbarred

    module _ (held : HeldParagraph) (meaning : Meaning) (shown : IsShown book id held meaning) (free : held.struck ≡ false) where
      abbrev p : Paragraph
      p = shown.paragraph

      fit : Passes book None command (rank BadSpan)
      fit = to_rank book command (rank NotStruck) (rank BadSpan) refl (unstruck book command id refl refl refl cleaned held meaning shown free)

      pub has_cells : (print cells : List ℕ) → print ≡ held.print → cells ≡ held.cells → HasCells meaning print (length cells)
      has_cells print cells same these choices tiles =
          let its : Tiles meaning (print_of p) choices = subst (λ (t : List ℕ). Tiles meaning t choices) (same ∙ shown.print) tiles in
          let one : shown.choices ≡ choices = one_cover meaning (print_of p) 0 shown.choices choices shown.translated.tiles its in
          ap length (these ∙ (shown.cells ∙ (ap (braille meaning (print_of p)) one ∙ ap (λ (t : List ℕ). braille meaning t choices) (sym (same ∙ shown.print)))))

      module _ (start end : ℕ) (print : List ℕ) (same : print ≡ held.print) (there : AreMarkedIn meaning print cell count start end) where
        its_span : AreMarkedIn meaning (print_of p) cell count start end
        its_span = subst (λ (t : List ℕ). AreMarkedIn meaning t cell count start end) (same ∙ shown.print) there

        pub marked_here : AreMarked book id cell count start end
        marked_here =
            let at = its_span shown.choices shown.translated.tiles in
            record { paragraph = p; found = shown.found; meaning = meaning; choices = shown.choices; translated = shown.translated; starts = at.2; ends = at.3 }

        not_lacking : ¬ LacksCells book id cell count
        not_lacking =
            let at = its_span shown.choices shown.translated.tiles in
            let some = at.0 in
            cells_there book id cell count (record { paragraph = p; meaning = meaning; choices = shown.choices }) (shown.found, shown.translated) (λ none. omega arith) at.1

        spanned : Passes book None command (rank TooLong)
        spanned = Passes-past book None command BadSpan (rank TooLong) refl fit not_lacking

        pub long_note : (reported : Refusal) → (reported ≡ TooLong) × (most_note < length note) → IsTurnedDown book command reported
        long_note reported (is, long) = turned_down book command (rank TooLong) TooLong reported spanned refl (inr (inr long)) is

        module _ (short : length note ≤ most_note) where
          shortened : Passes book None command (rank (Full Marks))
          shortened =
              to_rank book command (rank (Full Tables)) (rank (Full Marks)) refl
              (past_lengths book command spanned (λ l. l) (λ l. l) (λ long. omega arith))

          pub full_marks : (reported : Refusal) → (reported ≡ Full Marks) × (most_marks ≤ length book.marks) → IsTurnedDown book command reported
          full_marks reported (is, full) = turned_down book command (rank (Full Marks)) (Full Marks) reported shortened refl (refl, full) is

          module _ (room : length book.marks < most_marks) where
            roomy : Passes book None command (rank (Full Version))
            roomy = Passes-past book None command (Full Marks) (rank (Full Version)) refl shortened (λ f. let full = f.1 in omega arith)

            pub full_of_versions : (reported : Refusal) → (reported ≡ Full Version) × (most_version ≤ book.version) → IsTurnedDown book command reported
            full_of_versions reported (is, full) = full_version book command (rank (Full Version)) reported roomy refl full is

            pub accepted_mark : book.version < most_version → IsAccepted book None command
            accepted_mark left = accepted_after book command bad_table_rank (past_version book command (rank (Full Version)) roomy refl left) refl

            pub no_memory_here : book.version < most_version → (reported : Refusal) → reported ≡ NoMemory → IsTurnedDown book command reported
            no_memory_here left reported is = no_memory book command reported (rank NoMemory) refl (Passes-accepted book None command (accepted_mark left) (rank NoMemory)) is
