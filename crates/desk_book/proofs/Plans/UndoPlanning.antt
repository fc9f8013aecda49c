-- How an undo is checked while no version is expected.
use Rattle.std.proofs.Common.{◌≡◌, ℕ, ◌+◌, ◌-◌, ◌≤◌, false, List, [], ◌∷◌, ◌++◌, length, Some, None, refl, sym, ap, subst, ◌∙◌, arith, lit≤}
use Rattle.std.specs.Prelude.{option_map}
use Rattle.louis_table.specs.Meaning.{Meaning}
use Rattle.louis_translate.specs.Position.{AreDefined}
use Rattle.desk_book.specs.declared.change.Effect.{Effect}
use Rattle.desk_book.specs.declared.corrections.NewEntry.{NewEntry}
use Rattle.desk_model.specs.declared.command.Command.{Command}
use Rattle.desk_model.specs.declared.command.Command.TheVariants.{Undo}
use Rattle.desk_memory.specs.declared.history.Correction.{Correction}
use Rattle.desk_memory.specs.declared.history.HeldEntry.TheVariants.{Undoes as HeldUndoes}
use Rattle.desk_memory.specs.declared.paragraphs.Paragraph.{Paragraph as HeldParagraph}
use Rattle.desk_model.specs.declared.refusal.Refusal.{Refusal}
use Rattle.desk_model.specs.declared.refusal.Refusal.TheVariants.{NoMemory, NoParagraph, NotStruck, NothingToUndo, TooLong}
use Rattle.desk_model.specs.Book.{Book, Undoes, Paragraph, Replacement}
use Rattle.desk_book.specs.Changes.{Does}
use Rattle.desk_book.specs.Corrections.{HaltsEntry, HaltsPrint, IsEntered, TakesEntry}
use Rattle.desk_memory.specs.Histories.{replaced_by}
use Rattle.desk_memory.specs.Histories.{IsNewestInForce, LeavePrint, TookFrom, entries_held, entry_held, replacement_held}
use Rattle.desk_model.specs.Judging.{Passes}
use Rattle.desk_model.specs.Limits.{most_note, most_print}
use Rattle.desk_model.specs.Marks.{mark_moved_back, mark_moved_by}
use Rattle.desk_book.specs.Plans.{IsPlanned, IsTurnedDown}
use Rattle.desk_model.specs.Print.{corrected_print, newest, print_of, print_undone, with_entry}
use Rattle.desk_model.specs.Refusals.{IsLongerThan}
use Rattle.desk_memory.specs.Display.{IsShown}
use Rattle.desk_model.specs.Sound.{AreSoundEntries}
use Rattle.desk_model.specs.NextBook.{next_with_entry}
use Rattle.desk_model.specs.Ranks.{rank, undefined_rank}
use Rattle.desk_model.proofs.Lists.Options.{IsSomeAnd-value}
use Rattle.desk_book.proofs.Plans.EntryPlanned.{ChangesPrint-entered}
use Rattle.desk_model.proofs.Books.SoundBooks.{short-sound}
use Rattle.desk_book.proofs.Plans.EntryPlanning.{accepts_entry, halted, lacking, undefined, unstruck}
use Rattle.desk_model.proofs.Commands.Ranks.{passes_to, to_rank}
use Rattle.desk_model.proofs.Commands.Judging.{Passes-past}
use Rattle.desk_memory.proofs.Callers.{taken-span, text-span, undone-length, undone-print}

module _ (book : Book) (id : ℕ) where
  abbrev command : Command
  command = Undo id

  start_here : Passes book None command (rank NoParagraph)
  start_here = passes_to book command (rank NoParagraph) refl

  module _ (held : HeldParagraph) (meaning : Meaning) (shown : IsShown book id held meaning) (free : held.struck ≡ false) where
    abbrev p : Paragraph
    p = shown.paragraph

    pub history_is : p.history ≡ entries_held held.history
    history_is = ap (λ (q : Paragraph). q.history) shown.held_is

    original_is : p.original ≡ held.original
    original_is = ap (λ (q : Paragraph). q.original) shown.held_is

    pub sound_held : AreSoundEntries held.original (entries_held held.history)
    sound_held = subst (λ (q : Paragraph). AreSoundEntries q.original q.history) shown.held_is shown.sound.history.entries

    fit : Passes book None command (rank NothingToUndo)
    fit = to_rank book command (rank NotStruck) (rank NothingToUndo) refl (unstruck book command id refl refl refl start_here held meaning shown free)

    module _ (number : ℕ) (c : Correction) (force : IsNewestInForce held.history number c) where
      abbrev r : Replacement
      r = replacement_held c

      abbrev before : List ℕ
      before = print_of (with_entry (Undoes number) p)

      newest_is : newest p.history ≡ Some (number, r)
      newest_is = ap newest history_is ∙ force.newest_is

      left : LeavePrint held.original held.history held.print
      left = record { sound = sound_held; taken = shown.taken; print_is = shown.print ∙ (λ i. corrected_print (original_is i) (history_is i)) }

      before_is : corrected_print held.original (entries_held held.history ++ Undoes number ∷ []) ≡ before
      before_is = λ i. corrected_print (sym original_is i) (sym history_is i ++ Undoes number ∷ [])

      span_before : c.start + length c.taken ≤ length before
      span_before = subst (λ (t : List ℕ). c.start + length c.taken ≤ length t) before_is (taken-span held.original held.history held.print left number c force)

      long : length held.print + length c.taken ≡ length before + length c.text
      long = undone-length held.original held.history held.print left number c force ∙ ap (λ (t : List ℕ). length t + length c.text) before_is

      -- so many characters the print has after it
      pub counted : (len count taken : ℕ) → len ≡ length held.print → count ≡ length c.text → taken ≡ length c.taken → (len - count) + taken ≡ length before
      counted len count taken a b d = let within = span_before in let sum = long in omega (arith, a, b, d)

      pub span_here : c.start + length c.text ≤ length held.print
      span_here = text-span held.original held.history held.print left number c force

      pub back : replaced_by c.start (length c.text) c.taken held.print ≡ before
      back = undone-print held.original held.history held.print left number c force ∙ before_is

      undone : print_undone p ≡ Some before
      undone = ap (option_map (λ (correction : ℕ × Replacement). print_of (with_entry (Undoes correction.0) p))) newest_is

      passed : Passes book None command (rank TooLong)
      passed = Passes-past book None command NothingToUndo (rank TooLong) refl fit
          (λ n. let none = sym newest_is ∙ IsSomeAnd-value (λ (q : Paragraph). newest q.history ≡ None) shown.found n in cc)

      no_text : ¬ IsLongerThan most_print None
      no_text l = l

      no_note : ¬ IsLongerThan most_note None
      no_note l = l

      module _ (print : List ℕ) (print_is : print ≡ before) where
        made : print_undone p ≡ Some print
        made = undone ∙ ap Some (sym print_is)

        pub halted_here : (reported : Refusal) → HaltsEntry book held (length print) reported → IsTurnedDown book command reported
        halted_here reported =
            halted book command id p shown.found held shown.held_is print shown.translated.text meaning shown.translated.found shown.translated.means refl print_undone refl made no_text no_note passed refl refl refl refl reported

        pub no_memory_here : TakesEntry book held (length print) → (reported : Refusal) → reported ≡ NoMemory → IsTurnedDown book command reported
        no_memory_here takes reported =
            lacking book command id p shown.found held shown.held_is print shown.translated.text meaning shown.translated.found shown.translated.means refl print_undone refl made no_text no_note passed refl refl refl refl undefined_rank refl (lit≤ tt) takes reported

        pub undefined_here : TakesEntry book held (length print) → (reported : Refusal) → HaltsPrint meaning print reported → IsTurnedDown book command reported
        undefined_here takes reported =
            undefined book command id p shown.found held shown.held_is print shown.translated.text meaning shown.translated.found shown.translated.means refl print_undone refl made no_text no_note passed refl refl refl refl undefined_rank refl (lit≤ tt) takes reported

        pub planned_here : (new : NewEntry) (effect : Effect) → new.print.items ≡ print → IsEntered book id held meaning new effect → new.entry ≡ HeldUndoes number
            → new.start ≡ c.start → new.removed ≡ length c.text → new.added ≡ length c.taken → IsPlanned book command effect
        planned_here new effect printed is entry_is starts removes adds =
            let shorts : length print ≤ most_print = subst (λ (t : List ℕ). length t ≤ most_print) printed is.short in
            let defined = subst (AreDefined meaning) printed is.defined in
            let now_short : length held.print ≤ most_print = subst (λ (t : List ℕ). length t ≤ most_print) (sym shown.print) (short-sound book p shown.sound) in
            let then_short : length before ≤ most_print = subst (λ (t : List ℕ). length t ≤ most_print) print_is shorts in
            let span = span_before in
            let sum = long in
            let change = ChangesPrint-entered book id held meaning new effect shown is (Undoes number) (ap entry_held entry_is) (printed ∙ print_is) (subst (TookFrom (print_of p)) (sym entry_is) tt) (omega arith) (omega arith) in
            let moves : next_with_entry book id (Undoes number) (mark_moved_by new.start new.removed new.added) ≡ next_with_entry book id (Undoes number) (mark_moved_back r) =
            λ i. next_with_entry book id (Undoes number) (mark_moved_by (starts i) (removes i) (adds i)) in (
              accepts_entry book command id p shown.found held shown.held_is print shown.translated.text meaning shown.translated.found shown.translated.means refl print_undone refl made no_text no_note passed refl refl refl refl
                  shorts is.few is.left defined,
              (next_with_entry book id (Undoes number) (mark_moved_by new.start new.removed new.added), (number, r, record { paragraph = p; found = shown.found; newest_is = newest_is }, moves), subst (Does book command (next_with_entry book id (Undoes number) (mark_moved_by new.start new.removed new.added))) (sym is.effect_is) (refl, change)),
              (tt, tt, tt),
            )
