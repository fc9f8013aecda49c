-- How a command that brings an entry into a history is checked while no version is expected.
use Rattle.std.proofs.Common.{◌≡◌, ℕ, ◌<◌, ◌≤◌, true, false, List, [], ◌∷◌, length, Option, Some, None, refl, ap, ◌∙◌, arith, inl, inr}
use Rattle.std.specs.Option.{option_and_then}
use Rattle.std.specs.Prelude.{IsSomeAnd}
use Rattle.std.proofs.lemmas.List.{length-map}
use Rattle.louis_table.specs.Meaning.{Meaning}
use Rattle.louis_table.specs.Table.{Means}
use Rattle.louis_translate.specs.Position.{AreDefined}
use Rattle.desk_model.specs.declared.command.Command.{Command}
use Rattle.desk_memory.specs.declared.paragraphs.Paragraph.{Paragraph as HeldParagraph}
use Rattle.desk_memory.specs.declared.tables.BookTable.{BookTable}
use Rattle.desk_model.specs.declared.refusal.Limit.TheVariants.{Entries, Marks, Tables, Version}
use Rattle.desk_model.specs.declared.refusal.Refusal.{Refusal}
use Rattle.desk_model.specs.declared.refusal.Refusal.TheVariants.{Full, NoMemory, NoParagraph, NoTable, NotStruck, Struck, TooLong, Undefined}
use Rattle.desk_model.specs.Book.{Book, Paragraph, paragraph_of, text_of}
use Rattle.desk_book.specs.Corrections.{HaltsEntry, HaltsPrint, TakesEntry}
use Rattle.desk_memory.specs.Display.{IsShown}
use Rattle.desk_memory.specs.Histories.{entry_held}
use Rattle.desk_model.specs.Judging.{Passes}
use Rattle.desk_memory.specs.Held.{paragraph_held}
use Rattle.desk_model.specs.Limits.{most_entries, most_note, most_print, most_version}
use Rattle.desk_book.specs.Plans.{IsTurnedDown}
use Rattle.desk_model.specs.Named.{Changed, named_by}
use Rattle.desk_model.specs.Refusals.{IsAccepted, IsLongerThan, new_print, print_and_table, print_made, print_to_translate}
use Rattle.desk_model.specs.Ranks.{bad_table_rank, rank, undefined_rank, untranslatable_rank}
use Rattle.desk_model.proofs.Lists.Options.{IsSomeAnd-of, IsSomeAnd-value}
use Rattle.desk_model.proofs.Commands.Judging.{Passes-past, skips}
use Rattle.desk_book.proofs.Plans.Planning.{full_version, no_memory, past_print, too_long, turned_down}
use Rattle.desk_model.proofs.Commands.Ranks.{accepted_after, changed-print, changed-translated, not_longer, past_fit, past_lengths, past_version, to_rank}

module _ (book : Book) (command : Command) (id : ℕ) (named : (named_by command).paragraphs_named ≡ id ∷ []) (live : (named_by command).live_paragraph ≡ Some id) (skip : skips command (rank NoTable) (rank Struck) ≡ true)
    (passes : Passes book None command (rank NoParagraph)) where
  -- it is there, and isn't struck
  pub unstruck : (held : HeldParagraph) (meaning : Meaning) (shown : IsShown book id held meaning) → held.struck ≡ false → Passes book None command (rank NotStruck)
  unstruck held meaning shown free = past_fit book command id named live skip passes shown.paragraph shown.found (ap (λ (q : Paragraph). q.struck) shown.held_is ∙ free)

module _ (book : Book) (command : Command) (id : ℕ) (p : Paragraph) (there : paragraph_of book id ≡ Some p) (held : HeldParagraph) (held_is : p ≡ paragraph_held (id, held)) (print source : List ℕ) (meaning : Meaning)
    (found : text_of book p.table ≡ Some source) (means : Means source meaning) (grows : (named_by command).history_grown ≡ Some id) (change : Paragraph → Option (List ℕ))
    (changed : (named_by command).paragraph_translated ≡ Some (Changed id change)) (makes : change p ≡ Some print) (text : ¬ IsLongerThan most_print (named_by command).text_stored)
    (note : ¬ IsLongerThan most_note (named_by command).note_given) (passes : Passes book None command (rank TooLong))
    (to_entries : skips command (rank (Full Tables)) (rank (Full Entries)) ≡ true) (to_version : skips command (rank (Full Marks)) (rank (Full Version)) ≡ true) (to_print : skips command bad_table_rank undefined_rank ≡ true) (to_end : skips command untranslatable_rank (rank NoMemory) ≡ true) where
  abbrev table : BookTable
  table = record { text = source; rules = meaning }

  -- its history has all that it may have
  abbrev at_limit : Paragraph → Type 0
  at_limit q = most_entries ≤ length q.history

  made : new_print book command ≡ Some print
  made = ap (option_and_then (print_made book)) changed ∙ changed-print book id change p print there makes

  shown : print_to_translate book command ≡ Some (print, p.table)
  shown = ap (option_and_then (print_and_table book)) changed ∙ changed-translated book id change p print there makes

  count : length p.history ≡ length held.history
  count = ap (λ (q : Paragraph). length q.history) held_is ∙ length-map held.history entry_held

  short : length print ≤ most_print → Passes book None command (rank (Full Entries))
  short h = to_rank book command (rank (Full Tables)) (rank (Full Entries)) to_entries (past_lengths book command passes text (not_longer most_print (new_print book command) print made h) note)

  few : length print ≤ most_print → length held.history < most_entries → Passes book None command (rank (Full Marks))
  few h room =
      Passes-past book None command (Full Entries) (rank (Full Marks)) refl (short h)
      (λ f. let full = IsSomeAnd-value at_limit there (IsSomeAnd-value (λ (n : ℕ). IsSomeAnd (paragraph_of book n) at_limit) grows f) in
      omega (arith, count))

  left : length print ≤ most_print → length held.history < most_entries → book.version < most_version → Passes book None command undefined_rank
  left h room version = to_rank book command bad_table_rank undefined_rank to_print (past_version book command (rank (Full Marks)) (few h room) to_version version)

  pub halted : (reported : Refusal) → HaltsEntry book held (length print) reported → IsTurnedDown book command reported
  halted reported (inl (is, long)) = too_long book command reported print passes made long is
  halted reported (inr (inl (is, h, full))) =
      turned_down book command (rank (Full Entries)) (Full Entries) reported (short h) refl (IsSomeAnd-of (λ (n : ℕ). IsSomeAnd (paragraph_of book n) at_limit) grows
      (IsSomeAnd-of at_limit there (omega (arith, count, full)))) is
  halted reported (inr (inr (is, h, room, full))) = full_version book command (rank (Full Marks)) reported (few h room) to_version full is

  module _ (n : ℕ) (asks : (named_by command).rank_after_asking ≡ Some n) (soon : n ≤ undefined_rank) (takes : TakesEntry book held (length print)) where
    pub lacking : (reported : Refusal) → reported ≡ NoMemory → IsTurnedDown book command reported
    lacking reported is = no_memory book command reported n asks (λ other h. let after = left takes.short takes.few takes.left other h in omega arith) is

    pub undefined : (reported : Refusal) → HaltsPrint meaning print reported → IsTurnedDown book command reported
    undefined reported (inl (place, is, first)) =
        turned_down book command undefined_rank (Undefined place) reported (left takes.short takes.few takes.left) refl
        (record { print = print; name = p.table; print_is = shown; text = source; meaning = meaning; found = found; means = means; first = first }) is
    undefined reported (inr is) = lacking reported is

  pub accepts_entry : length print ≤ most_print → length held.history < most_entries → book.version < most_version → AreDefined meaning print → IsAccepted book None command
  accepts_entry h room version defined =
      accepted_after book command untranslatable_rank (past_print book command p.table print table shown (record { found = found; means = means }) (left h room version) defined) to_end
