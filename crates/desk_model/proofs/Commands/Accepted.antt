-- What is true of a command because no refusal holds of it.
use Rattle.std.proofs.Common.{◌≡◌, ℕ, ◌<◌, ◌≤◌, List, length, Option, Some, None, Contains, true, refl, ap, inl, inr, All, position, IsSomeAnd, is_some}
use Rattle.louis_table.specs.Meaning.{Meaning}
use Rattle.louis_table.specs.Table.{Bad, Means}
use Rattle.louis_table.proofs.OneMeaning.{some_meaning}
use Rattle.louis_translate.specs.Position.{AreDefined}
use Rattle.desk_model.specs.declared.command.Command.{Command}
use Rattle.desk_model.specs.declared.refusal.Limit.TheVariants.{Tables, Paragraphs, Entries, Marks, Version}
use Rattle.desk_model.specs.declared.refusal.Refusal.TheVariants.{BadName, BadReader, BadText, NoParagraph, NoTable, TooLong, Full, BadTable, Undefined, Untranslatable}
use Rattle.desk_model.specs.Book.{Book, Paragraph, text_of, paragraph_of}
use Rattle.desk_model.specs.Limits.{most_entries, most_marks, most_note, most_version, most_tables, most_paragraphs, most_print}
use Rattle.desk_model.specs.ValidNames.{IsProofreaderName, IsTableName}
use Rattle.desk_model.specs.BookTexts.{IsFirstBarred, IsUnbarred, is_barred}
use Rattle.desk_model.specs.Named.{named_by}
use Rattle.desk_model.specs.Refusals.{DefinesUser, IsAccepted, new_print, print_to_translate}
use Rattle.desk_model.proofs.Lists.Options.{IsSomeAnd-of, given_unless}
use Rattle.desk_model.proofs.Commands.TextTests.{IsFirstBarred-position, IsUnbarred-position}
use Rattle.desk_model.proofs.Commands.FirstUndefined.{defined_or_first, all_or_first_user}
use Rattle.desk_model.proofs.Lists.Decisions.{at_most_unless, below_unless}
use Rattle.desk_model.proofs.Lists.Stable.{is_reader_name, is_table_name, stable}

module _ (book : Book) (expect : Option ℕ) (command : Command) (accepted : IsAccepted book expect command) where
  pub room_for_version : book.version < most_version
  room_for_version = below_unless book.version most_version (accepted (Full Version))

  -- each paragraph that it names is there
  pub named_paragraph : (id : ℕ) → Contains (named_by command).paragraphs_named id → (paragraph : Paragraph) × (paragraph_of book id ≡ Some paragraph)
  named_paragraph id named = given_unless (paragraph_of book id) (λ none. accepted NoParagraph (id, named, none))

  -- the table that a paragraph is to use is there
  pub named_table : (name : List ℕ) → (named_by command).table_named ≡ Some name → (text : List ℕ) × (text_of book name ≡ Some text)
  named_table name named = given_unless (text_of book name) (λ none. accepted NoTable (IsSomeAnd-of (λ (n : List ℕ). text_of book n ≡ None) named none))

  -- the print that it gives to a paragraph is defined
  pub shown_defined : (print name text : List ℕ) (meaning : Meaning) → print_to_translate book command ≡ Some (print, name) → text_of book name ≡ Some text → Means text meaning → AreDefined meaning print
  shown_defined print name text meaning shown found means =
      elim (defined_or_first meaning print) [
        | inl defined ↦ defined
        | inr first ↦ absurd (accepted (Undefined first.0) (record { print = print; name = name; print_is = shown; text = text; meaning = meaning; found = found; means = means; first = first.1 }))
      ]

  -- the print that it gives to a paragraph is short
  pub short_print : (print : List ℕ) → new_print book command ≡ Some print → length print ≤ most_print
  short_print print made =
      at_most_unless (length print) most_print (λ long. accepted TooLong (inr (inl (IsSomeAnd-of (λ (t : List ℕ). most_print < length t) made long))))

  pub room_for_paragraph : (named_by command).adds_paragraph ≡ true → length book.paragraphs < most_paragraphs
  room_for_paragraph adds = below_unless (length book.paragraphs) most_paragraphs (λ full. accepted (Full Paragraphs) (adds, full))

  -- ---- the text of a table

  module _ (name text : List ℕ) (given : (named_by command).table_given ≡ Some (name, text)) where
    pub given_name : IsTableName name
    given_name = stable (is_table_name name) (λ bad. accepted BadName (IsSomeAnd-of (λ (e : List ℕ × List ℕ). ¬ IsTableName e.0) given bad))

    pub given_meaning : (meaning : Meaning) × Means text meaning
    given_meaning =
        elim (some_meaning text) [
          | inl h ↦ h
          | inr bad ↦ absurd (accepted (BadTable (record { line = bad.0; cause = bad.1 })) (IsSomeAnd-of (λ (e : List ℕ × List ℕ). Bad e.1 bad.0 bad.1) given bad.2))
        ]

    pub room_for_table : text_of book name ≡ None → length book.tables < most_tables
    room_for_table new =
        below_unless (length book.tables) most_tables (λ full. accepted (Full Tables)
        (IsSomeAnd-of (λ (e : List ℕ × List ℕ). (text_of book e.0 ≡ None) × (most_tables ≤ length book.tables)) given (new, full)))

    -- by its new text the table defines the print of each paragraph that uses it
    pub users_defined : (meaning : Meaning) → Means text meaning → All (DefinesUser meaning name) book.paragraphs
    users_defined meaning means =
        elim (all_or_first_user meaning name book.paragraphs) [
          | inl all ↦ all
          | inr found ↦ absurd (accepted (Untranslatable found.0 found.1) (record { name = name; text = text; given = given; meaning = meaning; means = means; user = found.2 }))
        ]

  -- ---- corrections and marks

  -- a text that is given has no barred character
  pub given_unbarred : (text : List ℕ) → (named_by command).text_given ≡ Some text → IsUnbarred text
  given_unbarred text given = by (position is_barred text) refl
    where
      by : (o : Option ℕ) → position is_barred text ≡ o → IsUnbarred text
      by None e = IsUnbarred-position text e
      by (Some place) e = absurd (accepted (BadText place) (IsSomeAnd-of (λ (t : List ℕ). IsFirstBarred t place) given (IsFirstBarred-position text place e)))

  pub given_proofreader : (name : List ℕ) → (named_by command).proofreader_given ≡ Some name → IsProofreaderName name
  given_proofreader name given = stable (is_reader_name name) (λ bad. accepted BadReader (IsSomeAnd-of (λ (n : List ℕ). ¬ IsProofreaderName n) given bad))

  pub room_for_entry : (id : ℕ) (paragraph : Paragraph) → (named_by command).history_grown ≡ Some id → paragraph_of book id ≡ Some paragraph → length paragraph.history < most_entries
  room_for_entry id paragraph grows found =
      below_unless (length paragraph.history) most_entries (λ full. accepted (Full Entries)
      (IsSomeAnd-of (λ (n : ℕ). IsSomeAnd (paragraph_of book n) (λ p. most_entries ≤ length p.history)) grows
      (IsSomeAnd-of (λ (p : Paragraph). most_entries ≤ length p.history) found full)))

  pub short_note : (note : List ℕ) → (named_by command).note_given ≡ Some note → length note ≤ most_note
  short_note note given =
      at_most_unless (length note) most_note (λ long. accepted TooLong (inr (inr (IsSomeAnd-of (λ (t : List ℕ). most_note < length t) given long))))

  pub room_for_mark : (note : List ℕ) → (named_by command).note_given ≡ Some note → length book.marks < most_marks
  room_for_mark note given = below_unless (length book.marks) most_marks (λ full. accepted (Full Marks) (ap is_some given, full))
