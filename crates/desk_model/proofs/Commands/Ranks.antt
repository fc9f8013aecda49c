-- How a command is checked while no version is expected, by what it names.
use Rattle.std.proofs.Common.{◌≡◌, ℕ, zero, suc, ◌<◌, ◌≤◌, true, false, List, [], ◌∷◌, length, Option, Some, None, refl, ap, subst, ◌∙◌, arith, inl, inr, Contains, option_and_then, IsSome, IsSomeAnd, is_some, option_map}
use Rattle.std.proofs.lemmas.Bool.{both_ways}
use Rattle.louis_table.specs.Meaning.{Meaning}
use Rattle.louis_translate.specs.Position.{AreDefined, IsFirstUndefined}
use Rattle.desk_model.specs.declared.command.Command.{Command}
use Rattle.desk_model.specs.declared.refusal.Limit.TheVariants.{Entries, Paragraphs, Tables, Version}
use Rattle.desk_model.specs.declared.refusal.Refusal.TheVariants.{BadName, BadText, Full, Moved, NoMark, NoMemory, NoParagraph, NoTable, NotStruck, Struck, TooLong}
use Rattle.desk_model.specs.Book.{Book, Paragraph, paragraph_of, text_of}
use Rattle.desk_model.specs.Judging.{Passes}
use Rattle.desk_model.specs.Limits.{most_note, most_paragraphs, most_print, most_version}
use Rattle.desk_model.specs.Named.{Changed, named_by}
use Rattle.desk_model.specs.Refusals.{Holds, IsAccepted, IsLongerThan, new_print, print_and_table, print_made}
use Rattle.desk_model.specs.BookTexts.{IsUnbarred, IsFirstBarred}
use Rattle.desk_model.specs.Ranks.{bad_table_rank, bad_text_rank, rank}
use Rattle.desk_model.proofs.Commands.Judging.{IsAccepted-passes, Passes-past, Passes-skip, Passes-start, skips}
use Rattle.desk_model.proofs.Commands.TextTests.{IsUnbarred-none}
use Rattle.desk_model.proofs.Lists.Options.{IsSomeAnd-value}

-- a table that defines a print leaves no first character of it undefined
pub defined_not_first : (meaning : Meaning) (print : List ℕ) (place : ℕ) → AreDefined meaning print → ¬ IsFirstUndefined meaning print place
defined_not_first meaning print place defined first = let there = defined place first.within in let none = first.undefined in cc (ap is_some none)

-- ---- a print that changes

module _ (book : Book) (id : ℕ) (change : Paragraph → Option (List ℕ)) (p : Paragraph) (print : List ℕ) (found : paragraph_of book id ≡ Some p) (makes : change p ≡ Some print) where
  pub changed-print : print_made book (Changed id change) ≡ Some print
  changed-print = ap (option_and_then change) found ∙ makes

  pub changed-translated : print_and_table book (Changed id change) ≡ Some (print, p.table)
  changed-translated =
      ap (option_and_then (λ (q : Paragraph). option_map (λ (t : List ℕ). (t, q.table)) (change q))) found ∙ ap (option_map (λ (t : List ℕ). (t, p.table))) makes

-- ---- lengths

-- a text that is no longer than so many characters
pub not_longer : (most : ℕ) (o : Option (List ℕ)) (text : List ℕ) → o ≡ Some text → length text ≤ most → ¬ IsLongerThan most o
not_longer most o text is short h = let long = IsSomeAnd-value (λ (t : List ℕ). most < length t) is h in omega arith

-- ---- ranks

module _ (book : Book) (command : Command) where
  -- the ranks before the first that it doesn't skip
  pub passes_to : (n : ℕ) → skips command (rank BadName) n ≡ true → Passes book None command n
  passes_to n skip = Passes-skip book None command (rank BadName) n skip (Passes-past book None command (Moved 0) (rank BadName) refl (Passes-start book None command) (λ version moved. let given = moved.given in cc))

  pub to_rank : (n m : ℕ) → skips command n m ≡ true → Passes book None command n → Passes book None command m
  to_rank n m skip = Passes-skip book None command n m skip

  pub past_table : (name text : List ℕ) → Passes book None command (rank NoTable) → (named_by command).table_named ≡ Some name → text_of book name ≡ Some text → Passes book None command (rank NoMark)
  past_table name text passes named found =
      Passes-past book None command NoTable (rank NoMark) refl passes
      (λ lacks. let missing = IsSomeAnd-value (λ (n : List ℕ). text_of book n ≡ None) named lacks in cc (found, missing))

  pub past_text : (text : List ℕ) → Passes book None command bad_text_rank → (named_by command).text_given ≡ Some text → IsUnbarred text → Passes book None command (rank NoParagraph)
  past_text text passes given unbarred =
      Passes-past book None command (BadText 0) (rank NoParagraph) refl passes
      (λ place b. IsUnbarred-none text place unbarred (IsSomeAnd-value (λ (t : List ℕ). IsFirstBarred t place) given b))

  -- no text, print or note is over its limit
  pub past_lengths : Passes book None command (rank TooLong) → ¬ IsLongerThan most_print (named_by command).text_stored → ¬ IsLongerThan most_print (new_print book command)
      → ¬ IsLongerThan most_note (named_by command).note_given → Passes book None command (rank (Full Tables))
  past_lengths passes text print note = Passes-past book None command TooLong (rank (Full Tables)) refl passes none
    where
      none : ¬ Holds book None command TooLong
      none (inl h) = text h
      none (inr (inl h)) = print h
      none (inr (inr h)) = note h

  pub past_length : (print : List ℕ) → Passes book None command (rank TooLong) → new_print book command ≡ Some print → (named_by command).text_stored ≡ Some print → (named_by command).note_given ≡ None
      → length print ≤ most_print → Passes book None command (rank (Full Tables))
  past_length print passes made given none short =
      past_lengths passes (not_longer most_print (named_by command).text_stored print given short) (not_longer most_print (new_print book command) print made short) (subst (IsLongerThan most_note) none)

  pub past_room : Passes book None command (rank (Full Paragraphs)) → length book.paragraphs < most_paragraphs → Passes book None command (rank (Full Entries))
  past_room passes left = Passes-past book None command (Full Paragraphs) (rank (Full Entries)) refl passes (λ full. let most = full.1 in omega arith)

  pub past_version : (n : ℕ) → Passes book None command n → skips command n (rank (Full Version)) ≡ true → book.version < most_version → Passes book None command bad_table_rank
  past_version n passes skip left = Passes-past book None command (Full Version) bad_table_rank refl (Passes-skip book None command n (rank (Full Version)) skip passes) (λ full. omega arith)

  pub accepted_after : (n : ℕ) → Passes book None command n → skips command n (rank NoMemory) ≡ true → IsAccepted book None command
  accepted_after n passes skip = IsAccepted-passes book None command (Passes-skip book None command n (rank NoMemory) skip passes)

  -- the one paragraph that it names is there
  pub past_one : (id : ℕ) (p : Paragraph) → (named_by command).paragraphs_named ≡ id ∷ [] → paragraph_of book id ≡ Some p → Passes book None command (rank NoParagraph) → Passes book None command (rank NoTable)
  past_one id p named found passes =
      Passes-past book None command NoParagraph (rank NoTable) refl passes
      (λ lacks. let is = there lacks.0 (subst (λ (ids : List ℕ). Contains ids lacks.0) named lacks.1) in let missing = lacks.2 in cc (ap is_some missing))
    where
      there : (other : ℕ) → Contains (id ∷ []) other → IsSome (paragraph_of book other)
      there other (zero, within, at) = subst (λ (n : ℕ). IsSome (paragraph_of book n)) at (ap is_some found)
      there other (suc i, within, at) = absurd (omega arith)

-- ---- one paragraph, which may not be struck

module _ (book : Book) (command : Command) (id : ℕ) (named : (named_by command).paragraphs_named ≡ id ∷ []) (live : (named_by command).live_paragraph ≡ Some id) (skip : skips command (rank NoTable) (rank Struck) ≡ true)
    (passes : Passes book None command (rank NoParagraph)) where
  pub past_there : (p : Paragraph) → paragraph_of book id ≡ Some p → Passes book None command (rank Struck)
  past_there p found = to_rank book command (rank NoTable) (rank Struck) skip (past_one book command id p named found passes)

  pub past_fit : (p : Paragraph) → paragraph_of book id ≡ Some p → p.struck ≡ false → Passes book None command (rank NotStruck)
  past_fit p found free =
      Passes-past book None command Struck (rank NotStruck) refl (past_there p found) (λ s. both_ways p.struck free
      (IsSomeAnd-value (λ (q : Paragraph). q.struck ≡ true) found
      (IsSomeAnd-value (λ (n : ℕ). IsSomeAnd (paragraph_of book n) (λ q. q.struck ≡ true)) live s)))
