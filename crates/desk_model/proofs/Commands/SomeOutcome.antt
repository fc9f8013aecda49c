-- Each command on a sound book has an outcome, and only one.
use Rattle.std.proofs.Common.{◌≡◌, ◌⊎◌, ℕ, ◌+◌, true, List, [], ◌∷◌, ◌++◌, Option, Some, None, refl, sym, ap, subst, ◌∙◌, inl, inr}
use Rattle.desk_model.specs.declared.command.Command.{Command}
use Rattle.desk_model.specs.declared.command.Command.TheVariants.{Undo, Mark}
use Rattle.desk_model.specs.declared.refusal.Limit.{Limit}
use Rattle.desk_model.specs.declared.refusal.Limit.TheVariants.{Tables, Paragraphs, Entries, Marks, Version}
use Rattle.desk_model.specs.declared.refusal.Refusal.{Refusal}
use Rattle.desk_model.specs.declared.refusal.Refusal.TheVariants.{BadName, BadReader, BadSpan, BadTable, BadText, Full, Moved, NoMark, NoMemory, NoParagraph, NoTable, NotStruck, NothingToUndo, Resolved, Struck, TooLong, Undefined, Untranslatable}
use Rattle.desk_model.specs.After.{After}
use Rattle.desk_model.specs.Book.{Book, Paragraph, Replacement, Undoes, new_mark, paragraph_of}
use Rattle.desk_model.specs.Judging.{Passes}
use Rattle.desk_model.specs.Marks.{mark_moved_back}
use Rattle.desk_model.specs.Outcome.{HasOneOutcome}
use Rattle.desk_model.specs.Print.{newest}
use Rattle.desk_model.specs.Refusals.{Holds, IsAccepted, IsRefused}
use Rattle.desk_model.specs.Sound.{IsSound}
use Rattle.desk_model.specs.Translation.{AreMarked}
use Rattle.desk_model.specs.NextBook.{Makes, next_with_entry, next_with_marks, next_mark}
use Rattle.desk_model.specs.Ranks.{bad_table_rank, bad_text_rank, rank, undefined_rank, untranslatable_rank}
use Rattle.desk_model.proofs.Commands.Accepted.{named_paragraph}
use Rattle.desk_model.proofs.Commands.Judging.{IsAccepted-passes, IsRefused-passes, NoneHolds, Passes-past, Passes-start, skips}
use Rattle.desk_model.proofs.Commands.MarkedPlaces.{one_span, some_span}
use Rattle.desk_model.proofs.Lists.Members.{Contains-here}
use Rattle.desk_model.proofs.Commands.OneRefusal.{one_refusal}
use Rattle.desk_model.proofs.Books.SoundBooks.{IsSoundParagraph-found}
use Rattle.desk_model.proofs.Lists.Decisions.{Decided, SomeOrNone}
use Rattle.desk_model.proofs.Lists.Options.{IsSomeAnd-of}
use Rattle.desk_model.proofs.Commands.RefusalTests.{bad_name, bad_reader, bad_span, bad_table, bad_text, is_full, is_not_struck, is_resolved, is_struck, lacks_mark, lacks_paragraph, lacks_table, moved_or, nothing_to_undo, too_long, undefined, untranslatable}
use Rattle.std.proofs.lemmas.Option.{same_Some}

-- ---- one rank after the other

module _ (book : Book) (expect : Option ℕ) (command : Command) where
  abbrev Told : Type 0
  Told = (refusal : Refusal) × IsRefused book expect command refusal

  -- a refusal is reported, or none of a rank below n holds
  abbrev Judged : ℕ → Type 0
  Judged n = Told ⊎ Passes book expect command n

  judged : (n m : ℕ) (refusal : Refusal) → rank refusal ≡ n → Decided (Holds book expect command refusal)
      → (Passes book expect command n → ¬ Holds book expect command refusal → Passes book expect command m) → Judged n → Judged m
  judged n m refusal at held more (inl reported) = inl reported
  judged n m refusal at (inl holds) more (inr passes) = inl (refusal, IsRefused-passes book expect command n refusal passes at holds)
  judged n m refusal at (inr not_held) more (inr passes) = inr (more passes not_held)

  judged_by : {X : Type 0} (n : ℕ) (N : Type 0) (refusal : X → Refusal) → ((x : X) → rank (refusal x) ≡ n) → SomeOrNone (λ x. Holds book expect command (refusal x))
      → (Passes book expect command n → ((x : X) → ¬ Holds book expect command (refusal x)) → N) → Judged n → Told ⊎ N
  judged_by n N refusal at held more (inl reported) = inl reported
  judged_by n N refusal at (inl holds) more (inr passes) = inl (refusal holds.0, IsRefused-passes book expect command n (refusal holds.0) passes (at holds.0) holds.1)
  judged_by n N refusal at (inr not_held) more (inr passes) = inr (more passes not_held)

  past : (refusal : Refusal) (m : ℕ) → skips command (rank refusal + 1) m ≡ true → Passes book expect command (rank refusal) → NoneHolds book expect command refusal → Passes book expect command m
  past = Passes-past book expect command

  full_or : (limit : Limit) → skips command (rank (Full limit) + 1) (rank (Full limit) + 10) ≡ true → Judged (rank (Full limit)) → Judged (rank (Full limit) + 10)
  full_or limit skip = judged (rank (Full limit)) (rank (Full limit) + 10) (Full limit) refl (is_full book command limit) (past (Full limit) (rank (Full limit) + 10) skip)

  to_lookups : Judged (rank Struck)
  to_lookups =
      let moved : Judged (rank BadName) = judged_by 0 (Passes book expect command (rank BadName)) Moved (λ v. refl) (moved_or book command expect) (past (Moved 0) (rank BadName) refl) (inr (Passes-start book expect command)) in
      let named : Judged (rank BadReader) = judged (rank BadName) (rank BadReader) BadName refl (bad_name book command) (past BadName (rank BadReader) refl) moved in
      let proofreader : Judged bad_text_rank = judged (rank BadReader) bad_text_rank BadReader refl (bad_reader book command) (past BadReader bad_text_rank refl) named in
      let text : Judged (rank NoParagraph) = judged_by bad_text_rank (Passes book expect command (rank NoParagraph)) BadText (λ place. refl) (bad_text book command) (past (BadText 0) (rank NoParagraph) refl) proofreader in
      let paragraph : Judged (rank NoTable) = judged (rank NoParagraph) (rank NoTable) NoParagraph refl (lacks_paragraph book command) (past NoParagraph (rank NoTable) refl) text in
      let table : Judged (rank NoMark) = judged (rank NoTable) (rank NoMark) NoTable refl (lacks_table book command) (past NoTable (rank NoMark) refl) paragraph in
      judged (rank NoMark) (rank Struck) NoMark refl (lacks_mark book command) (past NoMark (rank Struck) refl) table

  to_limits : Judged (rank (Full Tables))
  to_limits =
      let struck : Judged (rank NotStruck) = judged (rank Struck) (rank NotStruck) Struck refl (is_struck book command) (past Struck (rank NotStruck) refl) to_lookups in
      let live : Judged (rank Resolved) = judged (rank NotStruck) (rank Resolved) NotStruck refl (is_not_struck book command) (past NotStruck (rank Resolved) refl) struck in
      let resolved : Judged (rank BadSpan) = judged (rank Resolved) (rank BadSpan) Resolved refl (is_resolved book command) (past Resolved (rank BadSpan) refl) live in
      let span : Judged (rank NothingToUndo) = judged (rank BadSpan) (rank NothingToUndo) BadSpan refl (bad_span book command) (past BadSpan (rank NothingToUndo) refl) resolved in
      let nothing : Judged (rank TooLong) = judged (rank NothingToUndo) (rank TooLong) NothingToUndo refl (nothing_to_undo book command) (past NothingToUndo (rank TooLong) refl) span in
      judged (rank TooLong) (rank (Full Tables)) TooLong refl (too_long book command) (past TooLong (rank (Full Tables)) refl) nothing

  reported_or_accepted : Told ⊎ IsAccepted book expect command
  reported_or_accepted =
      let limits : Judged bad_table_rank = full_or Version refl (full_or Marks refl (full_or Entries refl (full_or Paragraphs refl (full_or Tables refl to_limits)))) in
      let table : Judged undefined_rank = judged_by bad_table_rank (Passes book expect command undefined_rank) BadTable (λ fault. refl) (bad_table book command) (past (BadTable (record { line = 0; cause = 0 })) undefined_rank refl) limits in
      let shown : Judged untranslatable_rank = judged_by undefined_rank (Passes book expect command untranslatable_rank) Undefined (λ place. refl) (undefined book command) (past (Undefined 0) untranslatable_rank refl) table in
      judged_by untranslatable_rank (IsAccepted book expect command) (λ at. Untranslatable at.0 at.1) (λ at. refl) (untranslatable book command)
      (λ p none. IsAccepted-passes book expect command (past (Untranslatable 0 0) (rank NoMemory) refl p (λ id place. none (id, place)))) shown

-- ---- the next book

one_next : (book : Book) (command : Command) (next other : Book) → Makes book command next → Makes book command other → next ≡ other
one_next book (Undo id) next other (n, r, newest_is, is) (m, s, newest_too, at) =
    let paragraphs = same_Some newest_is.paragraph newest_too.paragraph (sym newest_is.found ∙ newest_too.found) in
    let both : (n, r) ≡ (m, s) = same_Some (n, r) (m, s) (sym newest_is.newest_is ∙ (ap (λ (p : Paragraph). newest p.history) paragraphs ∙ newest_too.newest_is)) in
    is ∙ (ap (λ (e : ℕ × Replacement). next_with_entry book id (Undoes e.0) (mark_moved_back e.1)) both ∙ sym at)
one_next book (Mark id cell count note) next other (start, end, marked, is) (first, last, marks, at) =
    let both = one_span book id cell count start end first last marked marks in
    is ∙ ((λ i. next_with_marks book (book.marks ++ new_mark (next_mark book) id (both.0 i) (both.1 i) note ∷ [])) ∙ sym at)
one_next book command next other is at = is ∙ sym at

marked_next : (book : Book) (id cell count : ℕ) (note : List ℕ) (start end : ℕ) → AreMarked book id cell count start end → (next : Book) × Makes book (Mark id cell count note) next
marked_next book id cell count note start end marked =
    (next_with_marks book (book.marks ++ new_mark (next_mark book) id start end note ∷ []), (start, end, marked, refl))

some_next : (book : Book) (expect : Option ℕ) (command : Command) → IsSound book → IsAccepted book expect command → (next : Book) × Makes book command next
some_next book expect (Undo id) sound accepted =
    let p = named_paragraph book expect (Undo id) accepted id (Contains-here id []) in
    by p.0 (newest p.0.history) p.1 refl
  where
    by : (p : Paragraph) (o : Option (ℕ × Replacement)) → paragraph_of book id ≡ Some p → newest p.history ≡ o → (next : Book) × Makes book (Undo id) next
    by p None found none = absurd (accepted NothingToUndo (IsSomeAnd-of (λ (q : Paragraph). newest q.history ≡ None) found none))
    by p (Some c) found is = (next_with_entry book id (Undoes c.0) (mark_moved_back c.1), (c.0, c.1, record { paragraph = p; found = found; newest_is = is }, refl))
some_next book expect (Mark id cell count note) sound accepted =
    let p = named_paragraph book expect (Mark id cell count note) accepted id (Contains-here id []) in
    let s = IsSoundParagraph-found book sound id p.0 p.1 in
    let span = some_span book id cell count p.0 s.text s.meaning p.1 s.found s.means s.defined (accepted BadSpan) in
    marked_next book id cell count note span.0 span.1 span.2
some_next book expect command sound accepted = (_, refl)

pub one_outcome : (book : Book) (expect : Option ℕ) (command : Command) → IsSound book → HasOneOutcome book expect command
one_outcome book expect command sound =
    elim (reported_or_accepted book expect command) [
      | inl reported ↦ inl (record { refusal = reported.0; reported = reported.1; only = λ other h. one_refusal book expect command other reported.0 h reported.1 })
      | inr accepted ↦
          let next = some_next book expect command sound accepted in
          inr (record { accepted = accepted; next = next.0; makes = next.1; only = λ other h. one_next book command other next.0 h next.1 })
    ]

pub one_after : (commands : List Command) (book last other : Book) → After book commands last → After book commands other → last ≡ other
one_after [] book last other is at = is ∙ sym at
one_after (command ∷ commands) book last other (accepted, (next, makes, after)) (also, (then, made, behind)) =
    one_after commands next last other after (subst (λ (b : Book). After b commands other) (one_next book command then next made makes) behind)
