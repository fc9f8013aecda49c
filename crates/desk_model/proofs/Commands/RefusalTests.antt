-- Of each refusal it is decided whether it holds of a command.
use Rattle.std.proofs.Common.{◌≡◌, ℕ, ◌+◌, ◌<◌, ◌≤◌, true, false, List, length, Option, Some, None, refl, sym, ap, subst, ◌∙◌, inl, inr, position, IsSomeAnd, is_some}
use Rattle.std.proofs.lemmas.Bool.{cases_eq}
use Rattle.louis_table.proofs.OneMeaning.{means_or_bad, one_meaning, some_meaning}
use Rattle.louis_table.specs.Meaning.{Meaning}
use Rattle.louis_table.specs.Table.{Bad, Means}
use Rattle.louis_translate.proofs.Tilings.{one_tiling}
use Rattle.louis_translate.specs.Braille.{braille}
use Rattle.louis_translate.specs.Position.{IsFirstUndefined}
use Rattle.desk_model.specs.declared.command.Command.{Command}
use Rattle.desk_model.specs.declared.refusal.Limit.{Limit}
use Rattle.desk_model.specs.declared.refusal.Limit.TheVariants.{Tables, Paragraphs, Entries, Marks, Version}
use Rattle.desk_model.specs.declared.refusal.Refusal.TheVariants.{BadName, BadReader, BadSpan, BadTable, BadText, NoMark, NoParagraph, NoTable, NotStruck, NothingToUndo, Resolved, Struck, TooLong}
use Rattle.louis_table.specs.declared.fault.TableFault.{TableFault}
use Rattle.desk_model.specs.Book.{Book, Mark as BookMark, Paragraph, mark_of, paragraph_of, text_of}
use Rattle.desk_model.specs.Limits.{most_entries, most_marks, most_note, most_paragraphs, most_print, most_tables, most_version}
use Rattle.desk_model.specs.ValidNames.{IsProofreaderName, IsTableName}
use Rattle.desk_model.specs.Named.{Cells, Characters, Span, named_by}
use Rattle.desk_model.specs.Refusals.{Holds, IsFirstUser, IsFull, IsLongerThan, IsMoved, IsUndefined, IsUntranslatable, LacksSpan, new_print, print_to_translate}
use Rattle.desk_model.specs.Print.{newest, print_of}
use Rattle.desk_model.specs.BookTexts.{IsFirstBarred, is_barred}
use Rattle.desk_model.specs.Translation.{LacksCells}
use Rattle.desk_model.proofs.Commands.FirstUndefined.{IsFirstUser-none, all_or_first_user, defined_or_first}
use Rattle.desk_model.proofs.Commands.MarkedPlaces.{has_cells}
use Rattle.desk_model.proofs.Commands.Ranks.{defined_not_first}
use Rattle.desk_model.proofs.Commands.TextTests.{IsFirstBarred-position, IsUnbarred-none, IsUnbarred-position}
use Rattle.desk_model.proofs.Lists.Decisions.{Decided, SomeOrNone, at_most, below, both, either, is_none, is_so, isnt_so, not, of_given, at_most_unless}
use Rattle.std.proofs.lemmas.Option.{same_Some}
use Rattle.desk_model.proofs.Lists.Stable.{among, is_reader_name, is_table_name, same_nat}

-- ---- by a paragraph of the book

module _ (book : Book) where
  -- the paragraph with this id is there, and something holds of it
  there : (P : Paragraph → Type 0) → ((p : Paragraph) → Decided (P p)) → (id : ℕ) → Decided (IsSomeAnd (paragraph_of book id) P)
  there P test id = of_given P test (paragraph_of book id)

  lacks_cells : (id cell count : ℕ) → Decided (LacksCells book id cell count)
  lacks_cells id cell count = by (paragraph_of book id) refl
    where
      seen : (p : Paragraph) (text : List ℕ) (meaning : Meaning) → paragraph_of book id ≡ Some p → text_of book p.table ≡ Some text → Means text meaning → Decided (LacksCells book id cell count)
      seen p text meaning found has means =
          let t = one_tiling meaning (print_of p) in
          elim (either (same_nat count 0) (below (length (braille meaning (print_of p) t.0)) (cell + count))) [
            | inl lacks ↦ inl (record {
              paragraph = p;
              found = found;
              meaning = meaning;
              choices = t.0;
              translated = record { text = text; found = has; means = means; tiles = t.1 };
              lacks = lacks;
            })
            | inr enough ↦ inr (has_cells book id cell count (record { paragraph = p; meaning = meaning; choices = t.0 })
                (found, record { text = text; found = has; means = means; tiles = t.1 }) (λ none. enough (inl none))
                (at_most_unless (cell + count) (length (braille meaning (print_of p) t.0)) (λ past. enough (inr past))))
          ]

      tabled : (p : Paragraph) (o : Option (List ℕ)) → paragraph_of book id ≡ Some p → text_of book p.table ≡ o → Decided (LacksCells book id cell count)
      tabled p None found none =
          inr (λ l. let same = same_Some l.paragraph p (sym l.found ∙ found) in let has = l.translated.found in cc (ap (λ (q : Paragraph). text_of book q.table) same, none, has))
      tabled p (Some text) found has =
          elim (some_meaning text) [
            | inl means ↦ seen p text means.0 found has means.1
            | inr bad ↦ inr (λ l.
                let same = same_Some l.paragraph p (sym l.found ∙ found) in
                let texts = same_Some l.translated.text text (sym l.translated.found ∙ (ap (λ (q : Paragraph). text_of book q.table) same ∙ has)) in
                means_or_bad text l.meaning bad.0 bad.1 (subst (λ (x : List ℕ). Means x l.meaning) texts l.translated.means) bad.2)
          ]

      by : (o : Option Paragraph) → paragraph_of book id ≡ o → Decided (LacksCells book id cell count)
      by None none = inr (λ l. let found = l.found in cc (none, found))
      by (Some p) found = tabled p (text_of book p.table) found refl

-- ---- the refusals without numbers

module _ (book : Book) (command : Command) where
  pub bad_name : Decided (Holds book None command BadName)
  bad_name = of_given (λ (given : List ℕ × List ℕ). ¬ IsTableName given.0) (λ given. not (is_table_name given.0)) (named_by command).table_given

  pub bad_reader : Decided (Holds book None command BadReader)
  bad_reader = of_given (λ name. ¬ IsProofreaderName name) (λ name. not (is_reader_name name)) (named_by command).proofreader_given

  pub lacks_paragraph : Decided (Holds book None command NoParagraph)
  lacks_paragraph = among (λ id. paragraph_of book id ≡ None) (λ id. is_none (paragraph_of book id)) (named_by command).paragraphs_named

  pub lacks_table : Decided (Holds book None command NoTable)
  lacks_table = of_given (λ name. text_of book name ≡ None) (λ name. is_none (text_of book name)) (named_by command).table_named

  pub lacks_mark : Decided (Holds book None command NoMark)
  lacks_mark = of_given (λ id. mark_of book id ≡ None) (λ id. is_none (mark_of book id)) (named_by command).mark_named

  pub is_struck : Decided (Holds book None command Struck)
  is_struck =
      of_given (λ id. IsSomeAnd (paragraph_of book id) (λ p. p.struck ≡ true))
      (there book (λ p. p.struck ≡ true) (λ p. is_so p.struck)) (named_by command).live_paragraph

  pub is_not_struck : Decided (Holds book None command NotStruck)
  is_not_struck =
      of_given (λ id. IsSomeAnd (paragraph_of book id) (λ p. p.struck ≡ false))
      (there book (λ p. p.struck ≡ false) (λ p. isnt_so p.struck)) (named_by command).struck_paragraph

  pub is_resolved : Decided (Holds book None command Resolved)
  is_resolved =
      of_given (λ id. IsSomeAnd (mark_of book id) (λ m. m.resolved ≡ true))
      (λ id. of_given (λ (m : BookMark). m.resolved ≡ true) (λ m. is_so m.resolved) (mark_of book id)) (named_by command).mark_named

  pub nothing_to_undo : Decided (Holds book None command NothingToUndo)
  nothing_to_undo =
      of_given (λ id. IsSomeAnd (paragraph_of book id) (λ p. newest p.history ≡ None))
      (there book (λ p. newest p.history ≡ None) (λ p. is_none (newest p.history))) (named_by command).paragraph_undone

  longer : (most : ℕ) (text : Option (List ℕ)) → Decided (IsLongerThan most text)
  longer most text = of_given (λ (characters : List ℕ). most < length characters) (λ characters. below most (length characters)) text

  pub too_long : Decided (Holds book None command TooLong)
  too_long =
      either (longer most_print (named_by command).text_stored)
      (either (longer most_print (new_print book command)) (longer most_note (named_by command).note_given))

  pub is_full : (limit : Limit) → Decided (IsFull book command limit)
  is_full Tables =
      of_given (λ (given : List ℕ × List ℕ). (text_of book given.0 ≡ None) × (most_tables ≤ length book.tables))
      (λ given. both (is_none (text_of book given.0)) (at_most most_tables (length book.tables))) (named_by command).table_given
  is_full Paragraphs = both (is_so (named_by command).adds_paragraph) (at_most most_paragraphs (length book.paragraphs))
  is_full Entries =
      of_given (λ id. IsSomeAnd (paragraph_of book id) (λ p. most_entries ≤ length p.history))
      (there book (λ p. most_entries ≤ length p.history) (λ p. at_most most_entries (length p.history))) (named_by command).history_grown
  is_full Marks = both (is_so (is_some (named_by command).note_given)) (at_most most_marks (length book.marks))
  is_full Version = at_most most_version book.version

lacks_span : (book : Book) (span : Span) → Decided (LacksSpan book span)
lacks_span book (Characters id end) = there book (λ p. length (print_of p) < end) (λ p. below (length (print_of p)) end) id
lacks_span book (Cells id cell count) = lacks_cells book id cell count

pub bad_span : (book : Book) (command : Command) → Decided (Holds book None command BadSpan)
bad_span book command = of_given (LacksSpan book) (lacks_span book) (named_by command).span_named

-- ---- the refusals with numbers

module _ (book : Book) (command : Command) where
  pub moved_or : (expect : Option ℕ) → SomeOrNone (IsMoved book expect)
  moved_or None = inr (λ v h. cc h.given)
  moved_or (Some expected) =
      elim (cases_eq expected book.version) [
        | inl same ↦ inr (λ v h. h.other (sym (same_Some expected h.expected h.given) ∙ same))
        | inr other ↦ inl (book.version, record { expected = expected; given = refl; other = other; reported = refl })
      ]

  pub bad_text : SomeOrNone (λ place. Holds book None command (BadText place))
  bad_text = by (named_by command).text_given
    where
      by : (o : Option (List ℕ)) → SomeOrNone (λ place. IsSomeAnd o (λ text. IsFirstBarred text place))
      by None = inr (λ place h. h)
      by (Some text) = found (position is_barred text) refl
        where
          found : (o : Option ℕ) → position is_barred text ≡ o → SomeOrNone (IsFirstBarred text)
          found None e = inr (λ place h. IsUnbarred-none text place (IsUnbarred-position text e) h)
          found (Some place) e = inl (place, IsFirstBarred-position text place e)

  pub bad_table : SomeOrNone (λ fault. Holds book None command (BadTable fault))
  bad_table = by (named_by command).table_given
    where
      by : (o : Option (List ℕ × List ℕ)) → SomeOrNone (λ (fault : TableFault). IsSomeAnd o (λ given. Bad given.1 fault.line fault.cause))
      by None = inr (λ fault h. h)
      by (Some given) =
          elim (some_meaning given.1) [
            | inl means ↦ inr (λ fault h. means_or_bad given.1 means.0 fault.line fault.cause means.1 h)
            | inr bad ↦ inl (record { line = bad.0; cause = bad.1 }, bad.2)
          ]

  pub undefined : SomeOrNone (IsUndefined book command)
  undefined = by (print_to_translate book command) refl
    where
      seen : (e : List ℕ × List ℕ) (text : List ℕ) (meaning : Meaning) → print_to_translate book command ≡ Some e → text_of book e.1 ≡ Some text → Means text meaning → SomeOrNone (IsUndefined book command)
      seen e text meaning is found means =
          elim (defined_or_first meaning e.0) [
            | inr first ↦ inl (first.0, record { print = e.0; name = e.1; print_is = is; text = text; meaning = meaning; found = found; means = means; first = first.1 })
            | inl defined ↦ inr (λ place h.
                let same = same_Some (h.print, h.name) e (sym h.print_is ∙ is) in
                let texts = same_Some h.text text (sym h.found ∙ (ap (λ (x : List ℕ × List ℕ). text_of book x.1) same ∙ found)) in
                let meanings = one_meaning text h.meaning meaning (subst (λ (t : List ℕ). Means t h.meaning) texts h.means) means in
                defined_not_first meaning e.0 place defined
                (subst (λ (t : List ℕ). IsFirstUndefined meaning t place) (ap (λ (x : List ℕ × List ℕ). x.0) same) (subst (λ (m : Meaning). IsFirstUndefined m h.print place) meanings h.first)))
          ]

      tabled : (e : List ℕ × List ℕ) (o : Option (List ℕ)) → print_to_translate book command ≡ Some e → text_of book e.1 ≡ o → SomeOrNone (IsUndefined book command)
      tabled e None is none = inr (λ place h. let has = h.found in cc (ap (λ (x : List ℕ × List ℕ). text_of book x.1) (same_Some (h.print, h.name) e (sym h.print_is ∙ is)), none, has))
      tabled e (Some text) is found =
          elim (some_meaning text) [
            | inl means ↦ seen e text means.0 is found means.1
            | inr bad ↦ inr (λ place h.
                let same = same_Some (h.print, h.name) e (sym h.print_is ∙ is) in
                let texts = same_Some h.text text (sym h.found ∙ (ap (λ (x : List ℕ × List ℕ). text_of book x.1) same ∙ found)) in
                means_or_bad text h.meaning bad.0 bad.1 (subst (λ (t : List ℕ). Means t h.meaning) texts h.means) bad.2)
          ]

      by : (o : Option (List ℕ × List ℕ)) → print_to_translate book command ≡ o → SomeOrNone (IsUndefined book command)
      by None none = inr (λ place h. let is = h.print_is in cc (none, is))
      by (Some e) is = tabled e (text_of book e.1) is refl

  abbrev pub IsUserOf : ℕ × ℕ → Type 0
  IsUserOf at = IsUntranslatable book command at.0 at.1

  pub untranslatable : SomeOrNone IsUserOf
  untranslatable = by (named_by command).table_given refl
    where
      by : (o : Option (List ℕ × List ℕ)) → (named_by command).table_given ≡ o → SomeOrNone IsUserOf
      by None none = inr (λ at h. let gives = h.given in cc (none, gives))
      by (Some e) gives =
          elim (some_meaning e.1) [
            | inr bad ↦ inr (λ at h.
                let same = same_Some (h.name, h.text) e (sym h.given ∙ gives) in
                means_or_bad e.1 h.meaning bad.0 bad.1 (subst (λ (t : List ℕ). Means t h.meaning) (ap (λ (x : List ℕ × List ℕ). x.1) same) h.means) bad.2)
            | inl means ↦ elim (all_or_first_user means.0 e.0 book.paragraphs) [
              | inr found ↦ inl ((found.0, found.1), record { name = e.0; text = e.1; given = gives; meaning = means.0; means = means.1; user = found.2 })
              | inl defines ↦ inr (λ at h.
                  let same = same_Some (h.name, h.text) e (sym h.given ∙ gives) in
                  let meanings = one_meaning e.1 h.meaning means.0 (subst (λ (t : List ℕ). Means t h.meaning) (ap (λ (x : List ℕ × List ℕ). x.1) same) h.means) means.1 in
                  IsFirstUser-none means.0 e.0 book.paragraphs at.0 at.1 defines
                  (subst (λ (m : Meaning). IsFirstUser m e.0 book.paragraphs at.0 at.1) meanings
                  (subst (λ (name : List ℕ). IsFirstUser h.meaning name book.paragraphs at.0 at.1) (ap (λ (x : List ℕ × List ℕ). x.0) same) h.user)))
            ]
          ]
