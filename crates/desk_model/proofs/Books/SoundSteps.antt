-- An accepted command makes a sound book of a sound book.
use Rattle.std.proofs.Common.{◌≡◌, ℕ, zero, suc, ◌+◌, ◌-◌, ◌<◌, ◌≤◌, true, false, List, [], ◌∷◌, ◌++◌, length, take, get_or, Option, Some, None, Contains, refl, sym, ap, subst, ◌∙◌, arith, inl, inr, nat_cmp, nat_eq, not, option_map, IsPermutation, ◌⊎◌}
use Rattle.std.specs.Cmp.Lexicographic.{pointwise, slice_cmp}
use Rattle.std.proofs.lemmas.Bool.{cases_Bool, both_ways, not-true}
use Rattle.std.specs.List.{All, range_with_len}
use Rattle.std.proofs.lemmas.List.Elements.{All-head, All-nil, All-tail, All-weaker, filter_passes, All-push}
use Rattle.std.proofs.lemmas.List.Sorted.{IsPermutation-refl}
use Rattle.louis_table.specs.Meaning.{Meaning}
use Rattle.louis_table.specs.Table.{Means}
use Rattle.unicode_normalization.specs.Forms.{nfc}
use Rattle.desk_model.specs.declared.command.Anchor.{Anchor}
use Rattle.desk_model.specs.declared.command.Command.{Command}
use Rattle.desk_model.specs.declared.command.Command.TheVariants.{Table, TypeIn, Correct, Undo, Mark, Resolve, Strike, Restore, Style, Volume, Retable, Move}
use Rattle.desk_model.specs.After.{After}
use Rattle.std.proofs.lemmas.List.{length-append, map-append}
use Rattle.louis_translate.specs.Braille.{braille}
use Rattle.louis_translate.specs.Position.{AreDefined}
use Rattle.desk_model.specs.declared.refusal.Refusal.TheVariants.{BadSpan}
use Rattle.desk_model.specs.Book.{Book, Corrects, Mark as BookMark, Paragraph, Replacement, Undoes, new_mark, text_of, empty_book}
use Rattle.desk_model.specs.Marks.{mark_moved, mark_moved_back}
use Rattle.desk_model.specs.Print.{corrected_print, print_of, print_undone, with_entry, with_replacement}
use Rattle.desk_model.specs.Translation.{AreMarked}
use Rattle.desk_model.proofs.Lists.Items.{range_with_len-push}
use Rattle.desk_model.proofs.Commands.CellPlaces.{begins-before, end-within}
use Rattle.desk_model.proofs.Books.HistoryLists.{IsLast-parts, corrected_print-before, corrected_print-corrects, corrected_print-undone, newest-parts}
use Rattle.desk_model.proofs.Books.SoundEntries.{IsSound-resolved, IsSound-with_entry, IsSound-with_marks, IsSoundParagraph-entry, MovesTo-mark_moved_by, length-replaced}
use Rattle.desk_model.specs.Named.{HasCharacters, paragraph_before}
use Rattle.desk_model.specs.Refusals.{DefinesUser, IsAccepted}
use Rattle.desk_model.specs.Limits.{most_tables, most_print}
use Rattle.desk_model.specs.Sound.{IsSoundHistory, IsSoundTable, IsSoundParagraph, IsSoundMark, IsSound}
use Rattle.desk_model.specs.NextBook.{new_paragraph, with_change, with_paragraph, with_move, next_id, IsNewest, next_mark, next_with_entry, next_with_marks, next_with_paragraphs, replacement_by, Makes, next_with_table}
use Rattle.desk_model.specs.BookTexts.{AreCharacters, IsClean, IsUnbarred, is_barred, normal_form}
use Rattle.desk_model.proofs.Lists.Options.{IsSomeAnd-of}
use Rattle.desk_model.proofs.Commands.Accepted.{given_proofreader, given_unbarred, room_for_entry, room_for_mark, short_note, room_for_version, named_paragraph, named_table, shown_defined, short_print, room_for_paragraph, given_name, given_meaning, room_for_table, users_defined}
use Rattle.desk_model.proofs.Commands.Ranks.{changed-print, changed-translated}
use Rattle.desk_model.proofs.Lists.Members.{Contains-here, Contains-behind, Contains-map}
use Rattle.desk_model.proofs.Books.SoundParagraphs.{KeepsText, IsSoundMark-kept, IsSound-changed, IsSound-kept_text, IsSound-reordered, IsSound-with_paragraph}
use Rattle.desk_model.proofs.Books.ParagraphLists.{IsPermutation-with_move, ids_of, id-found, Contains-found}
use Rattle.desk_model.proofs.Books.SoundBooks.{paragraphs-apart, IsSoundParagraph-found, IsSoundTable-found}
use Rattle.desk_model.proofs.Lists.TableEntries.{keys-is_sorted, Decides-name, with_text, text-put_same, text-put_other, names-put, All-text, count-put_new, count-put_old}
use Rattle.desk_model.proofs.Lists.Decisions.{at_most_unless, below_unless}

-- ---- the text of a table

sound_table : (book : Book) (expect : Option ℕ) (name text : List ℕ) → IsSound book → IsAccepted book expect (Table name text) → IsSound (next_with_table book name text)
sound_table book expect name text sound accepted =
    let command : Command = Table name text in
    let next : Book = next_with_table book name text in
    let named = given_name book expect command accepted name text refl in
    let given = given_meaning book expect command accepted name text refl in
    let users = users_defined book expect command accepted name text refl given.0 given.1 in
    let room = room_for_version book expect command accepted in
    record {
      version = omega arith;
      few_tables = few (text_of book name) refl;
      few_paragraphs = sound.few_paragraphs;
      few_marks = sound.few_marks;
      names = names-put name text book.tables sound.names;
      tables = All-text IsSoundTable name text book.tables sound.tables (record { named = named; meaning = given.0; means = given.1 });
      ids = sound.ids;
      paragraphs = λ k d within. shown given.0 given.1 (get_or book.paragraphs k d) (sound.paragraphs k d within) (users k d within);
      numbers = sound.numbers;
      marks = All-weaker (IsSoundMark book) (IsSoundMark next) (IsSoundMark-kept book next (λ id p e. (p, e, refl))) book.marks sound.marks;
    }
  where
    few : (old : Option (List ℕ)) → text_of book name ≡ old → length (with_text name text book.tables) ≤ most_tables
    few None e =
        omega (arith, room_for_table book expect (Table name text) accepted name text refl e, count-put_new name text book.tables sound.names e)
    few (Some old) e = subst (λ (n : ℕ). n ≤ most_tables) (sym (count-put_old name text old book.tables sound.names e)) sound.few_tables

    shown : (meaning : Meaning) → Means text meaning → (p : Paragraph) → IsSoundParagraph book p → DefinesUser meaning name p → IsSoundParagraph (next_with_table book name text) p
    shown meaning means p s user =
        elim (cases_Bool (pointwise nat_eq p.table name)) [
          | inl e ↦
              let same = (Decides-name p.table name).0 e in
              record {
                clean = s.clean;
                history = s.history;
                text = text;
                meaning = meaning;
                found = text-put_same p.table name text book.tables same;
                means = means;
                defined = user same;
              }
          | inr e ↦ record {
            clean = s.clean;
            history = s.history;
            text = s.text;
            meaning = s.meaning;
            found = text-put_other p.table name text book.tables (λ same. both_ways (pointwise nat_eq p.table name) e ((Decides-name p.table name).1 same)) ∙ s.found;
            means = s.means;
            defined = s.defined;
          }
        ]

-- ---- a new paragraph

IsUnbarred-stored : (text : List ℕ) → IsUnbarred (normal_form text)
IsUnbarred-stored text =
    All-weaker (λ c. not (is_barred c) ≡ true) (λ c. is_barred c ≡ false) (λ c h. not-true (is_barred c) h) (normal_form text) (filter_passes (λ c. not (is_barred c)) (nfc text))

short_start : (original : List ℕ) → length original ≤ most_print → (i : ℕ) → i ≤ 0 → length (corrected_print original (take i [])) ≤ most_print
short_start original short zero le = short
short_start original short (suc i) le = absurd (omega arith)

IsSoundHistory-none : (original : List ℕ) → length original ≤ most_print → IsSoundHistory original []
IsSoundHistory-none original short = record {
  few = omega arith;
  entries = λ i entry e. absurd (cc);
  short = short_start original short;
}

sound_type : (book : Book) (expect : Option ℕ) (anchor : Anchor) (table text : List ℕ) → IsSound book → IsAccepted book expect (TypeIn anchor table text) → AreCharacters (normal_form text) → IsSound (next_with_paragraphs book (with_paragraph anchor (new_paragraph (next_id book) table text) book.paragraphs))
sound_type book expect anchor table text sound accepted written =
    let command : Command = TypeIn anchor table text in
    let named = named_table book expect command accepted table refl in
    let shown = IsSoundTable-found book sound table named.0 named.1 in
    let new : Paragraph = new_paragraph (next_id book) table text in
    IsSound-with_paragraph book anchor new sound (room_for_version book expect command accepted) (room_for_paragraph book expect command accepted refl) refl
    (record {
      clean = record { characters = written; unbarred = IsUnbarred-stored text };
      history = IsSoundHistory-none (normal_form text) (short_print book expect command accepted (normal_form text) refl);
      text = named.0;
      meaning = shown.meaning;
      found = named.1;
      means = shown.means;
      defined = shown_defined book expect command accepted (normal_form text) table named.0 shown.meaning refl named.1 shown.means;
    }) (λ other c.
    let q = named_paragraph book expect command accepted other c in
    subst (Contains (ids_of book.paragraphs)) (id-found other book.paragraphs q.0 q.1) (Contains-map (λ (r : Paragraph). r.id) book.paragraphs q.0 (Contains-found other book.paragraphs q.0 q.1)))

-- ---- another table

sound_retable : (book : Book) (expect : Option ℕ) (id : ℕ) (table : List ℕ) → IsSound book → IsAccepted book expect (Retable id table) → IsSound (next_with_paragraphs book (with_change id (λ p. record p { table = table }) book.paragraphs))
sound_retable book expect id table sound accepted =
    let command : Command = Retable id table in
    let named = named_table book expect command accepted table refl in
    let shown = IsSoundTable-found book sound table named.0 named.1 in
    IsSound-changed book id (λ p. record p { table = table }) sound (room_for_version book expect command accepted) (λ p. refl) (λ p e.
    let s = IsSoundParagraph-found book sound id p e in (
      record {
        clean = s.clean;
        history = s.history;
        text = named.0;
        meaning = shown.meaning;
        found = named.1;
        means = shown.means;
        defined = shown_defined book expect command accepted (print_of p) table named.0 shown.meaning (ap (option_map (λ (q : Paragraph). (print_of q, table))) e) named.1 shown.means;
      },
      refl,
    ))

-- ---- another place

-- a move that is accepted leaves the same paragraphs
pub IsPermutation-moved : (book : Book) (expect : Option ℕ) (id : ℕ) (anchor : Anchor) → IsSound book → IsAccepted book expect (Move id anchor) → IsPermutation book.paragraphs (with_move id anchor book)
IsPermutation-moved book expect id anchor sound accepted =
    let named = named_paragraph book expect (Move id anchor) accepted in
    let p = named id (Contains-here id (paragraph_before anchor)) in
    IsPermutation-with_move book id anchor p.0 (paragraphs-apart book sound) p.1 (λ other c. named other (Contains-behind id other (paragraph_before anchor) c))

sound_move : (book : Book) (expect : Option ℕ) (id : ℕ) (anchor : Anchor) → IsSound book → IsAccepted book expect (Move id anchor) → IsSound (next_with_paragraphs book (with_move id anchor book))
sound_move book expect id anchor sound accepted =
    IsSound-reordered book (with_move id anchor book) sound (room_for_version book expect (Move id anchor) accepted) (IsPermutation-moved book expect id anchor sound accepted)

-- ---- corrections

sound_correct : (book : Book) (expect : Option ℕ) (id start count : ℕ) (text who : List ℕ) → IsSound book → IsAccepted book expect (Correct id start count text who) → AreCharacters (normal_form text) × AreCharacters who
    → IsSound (next_with_entry book id (Corrects (replacement_by start count text) who) (mark_moved (replacement_by start count text)))
sound_correct book expect id start count text who sound accepted written =
    let command : Command = Correct id start count text who in
    let r : Replacement = replacement_by start count text in
    let named = named_paragraph book expect command accepted id (Contains-here id []) in
    let p : Paragraph = named.0 in
    let s = IsSoundParagraph-found book sound id p named.1 in
    let print : print_of (with_entry (Corrects r who) p) ≡ with_replacement (print_of p) r = corrected_print-corrects p.original p.history r who s.history.entries in
    let span = at_most_unless (start + count) (length (print_of p))
    (λ past. accepted BadSpan (IsSomeAnd-of (λ (q : Paragraph). length (print_of q) < start + count) named.1 past)) in
    let change : Paragraph → Option (List ℕ) = λ q. Some (with_replacement (print_of q) r) in
    let short = short_print book expect command accepted (with_replacement (print_of p) r) (changed-print book id change p (with_replacement (print_of p) r) named.1 refl) in
    let defined = shown_defined book expect command accepted (with_replacement (print_of p) r) p.table s.text s.meaning (changed-translated book id change p (with_replacement (print_of p) r) named.1 refl) s.found s.means in
    let clean : IsClean (normal_form text) = record { characters = written.0; unbarred = IsUnbarred-stored text } in
    let long : length (print_of (with_entry (Corrects r who) p)) + count ≡ length (print_of p) + length (normal_form text) = ap (λ (t : List ℕ). length t + count) print ∙ length-replaced (print_of p) r span in
    IsSound-with_entry book id (Corrects r who) (mark_moved r) p sound (room_for_version book expect command accepted) named.1
    (IsSoundParagraph-entry book p (Corrects r who) s (span, clean, given_proofreader book expect command accepted who refl, written.1) (room_for_entry book expect command accepted id p refl named.1)
    (subst (λ (t : List ℕ). length t ≤ most_print) (sym print) short) (subst (AreDefined s.meaning) (sym print) defined))
    (MovesTo-mark_moved_by start count (length (normal_form text)) (length (print_of p)) (length (print_of (with_entry (Corrects r who) p))) span (sym long))

sound_undo : (book : Book) (expect : Option ℕ) (id n : ℕ) (r : Replacement) → IsSound book → IsAccepted book expect (Undo id) → IsNewest book id n r → IsSound (next_with_entry book id (Undoes n) (mark_moved_back r))
sound_undo book expect id n r sound accepted is =
    let command : Command = Undo id in
    let p : Paragraph = is.paragraph in
    let there = is.found in
    let e = is.newest_is in
    let s = IsSoundParagraph-found book sound id p there in
    let new : List ℕ = print_of (with_entry (Undoes n) p) in
    let undone : print_undone p ≡ Some new = ap (option_map (λ (correction : ℕ × Replacement). print_of (with_entry (Undoes correction.0) p))) e in
    let short = short_print book expect command accepted new (changed-print book id print_undone p new there undone) in
    let defined = shown_defined book expect command accepted new p.table s.text s.meaning (changed-translated book id print_undone p new there undone) s.found s.means in
    let parts = newest-parts p.history n r e in
    let last = IsLast-parts p.history 1 p.history parts.0 n r parts.1 in
    let before : new ≡ corrected_print p.original (take (n - 1) p.history) = corrected_print-before p.original p.history s.history.entries n r e in
    let span : r.start + r.count ≤ length new = subst (λ (t : List ℕ). r.start + r.count ≤ length t) (sym before) (s.history.entries (n - 1) (Corrects r last.who) last.at).0 in
    let long : length (print_of p) + r.count ≡ length new + length r.text = ap (λ (t : List ℕ). length t + r.count) (corrected_print-undone p.original p.history n r e) ∙ length-replaced new r span in
    IsSound-with_entry book id (Undoes n) (mark_moved_back r) p sound (room_for_version book expect command accepted) there
    (IsSoundParagraph-entry book p (Undoes n) s (ap (option_map (λ (c : ℕ × Replacement). c.0)) e) (room_for_entry book expect command accepted id p refl there) short defined)
    (MovesTo-mark_moved_by r.start (length r.text) r.count (length (print_of p)) (length new) (omega arith) long)

-- ---- marks

sound_mark : (book : Book) (expect : Option ℕ) (id cell count start end : ℕ) (note : List ℕ) → IsSound book → IsAccepted book expect (Mark id cell count note) → AreCharacters note → AreMarked book id cell count start end
    → IsSound (next_with_marks book (book.marks ++ new_mark (next_mark book) id start end note ∷ []))
sound_mark book expect id cell count start end note sound accepted written are =
    let command : Command = Mark id cell count note in
    let p : Paragraph = are.paragraph in
    let print : List ℕ = print_of p in
    let new : BookMark = new_mark (next_mark book) id start end note in
    let room = room_for_mark book expect command accepted note refl in
    let long = length-append book.marks (new ∷ []) in
    let lacking = λ (lacks : (count ≡ 0) ⊎ (length (braille are.meaning print are.choices) < cell + count)).
    accepted BadSpan (record { paragraph = p; found = are.found; meaning = are.meaning; choices = are.choices; translated = are.translated; lacks = lacks }) in
    let some = below_unless 0 count (λ none. lacking (inl (omega arith))) in
    let there = at_most_unless (cell + count) (length (braille are.meaning print are.choices)) (λ past. lacking (inr past)) in
    let tiles = are.translated.tiles in
    let ordered = begins-before are.meaning print are.choices cell (cell + count - 1) start end tiles (omega arith) are.starts are.ends in
    let within = end-within are.meaning print are.choices (cell + count - 1) end tiles are.ends in
    IsSound-with_marks book (book.marks ++ new ∷ []) sound (room_for_version book expect command accepted) (omega arith)
    (map-append (λ (m : BookMark). m.id) book.marks (new ∷ [])
    ∙ (ap (λ (t : List ℕ). t ++ (length book.marks + 1) ∷ []) sound.numbers
    ∙ (ap (λ (k : ℕ). range_with_len 1 (length book.marks) ++ k ∷ []) (let same : length book.marks + 1 ≡ 1 + length book.marks = omega arith in same)
    ∙ (sym (range_with_len-push 1 (length book.marks)) ∙ ap (range_with_len 1) (sym long)))))
    (All-push (IsSoundMark book) book.marks new sound.marks (record {
      paragraph = p;
      found = are.found;
      ordered = omega arith;
      within = omega arith;
      clean = record { characters = written; unbarred = given_unbarred book expect command accepted note refl };
      short = short_note book expect command accepted note refl;
    }))

-- ---- each command

-- the change of a flag, or of the style
keeps_text : (book : Book) (expect : Option ℕ) (command : Command) (id : ℕ) (change : Paragraph → Paragraph) → KeepsText change → IsSound book → IsAccepted book expect command
    → IsSound (next_with_paragraphs book (with_change id change book.paragraphs))
keeps_text book expect command id change keeps sound accepted = IsSound-kept_text book id change sound (room_for_version book expect command accepted) keeps

pub IsSound-makes : (book next : Book) (expect : Option ℕ) (command : Command) → IsSound book → IsAccepted book expect command → HasCharacters command → Makes book command next → IsSound next
IsSound-makes book next expect (Table name text) sound accepted written e = subst IsSound (sym e) (sound_table book expect name text sound accepted)
IsSound-makes book next expect (TypeIn anchor table text) sound accepted written e = subst IsSound (sym e) (sound_type book expect anchor table text sound accepted written.0)
IsSound-makes book next expect (Correct id start count text who) sound accepted written e = subst IsSound (sym e) (sound_correct book expect id start count text who sound accepted (written.0, written.1))
IsSound-makes book next expect (Undo id) sound accepted written (n, r, newest, e) = subst IsSound (sym e) (sound_undo book expect id n r sound accepted newest)
IsSound-makes book next expect (Mark id cell count note) sound accepted written (start, end, marked, e) = subst IsSound (sym e) (sound_mark book expect id cell count start end note sound accepted written.2 marked)
IsSound-makes book next expect (Resolve id) sound accepted written e = subst IsSound (sym e) (IsSound-resolved book id sound (room_for_version book expect (Resolve id) accepted))
IsSound-makes book next expect (Strike id) sound accepted written e =
    subst IsSound (sym e) (keeps_text book expect (Strike id) id (λ p. record p { struck = true }) (record { id = λ p. refl; table = λ p. refl; original = λ p. refl; history = λ p. refl }) sound accepted)
IsSound-makes book next expect (Restore id) sound accepted written e =
    subst IsSound (sym e) (keeps_text book expect (Restore id) id (λ p. record p { struck = false }) (record { id = λ p. refl; table = λ p. refl; original = λ p. refl; history = λ p. refl }) sound accepted)
IsSound-makes book next expect (Style id style) sound accepted written e =
    subst IsSound (sym e) (keeps_text book expect (Style id style) id (λ p. record p { style = style }) (record { id = λ p. refl; table = λ p. refl; original = λ p. refl; history = λ p. refl }) sound accepted)
IsSound-makes book next expect (Volume id begins) sound accepted written e =
    subst IsSound (sym e) (keeps_text book expect (Volume id begins) id (λ p. record p { begins_volume = begins }) (record { id = λ p. refl; table = λ p. refl; original = λ p. refl; history = λ p. refl }) sound accepted)
IsSound-makes book next expect (Retable id table) sound accepted written e = subst IsSound (sym e) (sound_retable book expect id table sound accepted)
IsSound-makes book next expect (Move id anchor) sound accepted written e = subst IsSound (sym e) (sound_move book expect id anchor sound accepted)

-- ---- whole histories

pub IsSound-empty : IsSound empty_book
IsSound-empty = record {
  version = omega arith;
  few_tables = omega arith;
  few_paragraphs = omega arith;
  few_marks = omega arith;
  names = keys-is_sorted {X = List ℕ} (slice_cmp nat_cmp) [] tt;
  tables = All-nil IsSoundTable;
  ids = IsPermutation-refl [];
  paragraphs = All-nil (IsSoundParagraph empty_book);
  numbers = refl;
  marks = All-nil (IsSoundMark empty_book);
}

-- commands, accepted one after the other, make a sound book of a sound book
pub IsSound-after : (commands : List Command) (book last : Book) → All HasCharacters commands → IsSound book → After book commands last → IsSound last
IsSound-after [] book last written sound e = subst IsSound (sym e) sound
IsSound-after (command ∷ commands) book last written sound (accepted, (next, makes, later)) =
    IsSound-after commands next last (All-tail HasCharacters command commands written)
    (IsSound-makes book next None command sound accepted (All-head HasCharacters command commands written) makes) later
