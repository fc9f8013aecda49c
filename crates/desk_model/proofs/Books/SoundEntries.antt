-- Sound books after an entry more of a history, and after marks that come or are resolved.
use Rattle.std.proofs.Common.{◌≡◌, ℕ, ◌+◌, ◌-◌, ◌<◌, ◌≤◌, true, false, cond, List, [], ◌∷◌, ◌++◌, length, map, take, drop, Some, refl, sym, ap, subst, ◌∙◌, arith, inl, inr, IsPermutation, nat_eq, nat_le, min, max}
use Rattle.std.specs.List.{All, range_with_len}
use Rattle.std.proofs.Math.Seq.{take-length}
use Rattle.std.proofs.lemmas.Bool.{cases_Bool, cond_both, cases_lt, eqb-true, eqb-false}
use Rattle.std.proofs.lemmas.Bool.Decides.{nat_tests}
use Rattle.std.proofs.lemmas.List.{length-append, length-map, length-take, length-drop, take-append-le}
use Rattle.std.proofs.lemmas.List.Elements.{All-map, All-weaker}
use Rattle.louis_translate.specs.Position.{AreDefined}
use Rattle.desk_model.specs.Book.{Book, Entry, Mark, Paragraph, Replacement, paragraph_of}
use Rattle.desk_model.specs.BookTexts.{IsClean}
use Rattle.desk_model.specs.Limits.{most_entries, most_marks, most_note, most_paragraphs, most_print, most_version}
use Rattle.desk_model.specs.Marks.{mark_moved_by}
use Rattle.desk_model.specs.Print.{corrected_print, print_of, with_entry, with_replacement}
use Rattle.desk_model.specs.Sound.{AreSoundEntries, IsSoundEntry, IsSoundHistory, IsSoundParagraph, IsSoundMark, IsSound}
use Rattle.desk_model.specs.NextBook.{next_with_entry, next_with_marks, with_change, with_marks_moved, with_resolved}
use Rattle.desk_model.proofs.Lists.Items.{each-push}
use Rattle.desk_model.proofs.Books.ParagraphLists.{ids_of, found, changed, found-changed, found-unchanged, ids-with_change, All-with_change}
use Rattle.desk_model.proofs.Books.SoundBooks.{IsSoundParagraph-same_texts, paragraph_of-own}
use Rattle.desk_model.proofs.Books.SoundParagraphs.{IsSoundMark-kept}

-- ---- one entry more

module _ (original : List ℕ) (h : List Entry) (entry : Entry) where
  pub AreSoundEntries-push : AreSoundEntries original h → IsSoundEntry original h entry → AreSoundEntries original (h ++ entry ∷ [])
  AreSoundEntries-push sound last = each-push (IsSoundEntry original) h entry sound last

  pub IsSoundHistory-push : IsSoundHistory original h → IsSoundEntry original h entry → length h < most_entries → length (corrected_print original (h ++ entry ∷ [])) ≤ most_print
      → IsSoundHistory original (h ++ entry ∷ [])
  IsSoundHistory-push sound last few short =
      record {
        few = omega (arith, few, length-append h (entry ∷ []));
        entries = AreSoundEntries-push sound.entries last;
        short = shorts;
      }
    where
      shorts : (i : ℕ) → i ≤ length (h ++ entry ∷ []) → length (corrected_print original (take i (h ++ entry ∷ []))) ≤ most_print
      shorts i le =
          let many = length-append h (entry ∷ []) in
          elim (cases_lt (length h) i) [
            | inl past ↦
                let here : i ≡ length (h ++ entry ∷ []) = omega arith in
                let whole : take i (h ++ entry ∷ []) ≡ h ++ entry ∷ [] = ap (λ (k : ℕ). take k (h ++ entry ∷ [])) here ∙ take-length (h ++ entry ∷ []) in
                subst (λ (t : List Entry). length (corrected_print original t) ≤ most_print) (sym whole) short
            | inr before ↦ subst (λ (t : List Entry). length (corrected_print original t) ≤ most_print) (sym (take-append-le i h (entry ∷ []) before)) (sound.short i before)
          ]

pub IsSoundParagraph-entry : (book : Book) (p : Paragraph) (entry : Entry) (s : IsSoundParagraph book p) → IsSoundEntry p.original p.history entry → length p.history < most_entries
    → length (print_of (with_entry entry p)) ≤ most_print → AreDefined s.meaning (print_of (with_entry entry p)) → IsSoundParagraph book (with_entry entry p)
IsSoundParagraph-entry book p entry s last few short defined = record {
  clean = s.clean;
  history = IsSoundHistory-push p.original p.history entry s.history last few short;
  text = s.text;
  meaning = s.meaning;
  found = s.found;
  means = s.means;
  defined = defined;
}

-- ---- marks that move

-- marks on a print of so many characters move to one of so many others
pub record MovesTo (move : Mark → Mark) (before after : ℕ) : Type 0 where
  pub id : (m : Mark) → (move m).id ≡ m.id
  pub paragraph : (m : Mark) → (move m).paragraph ≡ m.paragraph
  pub note : (m : Mark) → (move m).note ≡ m.note
  pub within : (m : Mark) → m.start ≤ m.end → m.end ≤ before → ((move m).start ≤ (move m).end) × ((move m).end ≤ after)

pub MovesTo-mark_moved_by : (start removed added before after : ℕ) → start + removed ≤ before → before + added ≡ after + removed → MovesTo (mark_moved_by start removed added) before after
MovesTo-mark_moved_by start removed added before after le same = record {
  id = λ m. refl;
  paragraph = λ m. refl;
  note = λ m. refl;
  within = λ m ordered short. elim (cases_Bool (nat_le m.end start)) [
    | inl e ↦ let low : m.end ≤ start = grind (arith, nat_tests) in rw e (ordered, (let end : m.end ≤ after = omega arith in end))
    | inr e ↦ elim (cases_Bool (nat_le (start + removed) m.start)) [
      | inl f ↦
          let high : start + removed ≤ m.start = grind (arith, nat_tests) in
          rw (e, f) ((let one : m.start - removed + added ≤ m.end - removed + added = omega arith in one), (let two : m.end - removed + added ≤ after = omega arith in two))
      | inr f ↦
          rw (e, f) ((let one : min m.start start ≤ max m.end (start + removed) - removed + added = omega arith in one), (let two : max m.end (start + removed) - removed + added ≤ after = omega arith in two))
    ]
  ];
}

-- ---- the book with an entry more

-- the mark, moved if it is on the paragraph with this id
abbrev pub moved_on : ℕ → (Mark → Mark) → Mark → Mark
moved_on id move m = cond (nat_eq m.paragraph id) (move m) m

module _ (book : Book) (id : ℕ) (entry : Entry) (move : Mark → Mark) (p : Paragraph) (sound : IsSound book) (room : book.version < most_version) (there : paragraph_of book id ≡ Some p)
    (its : IsSoundParagraph book (with_entry entry p)) (moves : MovesTo move (length (print_of p)) (length (print_of (with_entry entry p)))) where
  abbrev next : Book
  next = next_with_entry book id entry move

  abbrev after : List Paragraph
  after = with_change id (with_entry entry) book.paragraphs

  IsSoundMark-moved : (m : Mark) → IsSoundMark book m → IsSoundMark next (moved_on id move m)
  IsSoundMark-moved m s =
      cond_both (nat_eq m.paragraph id) (move m) m (IsSoundMark next) here elsewhere
    where
      here : nat_eq m.paragraph id ≡ true → IsSoundMark (next_with_entry book id entry move) (move m)
      here e =
          let on : m.paragraph ≡ id = eqb-true m.paragraph id e in
          let both : Some s.paragraph ≡ Some p = sym s.found ∙ (ap (paragraph_of book) on ∙ there) in
          let same : s.paragraph ≡ p = cc in
          let span = moves.within m s.ordered (subst (λ (q : Paragraph). m.end ≤ length (print_of q)) same s.within) in
          record {
            paragraph = with_entry entry p;
            found = ap (λ (n : ℕ). found n (with_change id (with_entry entry) book.paragraphs)) (moves.paragraph m ∙ on) ∙ found-changed id (with_entry entry) (λ q. refl) book.paragraphs p there;
            ordered = span.0;
            within = span.1;
            clean = subst (λ (note : List ℕ). IsClean note) (sym (moves.note m)) s.clean;
            short = subst (λ (note : List ℕ). length note ≤ most_note) (sym (moves.note m)) s.short;
          }

      elsewhere : nat_eq m.paragraph id ≡ false → IsSoundMark (next_with_entry book id entry move) m
      elsewhere e = record {
        paragraph = s.paragraph;
        found = found-unchanged id (with_entry entry) (λ q. refl) book.paragraphs m.paragraph (λ same. eqb-false m.paragraph id e same) ∙ s.found;
        ordered = s.ordered;
        within = s.within;
        clean = s.clean;
        short = s.short;
      }

  numbers-moved : (ms : List Mark) → map (λ m. m.id) (with_marks_moved id move ms) ≡ map (λ m. m.id) ms
  numbers-moved [] = refl
  numbers-moved (m ∷ ms) = λ i. cond_both (nat_eq m.paragraph id) (move m) m (λ x. x.id ≡ m.id) (λ e. moves.id m) (λ e. refl) i ∷ numbers-moved ms i

  pub IsSound-with_entry : IsSound next
  IsSound-with_entry =
      let long : length after ≡ length book.paragraphs = length-map book.paragraphs (changed id (with_entry entry)) in
      let many : length (with_marks_moved id move book.marks) ≡ length book.marks = length-map book.marks (moved_on id move) in
      record {
        version = omega arith;
        few_tables = sound.few_tables;
        few_paragraphs = subst (λ (n : ℕ). n ≤ most_paragraphs) (sym long) sound.few_paragraphs;
        few_marks = subst (λ (n : ℕ). n ≤ most_marks) (sym many) sound.few_marks;
        names = sound.names;
        tables = sound.tables;
        ids = subst (λ (n : ℕ). IsPermutation (range_with_len 1 n) (ids_of after)) (sym long)
            (subst (IsPermutation (range_with_len 1 (length book.paragraphs))) (sym (ids-with_change id (with_entry entry) (λ q. refl) book.paragraphs)) sound.ids);
        paragraphs = All-weaker (IsSoundParagraph book) (IsSoundParagraph next) (IsSoundParagraph-same_texts book next (λ name. refl)) after (All-with_change (IsSoundParagraph book) id (with_entry entry) book.paragraphs sound.paragraphs
            (λ q c same s.
            let both : Some q ≡ Some p = sym (paragraph_of-own book sound q c) ∙ (ap (paragraph_of book) same ∙ there) in
            let is : q ≡ p = cc in
            subst (λ (x : Paragraph). IsSoundParagraph book (with_entry entry x)) (sym is) its));
        numbers = numbers-moved book.marks ∙ (sound.numbers ∙ ap (range_with_len 1) (sym many));
        marks = All-map (IsSoundMark next) (moved_on id move) book.marks (All-weaker (IsSoundMark book) (λ m. IsSoundMark next (moved_on id move m)) IsSoundMark-moved book.marks sound.marks);
      }

-- ---- other marks

pub IsSound-with_marks : (book : Book) (marks : List Mark) → IsSound book → book.version < most_version → length marks ≤ most_marks → map (λ mark. mark.id) marks ≡ range_with_len 1 (length marks)
    → All (IsSoundMark book) marks → IsSound (next_with_marks book marks)
IsSound-with_marks book marks sound room few numbers all =
    let next : Book = next_with_marks book marks in
    let version : next.version ≤ most_version = omega arith in
    let paragraphs = All-weaker (IsSoundParagraph book) (IsSoundParagraph next) (IsSoundParagraph-same_texts book next (λ name. refl)) book.paragraphs sound.paragraphs in
    let kept = All-weaker (IsSoundMark book) (IsSoundMark next) (IsSoundMark-kept book next (λ id p e. (p, e, refl))) marks all in
    assumption

-- the mark, resolved if it has this id
abbrev pub resolved_by : ℕ → Mark → Mark
resolved_by id m = cond (nat_eq m.id id) (record m { resolved = true }) m

IsSoundMark-resolved : (book : Book) (id : ℕ) (m : Mark) → IsSoundMark book m → IsSoundMark book (resolved_by id m)
IsSoundMark-resolved book id m s =
    cond_both (nat_eq m.id id) (record m { resolved = true }) m (IsSoundMark book)
    (λ e. record { paragraph = s.paragraph; found = s.found; ordered = s.ordered; within = s.within; clean = s.clean; short = s.short })
    (λ e. s)

numbers-resolved : (id : ℕ) (ms : List Mark) → map (λ m. m.id) (with_resolved id ms) ≡ map (λ m. m.id) ms
numbers-resolved id [] = refl
numbers-resolved id (m ∷ ms) = λ i. cond_both (nat_eq m.id id) (record m { resolved = true }) m (λ x. x.id ≡ m.id) (λ e. refl) (λ e. refl) i ∷ numbers-resolved id ms i

pub IsSound-resolved : (book : Book) (id : ℕ) → IsSound book → book.version < most_version → IsSound (next_with_marks book (with_resolved id book.marks))
IsSound-resolved book id sound room =
    let many : length (with_resolved id book.marks) ≡ length book.marks = length-map book.marks (resolved_by id) in
    IsSound-with_marks book (with_resolved id book.marks) sound room (subst (λ (n : ℕ). n ≤ most_marks) (sym many) sound.few_marks)
    (numbers-resolved id book.marks ∙ (sound.numbers ∙ ap (range_with_len 1) (sym many)))
    (All-map (IsSoundMark book) (resolved_by id) book.marks (All-weaker (IsSoundMark book) (λ m. IsSoundMark book (resolved_by id m)) (IsSoundMark-resolved book id) book.marks sound.marks))

-- ---- lengths

pub length-replaced : (print : List ℕ) (r : Replacement) → r.start + r.count ≤ length print → length (with_replacement print r) + r.count ≡ length print + length r.text
length-replaced print r le =
    let one = length-append (take r.start print ++ r.text) (drop (r.start + r.count) print) in
    omega (arith, length-append (take r.start print) r.text, length-take r.start print, length-drop (r.start + r.count) print)
