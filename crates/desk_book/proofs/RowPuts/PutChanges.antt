-- What a change of a paragraph or of a mark puts makes rows that show the book show the next.
use Rattle.std.proofs.Common.{◌≡◌, ℕ, ◌+◌, ◌<◌, ◌≤◌, pos, Bool, true, false, cond, List, [], ◌∷◌, ◌++◌, length, map, Option, Contains, min, refl, sym, ap, subst, ◌∙◌, arith}
use Rattle.std.specs.Bool.{one_answer}
use Rattle.std.specs.Cmp.Lexicographic.{pointwise}
use Rattle.std.specs.List.{All, enumerate_from, flat_map}
use Rattle.std.specs.List.Sorted.{IsPermutation}
use Rattle.std.specs.Map.{lookup}
use Rattle.std.specs.Option.{ForSome}
use Rattle.std.specs.Ordering.{int_eq}
use Rattle.std.specs.Prelude.{nat_eq}
use Rattle.std.proofs.lemmas.Bool.{cond_both, eqb-true, eq-eqb}
use Rattle.std.proofs.lemmas.List.Elements.{All-contains_itself, All-head, All-tail, All-weaker}
use Rattle.std.proofs.lemmas.List.FromFn.{length-range_with_len, get_or-range_with_len}
use Rattle.std.proofs.lemmas.List.Sorted.{IsPermutation-refl}
use Rattle.desk_model.specs.declared.style.Style.{Style}
use Rattle.desk_model.specs.Book.{Book, Mark, Paragraph}
use Rattle.desk_model.specs.Loans.{LeadTo, row_number}
use Rattle.desk_book.specs.ChangePuts.{flags_put, resolved_put, version_put}
use Rattle.desk_parts.specs.declared.file_table.FileTable.TheVariants as file
use Rattle.desk_parts.specs.FileRows.{FileRows, HasUtf8Texts, format_of, spelled}
use Rattle.desk_parts.specs.Puts.{with_put}
use Rattle.desk_parts.specs.Rows.{Mark as MarkRow, Para, ParaCells}
use Rattle.desk_model.specs.Shows.{AreCached, IsCached, Shows, entry_rows_of, flag_number, mark_row_of, para_of, style_number}
use Rattle.desk_model.proofs.Rows.ParaRows.{paras_of}
use Rattle.desk_model.specs.Sound.{IsSound}
use Rattle.desk_model.specs.NextBook.{next_with_marks, next_with_paragraphs, with_change, with_resolved}
use Rattle.desk_model.specs.Translation.{IsBraille}
use Rattle.desk_model.proofs.Lists.Items.{All-from_map}
use Rattle.desk_model.proofs.Lists.Members.{Contains-map}
use Rattle.desk_model.proofs.Books.ParagraphLists.{changed, ids-with_change}
use Rattle.desk_model.proofs.Lists.Permutations.{IsPermutation-same}
use Rattle.desk_model.proofs.Rows.PutRows.{AreCached-same, All-set_where, IsBraille-same, IsPermutation-set, id_number, numbers-same, versioned}
use Rattle.desk_model.proofs.Lists.RowNumbers.{int_eq-pos}
use Rattle.desk_model.proofs.Books.SoundBooks.{paragraph_of-own, paragraph_of-within}
use Rattle.desk_model.proofs.Books.SoundEntries.{resolved_by}

-- ---- keys

-- a number below the greatest is equal to a row's number if it is equal to the number that this stands for
pub same_key : (a id : ℕ) → a < 9223372036854775807 → int_eq (pos a) (row_number id) ≡ nat_eq a id
same_key a id small =
    int_eq-pos a (min id 9223372036854775807)
    ∙ one_answer (nat_eq a (min id 9223372036854775807)) (nat_eq a id)
    (λ e. let is = eqb-true a (min id 9223372036854775807) e in omega arith, λ e. eq-eqb a (min id 9223372036854775807) (omega arith))
    (λ e. eqb-true a id e, λ e. eq-eqb a id e)

-- what is made of the value that a test chooses
pub cond-over : {X Y : Type 0} (f : X → Y) (b : Bool) (x y : X) (z : Y) → (b ≡ true → f x ≡ z) → f (cond b x y) ≡ cond b z (f y)
cond-over f true x y z same = same refl
cond-over f false x y z same = refl

-- the row's columns set if it has the number as its key
abbrev pub para_set : ℕ → (Para → Para) → Para → Para
para_set id set p = cond (int_eq p.id (row_number id)) (set p) p

abbrev pub mark_set : ℕ → (MarkRow → MarkRow) → MarkRow → MarkRow
mark_set id set m = cond (int_eq m.id (row_number id)) (set m) m

-- ---- the ids of a sound book

module _ (book : Book) (sound : IsSound book) where
  pub small_id : (p : Paragraph) → Contains book.paragraphs p → p.id ≤ 20000
  small_id p c =
      let within = (paragraph_of-within book sound p.id p (paragraph_of-own book sound p c)).1 in
      let few = sound.few_paragraphs in
      omega arith

  pub small_mark : All (λ (m : Mark). m.id ≤ length book.marks) book.marks
  small_mark = All-from_map (λ (id : ℕ). id ≤ length book.marks) (λ (m : Mark). m.id) book.marks
      (subst (All (λ (id : ℕ). id ≤ length book.marks)) (sym sound.numbers) (λ k d within.
      let lt : k < length book.marks = omega (arith, length-range_with_len 1 (length book.marks)) in
      let is = get_or-range_with_len 1 (length book.marks) k d lt in
      omega arith))

-- a row of braille of a book with other marks
IsCached-marks : (book next : Book) → next.tables ≡ book.tables → next.paragraphs ≡ book.paragraphs → (row : ParaCells) → IsCached book row → IsCached next row
IsCached-marks book next tables paragraphs row is = record {
  paragraph = is.paragraph;
  there = subst (λ (ps : List Paragraph). Contains ps is.paragraph) (sym paragraphs) is.there;
  named = is.named;
  cells = IsBraille-same book next is.paragraph is.paragraph refl (ap (lookup (pointwise nat_eq is.paragraph.table)) tables) row.cells is.cells;
}

-- ---- a change of one paragraph

module _ (id : ℕ) (to : Paragraph → Paragraph) (set : Para → Para) where
  -- the columns set are those of the changed paragraph
  abbrev pub Sets : Paragraph → Type 0
  Sets p = (p.id ≤ 20000) × (p.id ≡ id → (place : ℕ) → set (para_of (place, p)) ≡ para_of (place, to p))

  set-row : (place : ℕ) (p : Paragraph) → Sets p → para_set id set (para_of (place, p)) ≡ para_of (place, changed id to p)
  set-row place p sets =
      let small = sets.0 in
      let key : int_eq (pos p.id) (row_number id) ≡ nat_eq p.id id = same_key p.id id (omega arith) in
      ap (λ b. cond b (set (para_of (place, p))) (para_of (place, p))) key
      ∙ sym (cond-over (λ (q : Paragraph). para_of (place, q)) (nat_eq p.id id) (to p) p (set (para_of (place, p))) (λ e. sym (sets.1 (eqb-true p.id id e) place)))

  pub rows-changed : (place : ℕ) (ps : List Paragraph) → All Sets ps
      → map (para_set id set) (map para_of (enumerate_from place ps)) ≡ map para_of (enumerate_from place (with_change id to ps))
  rows-changed place [] all = refl
  rows-changed place (p ∷ ps) all = λ i. set-row place p (All-head Sets p ps all) i ∷ rows-changed (place + 1) ps (All-tail Sets p ps all) i

pub entries-changed : (id : ℕ) (to : Paragraph → Paragraph) → ((p : Paragraph) → entry_rows_of (to p) ≡ entry_rows_of p) → (ps : List Paragraph)
    → flat_map entry_rows_of (with_change id to ps) ≡ flat_map entry_rows_of ps
entries-changed id to same [] = refl
entries-changed id to same (p ∷ ps) = λ i. here i ++ entries-changed id to same ps i
  where
    here : entry_rows_of (changed id to p) ≡ entry_rows_of p
    here = cond_both (nat_eq p.id id) (to p) p (λ (q : Paragraph). entry_rows_of q ≡ entry_rows_of p) (λ e. same p) (λ e. refl)

-- ---- a change of one paragraph that leaves its history

module _ (book : Book) (id : ℕ) (to : Paragraph → Paragraph) (set bytes : Para → Para) (sound : IsSound book)
    (sets : (place : ℕ) (p : Paragraph) → set (para_of (place, p)) ≡ para_of (place, to p)) (spells : (p : Para) → spelled file.Para (bytes p) ≡ set (spelled file.Para p))
    (texts : (p : Para) → HasUtf8Texts file.Para p → HasUtf8Texts file.Para (bytes p)) (entries : (p : Paragraph) → entry_rows_of (to p) ≡ entry_rows_of p) where
  abbrev next : Book
  next = next_with_paragraphs book (with_change id to book.paragraphs)

  spelled-changed : (p : Para) → spelled file.Para (para_set id bytes p) ≡ para_set id set (spelled file.Para p)
  spelled-changed p = cond-over (spelled file.Para) (int_eq p.id (row_number id)) (bytes p) p (set (spelled file.Para p)) (λ e. spells p)

  -- the rows with its columns set, and rows of the next book's braille, show that book
  pub shown-changed : IsSound next → (rows : FileRows) → Shows rows book → (caches : Option (List ParaCells)) → ForSome caches (AreCached next)
      → Shows (record rows { books = (with_put (version_put next.version) rows).books; paras = map (para_set id bytes) rows.paras; caches = caches }) next
  shown-changed after rows shows caches cached = record {
    sound = after;
    texts = record {
      tabs = shows.texts.tabs;
      paras = All-set_where (λ (p : Para). int_eq p.id (row_number id)) bytes (HasUtf8Texts file.Para) rows.paras texts shows.texts.paras;
      entries = shows.texts.entries;
      marks = shows.texts.marks;
    };
    row = versioned (format_of rows.entries) book.version next.version rows.books after.version shows.row;
    tables = shows.tables;
    paragraphs = subst (IsPermutation (map (spelled file.Para) (map (para_set id bytes) rows.paras)))
        (rows-changed id to set 1 book.paragraphs (All-weaker (Contains book.paragraphs) (Sets id to set) (λ p c. (small_id book sound p c, λ e place. sets place p)) book.paragraphs (All-contains_itself book.paragraphs)))
        (IsPermutation-set (spelled file.Para) (para_set id bytes) (para_set id set) spelled-changed rows.paras (paras_of book.paragraphs) shows.paragraphs);
    entries = subst (IsPermutation _) (sym (entries-changed id to entries book.paragraphs)) shows.entries;
    marks = shows.marks;
    caches = cached;
  }

-- ---- a style and flags

module _ (book : Book) (id : ℕ) (style : Style) (begins struck : Bool) (sound : IsSound book) where
  abbrev flagged : Paragraph → Paragraph
  flagged p = record p { style = style; begins_volume = begins; struck = struck }

  abbrev flagged_row : Para → Para
  flagged_row p = record p { style = style_number style; volume = flag_number begins; struck = flag_number struck }

  abbrev with_flags : Book
  with_flags = next_with_paragraphs book (with_change id flagged book.paragraphs)

  flagged-cached : (row : ParaCells) → IsCached book row → IsCached with_flags row
  flagged-cached row is = record {
    paragraph = changed id flagged is.paragraph;
    there = Contains-map (changed id flagged) book.paragraphs is.paragraph is.there;
    named = is.named ∙ ap pos (sym (cond_both (nat_eq is.paragraph.id id) (flagged is.paragraph) is.paragraph (λ (q : Paragraph). q.id ≡ is.paragraph.id) (λ e. refl) (λ e. refl)));
    cells =
        cond_both (nat_eq is.paragraph.id id) (flagged is.paragraph) is.paragraph (λ (q : Paragraph). IsBraille with_flags q row.cells)
        (λ e. IsBraille-same book with_flags is.paragraph (flagged is.paragraph) refl refl row.cells is.cells)
        (λ e. IsBraille-same book with_flags is.paragraph is.paragraph refl refl row.cells is.cells);
  }

  pub flags-lead : IsSound with_flags
      → LeadTo book (version_put with_flags.version ∷ flags_put id style begins struck ∷ []) with_flags
  flags-lead after rows shows has =
      shown-changed book id flagged flagged_row flagged_row sound (λ place p. refl) (λ p. refl) (λ p texts. texts) (λ p. refl) after rows shows rows.caches
      (λ caches same. AreCached-same book with_flags caches
      (IsPermutation-same (map id_number book.paragraphs) (map id_number with_flags.paragraphs) (numbers-same book.paragraphs with_flags.paragraphs (sym (ids-with_change id flagged (λ p. refl) book.paragraphs))))
      flagged-cached (shows.caches caches same))

-- ---- other marks

module _ (book : Book) (ms : List Mark) where
  abbrev remarked : Book
  remarked = next_with_marks book ms

  -- the rows with rows of these marks show the book with them
  pub shown-marked : IsSound remarked → (rows : FileRows) → Shows rows book → (marks : List MarkRow) → All (HasUtf8Texts file.Mark) marks
      → IsPermutation (map (spelled file.Mark) marks) (map mark_row_of ms)
      → Shows (record rows { books = (with_put (version_put remarked.version) rows).books; marks = marks }) remarked
  shown-marked after rows shows marks texts same = record {
    sound = after;
    texts = record { tabs = shows.texts.tabs; paras = shows.texts.paras; entries = shows.texts.entries; marks = texts };
    row = versioned (format_of rows.entries) book.version remarked.version rows.books after.version shows.row;
    tables = shows.tables;
    paragraphs = shows.paragraphs;
    entries = shows.entries;
    marks = same;
    caches = λ caches e. AreCached-same book remarked caches (IsPermutation-refl (map id_number book.paragraphs)) (IsCached-marks book remarked refl refl) (shows.caches caches e);
  }

-- ---- a mark resolved

module _ (book : Book) (id : ℕ) (sound : IsSound book) where
  abbrev resolved_row : MarkRow → MarkRow
  resolved_row m = record m { resolved = pos 1 }

  abbrev resolved : Book
  resolved = next_with_marks book (with_resolved id book.marks)

  abbrev IsSmall : Mark → Type 0
  IsSmall m = m.id ≤ 100000

  set-mark : (m : Mark) → IsSmall m → mark_set id resolved_row (mark_row_of m) ≡ mark_row_of (resolved_by id m)
  set-mark m small =
      let key : int_eq (pos m.id) (row_number id) ≡ nat_eq m.id id = same_key m.id id (omega arith) in
      ap (λ b. cond b (resolved_row (mark_row_of m)) (mark_row_of m)) key
      ∙ sym (cond-over mark_row_of (nat_eq m.id id) (record m { resolved = true }) m (resolved_row (mark_row_of m)) (λ e. refl))

  rows-resolved : (ms : List Mark) → All IsSmall ms → map (mark_set id resolved_row) (map mark_row_of ms) ≡ map mark_row_of (with_resolved id ms)
  rows-resolved [] all = refl
  rows-resolved (m ∷ ms) all = λ i. set-mark m (All-head IsSmall m ms all) i ∷ rows-resolved ms (All-tail IsSmall m ms all) i

  small-marks : All IsSmall book.marks
  small-marks = All-weaker (λ (m : Mark). m.id ≤ length book.marks) IsSmall (λ m lower. let few = sound.few_marks in omega arith) book.marks (small_mark book sound)

  pub resolved-lead : IsSound resolved → LeadTo book (version_put resolved.version ∷ resolved_put id ∷ []) resolved
  resolved-lead after rows shows has =
      shown-marked book (with_resolved id book.marks) after rows shows (map (mark_set id resolved_row) rows.marks)
      (All-set_where (λ (m : MarkRow). int_eq m.id (row_number id)) resolved_row (HasUtf8Texts file.Mark) rows.marks (λ m texts. texts) shows.texts.marks)
      (subst (IsPermutation (map (spelled file.Mark) (map (mark_set id resolved_row) rows.marks))) (rows-resolved book.marks small-marks)
      (IsPermutation-set (spelled file.Mark) (mark_set id resolved_row) (mark_set id resolved_row) spelled-set rows.marks (map mark_row_of book.marks) shows.marks))
    where
      spelled-set : (m : MarkRow) → spelled file.Mark (mark_set id resolved_row m) ≡ mark_set id resolved_row (spelled file.Mark m)
      spelled-set m = cond-over (spelled file.Mark) (int_eq m.id (row_number id)) (resolved_row m) m (resolved_row (spelled file.Mark m)) (λ e. refl)
