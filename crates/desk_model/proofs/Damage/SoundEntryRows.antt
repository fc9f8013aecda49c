-- Rows of histories and of braille that show a book have no damage.
use Rattle.std.proofs.Common.{◌≡◌, ◌⊎◌, ℕ, zero, suc, ◌+◌, ◌≤◌, ℤ, pos, ◌+ℤ◌, ◌≤ℤ◌, Bool, true, false, List, [], ◌∷◌, ◌++◌, map, filter, length, take, Some, Contains, append-nil, refl, sym, ap, ap₂, subst, ◌∙◌, arith, inl, inr, IsPermutation, int_eq, IsUtf8, if◌then◌else◌, nat_abs, nat_eq, option_map, slice_get, chars}
use Rattle.std.specs.List.{enumerate_from, flat_map, range_with_len, take-map}
use Rattle.std.specs.Cmp.{signed_Decides}
use Rattle.std.proofs.lemmas.Bool.{cond-false, cond-true}
use Rattle.std.proofs.lemmas.List.Elements.{All-contains, All-contains_itself, All-filter, filter-append}
use Rattle.std.proofs.lemmas.List.Sorted.{Contains-permutation, IsPermutation-sym, IsPermutation-trans}
use Rattle.std.proofs.lemmas.Option.{slice_get-map, slice_get_within}
use Rattle.std.proofs.lemmas.Cmp.{nat_eq_equiv}
use Rattle.std.proofs.lemmas.Simd.{map-map}
use Rattle.std.proofs.lemmas.Str.{chars-nil}
use Rattle.louis_table.specs.Meaning.{Meaning}
use Rattle.louis_translate.specs.declared.choices.Choice.{Choice}
use Rattle.louis_translate.specs.Braille.{braille}
use Rattle.louis_translate.specs.Tiling.{Tiles}
use Rattle.desk_parts.specs.declared.file_table.FileTable.{FileTable}
use Rattle.desk_parts.specs.declared.file_table.FileTable.TheVariants as file
use Rattle.desk_model.specs.Book.{Entry, Corrects, Undoes, Book, Paragraph}
use Rattle.desk_model.specs.Damage.{HasPara, HasSoundEntries, IsDamaged, IsDamagedCache, IsDamagedEntries, IsSoundCacheRow, IsSoundCorrection, IsSoundEntryRow, IsSoundUndo, entry_of, history_of, rows_with}
use Rattle.desk_parts.specs.FileRows.{FileRows, HasUtf8Texts, entries_in, spelled}
use Rattle.desk_model.specs.Limits.{most_print}
use Rattle.desk_model.specs.ValidNames.{IsProofreaderName}
use Rattle.desk_model.specs.Print.{corrected_print}
use Rattle.desk_parts.specs.Rows.{NamedCorr, Para, ParaCells}
use Rattle.desk_model.specs.Shows.{AreCached, IsCached, Shows, entry_row_of, entry_rows_of, para_of}
use Rattle.desk_model.specs.Sound.{IsSoundEntry, IsSoundHistory}
use Rattle.desk_model.specs.BookTexts.{IsUnbarred}
use Rattle.desk_model.proofs.Lists.Items.{Contains-there}
use Rattle.desk_model.proofs.Lists.Members.{Contains-behind, Contains-cases, Contains-here, Contains-map, Contains-none}
use Rattle.desk_model.proofs.Rows.OneBook.{from_flat_map, named_in}
use Rattle.desk_model.proofs.Books.ParagraphLists.{AreApart, AreApart-first, AreApart-rest}
use Rattle.desk_model.proofs.Lists.Permutations.{IsPermutation-filter, pull_back}
use Rattle.desk_model.proofs.Lists.RowNumbers.{filter-map, from_enumerate, int_eq-pos, key-number, key-once, pos_le}
use Rattle.desk_model.proofs.Books.SoundBooks.{paragraphs-apart}
use Rattle.desk_model.proofs.Damage.SoundRows.{same_bytes, sound-book, sound-tab}
use Rattle.desk_model.proofs.Damage.SoundParaRows.{sound-mark, sound-para, its_table, para_part, para_row, para-keys, sound_paragraph, numbers-ids}

-- ---- lists

filter-all : {X : Type 0} (p : X → Bool) (xs : List X) → ((x : X) → Contains xs x → p x ≡ true) → filter p xs ≡ xs
filter-all p [] all = refl
filter-all {X} p (x ∷ xs) all =
    cond-true (p x) (x ∷ filter p xs) (filter p xs) (all x (Contains-here x xs))
    ∙ ap (λ (rest : List X). x ∷ rest) (filter-all p xs (λ y c. all y (Contains-behind x y xs c)))

filter-none : {X : Type 0} (p : X → Bool) (xs : List X) → ((x : X) → Contains xs x → p x ≡ false) → filter p xs ≡ []
filter-none p [] none = refl
filter-none p (x ∷ xs) none =
    cond-false (p x) (x ∷ filter p xs) (filter p xs) (none x (Contains-here x xs))
    ∙ filter-none p xs (λ y c. none y (Contains-behind x y xs c))

from_filter : {X : Type 0} (p : X → Bool) (xs : List X) (x : X) → Contains (filter p xs) x → Contains xs x
from_filter p xs x c = All-contains (Contains xs) (filter p xs) x (All-filter p (Contains xs) xs (All-contains_itself xs)) c

-- ---- the entries of one paragraph

abbrev is_of : ℤ → NamedCorr → Bool
is_of id row = int_eq row.entry.para id

of_entry : (id k : ℕ) (row : NamedCorr) → row.entry.para ≡ pos id → is_of (pos k) row ≡ nat_eq id k
of_entry id k row named = ap (λ z. int_eq z (pos k)) named ∙ int_eq-pos id k

nat_eq-self : (n : ℕ) → nat_eq n n ≡ true
nat_eq-self n = sym (int_eq-pos n n) ∙ same
  where
    same : int_eq (pos n) (pos n) ≡ true
    same = (signed_Decides (pos n) (pos n)).1 refl

own-entries : (ps : List Paragraph) (p : Paragraph) → AreApart ps → Contains ps p → filter (is_of (pos p.id)) (flat_map entry_rows_of ps) ≡ entry_rows_of p
own-entries [] p apart c = absurd (Contains-none p c)
own-entries (q ∷ ps) p apart c =
    filter-append (is_of (pos p.id)) (entry_rows_of q) (flat_map entry_rows_of ps)
    ∙ elim (Contains-cases q p ps c) [
      | inl same ↦
          ap₂ (λ (xs ys : List NamedCorr). xs ++ ys)
          (filter-all (is_of (pos p.id)) (entry_rows_of q) (λ row among. of_entry q.id p.id row (named_in q.id 1 q.history row among) ∙ (ap (λ (r : Paragraph). nat_eq r.id p.id) same ∙ nat_eq-self p.id)))
          (filter-none (is_of (pos p.id)) (flat_map entry_rows_of ps) (λ row among.
          let found = from_flat_map entry_rows_of ps row among in
          let other : nat_eq p.id found.0.id ≡ false = ap (λ (r : Paragraph). nat_eq r.id found.0.id) (sym same) ∙ AreApart-first q found.0 ps apart found.1 in
          of_entry found.0.id p.id row (named_in found.0.id 1 found.0.history row found.2) ∙ (nat_eq_equiv.symm found.0.id p.id ∙ other)))
          ∙ (append-nil (entry_rows_of q) ∙ ap entry_rows_of same)
      | inr later ↦
          ap₂ (λ (xs ys : List NamedCorr). xs ++ ys)
          (filter-none (is_of (pos p.id)) (entry_rows_of q) (λ row among. of_entry q.id p.id row (named_in q.id 1 q.history row among) ∙ AreApart-first q p ps apart later))
          (own-entries ps p (AreApart-rest q ps apart) later)
    ]

-- ---- what rows stand for

abbrev read : NamedCorr → Entry
read row =
    if int_eq row.entry.kind (pos 1) then Undoes (nat_abs row.entry.start)
    else Corrects (record { start = nat_abs row.entry.start; count = nat_abs row.entry.len; text = row.entry.body }) row.who

read-back : (id n : ℕ) (entry : Entry) → read (entry_row_of id (n, entry)) ≡ entry
read-back id n (Corrects r who) = refl
read-back id n (Undoes undone) = refl

reads-back : (id n : ℕ) (entries : List Entry) → map read (map (entry_row_of id) (enumerate_from n entries)) ≡ entries
reads-back id n [] = refl
reads-back id n (entry ∷ entries) = λ i. read-back id n entry i ∷ reads-back id (n + 1) entries i

-- the row at an index is that of the entry there
entry-at : (id n : ℕ) (entries : List Entry) (i : ℕ) (row : NamedCorr) → slice_get (map (entry_row_of id) (enumerate_from n entries)) i ≡ Some row
    → (entry : Entry) × (slice_get entries i ≡ Some entry) × (entry_row_of id (n + i, entry) ≡ row)
entry-at id n [] i row at = absurd (cc)
entry-at id n (entry ∷ entries) zero row at =
    let first : entry_row_of id (n, entry) ≡ row = cc in
    let own : n + 0 ≡ n = omega arith in
    (entry, refl, ap (λ k. entry_row_of id (k, entry)) own ∙ first)
entry-at id n (entry ∷ entries) (suc i) row at =
    let rest = entry-at id (n + 1) entries i row at in
    let next : n + suc i ≡ n + 1 + i = omega arith in
    (rest.0, rest.1, ap (λ k. entry_row_of id (k, rest.0)) next ∙ rest.2)

seq-of : (id n : ℕ) (entry : Entry) → (entry_row_of id (n, entry)).entry.seq ≡ pos n
seq-of id n (Corrects r who) = refl
seq-of id n (Undoes undone) = refl

-- a text without characters has no bytes
no_text : (bytes : List ℕ) → IsUtf8 bytes → [] ≡ chars bytes → bytes ≡ []
no_text bytes utf8 none = same_bytes bytes [] utf8 ([], (refl, refl)) (sym none ∙ sym chars-nil)

-- a row of a sound entry is sound
fits : (original : List ℕ) (before : List Entry) (id n : ℕ) (entry : Entry) (row : NamedCorr) → IsSoundEntry original before entry → entry_row_of id (n, entry) ≡ spelled file.NamedCorr row
    → HasUtf8Texts file.NamedCorr row → IsSoundCorrection (corrected_print original before) row ⊎ IsSoundUndo before row
fits original before id n (Corrects r who) row sound is texts =
    let start : pos r.start ≡ row.entry.start = ap (λ (e : NamedCorr). e.entry.start) is in
    let len : pos r.count ≡ row.entry.len = ap (λ (e : NamedCorr). e.entry.len) is in
    inl (record {
      kind = sym (ap (λ (e : NamedCorr). e.entry.kind) is);
      start = subst (λ z. pos 0 ≤ℤ z) start (pos_le 0 r.start (omega arith));
      len = subst (λ z. pos 0 ≤ℤ z) len (pos_le 0 r.count (omega arith));
      span = subst (λ z. z ≤ℤ pos (length (corrected_print original before))) (ap₂ (λ (a b : ℤ). a +ℤ b) start len) (pos_le (r.start + r.count) (length (corrected_print original before)) sound.0);
      text = subst IsUnbarred (ap (λ (e : NamedCorr). e.entry.body) is) sound.1.unbarred;
      who = subst IsProofreaderName (ap (λ (e : NamedCorr). e.who) is) sound.2;
    })
fits original before id n (Undoes undone) row sound is texts =
    inr (record {
      kind = sym (ap (λ (e : NamedCorr). e.entry.kind) is);
      number = undone;
      newest_is = sound;
      start = sym (ap (λ (e : NamedCorr). e.entry.start) is);
      len = sym (ap (λ (e : NamedCorr). e.entry.len) is);
      body = no_text row.entry.body texts.0 (ap (λ (e : NamedCorr). e.entry.body) is);
      who = no_text row.who texts.1 (ap (λ (e : NamedCorr). e.who) is);
    })

module _ (rows : FileRows) (book : Book) (shown : Shows rows book) where
  abbrev all_entries : List NamedCorr
  all_entries = entries_in rows.entries

  module _ (para : Para) (p : Paragraph) (in_book : Contains book.paragraphs p) (id : para.id ≡ pos p.id) (original : p.original ≡ chars para.original) where
    abbrev its_own : List NamedCorr
    its_own = filter (is_of para.id) all_entries

    -- the entries of the paragraph, in the order of its history
    in_order : (sorted : List NamedCorr) × IsPermutation its_own sorted × (entry_rows_of p ≡ map (spelled file.NamedCorr) sorted)
    in_order =
        let moved = IsPermutation-filter (is_of para.id) _ _ shown.entries in
        let left : filter (is_of para.id) (map (spelled file.NamedCorr) all_entries) ≡ map (spelled file.NamedCorr) its_own = filter-map (is_of para.id) (spelled file.NamedCorr) all_entries in
        let right : filter (is_of para.id) (flat_map entry_rows_of book.paragraphs) ≡ entry_rows_of p =
        ap (λ z. filter (is_of z) (flat_map entry_rows_of book.paragraphs)) id ∙ own-entries book.paragraphs p (paragraphs-apart book shown.sound) in_book in
        pull_back (spelled file.NamedCorr) (map (spelled file.NamedCorr) its_own) (entry_rows_of p)
        (subst (λ (xs : List NamedCorr). IsPermutation xs (entry_rows_of p)) left
        (subst (λ (ys : List NamedCorr). IsPermutation (filter (is_of para.id) (map (spelled file.NamedCorr) all_entries)) ys) right moved))
        its_own refl

    abbrev sorted : List NamedCorr
    sorted = in_order.0

    history-of : history_of sorted ≡ p.history
    history-of =
        sym (map-map read (spelled file.NamedCorr) sorted) ∙ (ap (map read) (sym in_order.2) ∙ reads-back p.id 1 p.history)

    taken : (n : ℕ) → history_of (take n sorted) ≡ take n p.history
    taken n = sym (take-map entry_of n sorted) ∙ ap (take n) history-of

    sound-entry_row : IsSoundHistory p.original p.history → (index : ℕ) (row : NamedCorr) → slice_get sorted index ≡ Some row → IsSoundEntryRow (chars para.original) sorted index row
    sound-entry_row sound index row at =
        let there : slice_get (entry_rows_of p) index ≡ Some (spelled file.NamedCorr row) =
        ap (λ (rs : List NamedCorr). slice_get rs index) in_order.2 ∙ (slice_get-map (spelled file.NamedCorr) sorted index ∙ ap (option_map (spelled file.NamedCorr)) at) in
        let found = entry-at p.id 1 p.history index (spelled file.NamedCorr row) there in
        let within = slice_get_within p.history index found.0 found.1 in
        let among : Contains all_entries row =
        from_filter (is_of para.id) all_entries row (Contains-permutation _ _ row (IsPermutation-sym _ _ in_order.1) (Contains-there sorted index row at)) in
        let next : 1 + index ≡ index + 1 = omega arith in
        subst (λ text. IsSoundEntryRow text sorted index row) original
        (record {
          number = sym (ap (λ (e : NamedCorr). e.entry.seq) found.2) ∙ (seq-of p.id (1 + index) found.0 ∙ ap pos next);
          room = omega (arith, within, sound.few);
          fits = subst (λ h. IsSoundCorrection (corrected_print p.original h) row ⊎ IsSoundUndo h row) (sym (taken index))
              (fits p.original (take index p.history) p.id (1 + index) found.0 row (sound.entries index found.0 found.1) found.2 (All-contains (HasUtf8Texts file.NamedCorr) all_entries row shown.texts.entries among));
          short = subst (λ h. length (corrected_print p.original h) ≤ most_print) (sym (taken (index + 1))) (sound.short (index + 1) (omega (arith, within)));
        })

  sound-entries_of : (para : Para) → Contains rows.paras para → HasSoundEntries all_entries para
  sound-entries_of para c =
      let part = para_part rows book shown para c in
      let p : Paragraph = part.1 in
      let is : para_of (part.0, p) ≡ spelled file.Para para = part.3 in
      let in_book = (from_enumerate 1 book.paragraphs part.0 p part.2).0 in
      let id : para.id ≡ pos p.id = sym (ap (λ (r : Para). r.id) is) in
      let original : p.original ≡ chars para.original = ap (λ (r : Para). r.original) is in
      let s = sound_paragraph rows book shown p in_book in
      record {
        sorted = sorted para p in_book id original;
        its_own = (in_order para p in_book id original).1;
        each = sound-entry_row para p in_book id original s.history;
        print = ap₂ corrected_print (sym original) (history-of para p in_book id original) ∙ ap (λ (r : Para). r.print) is;
      }

  has-para : (p : Paragraph) (id : ℤ) → Contains book.paragraphs p → pos p.id ≡ id → HasPara rows.paras id
  has-para p id c named = let row = para_row rows book shown p c in (row.0, row.1, row.2 ∙ named)

  pub sound-entries : (id : ℤ) → ¬ IsDamagedEntries rows.paras all_entries id
  sound-entries id (inl (para, c, named, unsound)) = unsound (sound-entries_of para c)
  sound-entries id (inr (row, c, named, none)) =
      let shown_row = Contains-permutation _ _ (spelled file.NamedCorr row) shown.entries (Contains-map (spelled file.NamedCorr) all_entries row c) in
      let found = from_flat_map entry_rows_of book.paragraphs (spelled file.NamedCorr row) shown_row in
      none (has-para found.0 id found.1 (sym (named_in found.0.id 1 found.0.history (spelled file.NamedCorr row) found.2) ∙ named))

  -- ---- cache

  module _ (caches : List ParaCells) (are : AreCached book caches) where
    cache-keys : IsPermutation (map (λ row. row.para) caches) (map pos (range_with_len 1 (length book.paragraphs)))
    cache-keys =
        IsPermutation-trans _ _ _ are.one_each
        (subst (λ (zs : List ℤ). IsPermutation zs (map pos (range_with_len 1 (length book.paragraphs)))) (map-map pos (λ (p : Paragraph). p.id) book.paragraphs)
        (numbers-ids rows book shown))

    once-cached : (row : ParaCells) → Contains caches row → rows_with (λ other. other.para) row.para caches ≡ 1
    once-cached row c =
        let number = key-number (λ other. other.para) caches (length book.paragraphs) cache-keys row c in
        ap (λ z. rows_with (λ (other : ParaCells). other.para) z caches) number.1
        ∙ key-once (λ other. other.para) caches (length book.paragraphs) cache-keys number.0 number.2 number.3

    sound-cache_row : (row : ParaCells) → Contains caches row → IsSoundCacheRow rows.tabs rows.paras caches row
    sound-cache_row row c =
        let is = All-contains (IsCached book) caches row are.cells c in
        let para = para_row rows book shown is.paragraph is.there in
        let meaning : Meaning = is.cells.0 in
        let choices : List Choice = is.cells.1 in
        let by = is.cells.2 in
        record {
          once = once-cached row c;
          paragraph = para.0;
          there = para.1;
          named = para.2 ∙ sym is.named;
          meaning = meaning;
          table = its_table rows book shown para.0 is.paragraph by.text meaning para.1 para.4 by.found by.means;
          choices = choices;
          tiles = subst (λ print. Tiles meaning print choices) (sym para.3) by.tiles;
          cells = is.cells.3 ∙ ap (λ print. braille meaning print choices) (sym para.3);
        }

    sound-caches : (id : ℤ) → ¬ IsDamagedCache rows.tabs rows.paras caches id
    sound-caches id (inl (row, c, named, unsound)) = unsound (sound-cache_row row c)
    sound-caches id (inr ((para, c, named), none)) =
        let number = key-number (λ other. other.id) rows.paras (length book.paragraphs) (para-keys rows book shown) para c in
        let one = key-once (λ other. other.para) caches (length book.paragraphs) cache-keys number.0 number.2 number.3 in
        let zero_rows : rows_with (λ (other : ParaCells). other.para) (pos number.0) caches ≡ 0 = ap (λ z. rows_with (λ (other : ParaCells). other.para) z caches) (sym number.1 ∙ named) ∙ none in
        omega (arith, one, zero_rows)

  pub sound : (table : FileTable) (id : ℤ) → ¬ IsDamaged rows table id
  sound file.Book id = sound-book rows book shown id
  sound file.Tab id = sound-tab rows book shown id
  sound file.Para id = sound-para rows book shown id
  sound file.Corr id = λ (named, damaged). sound-entries id damaged
  sound file.NamedCorr id = λ (named, damaged). sound-entries id damaged
  sound file.Mark id = sound-mark rows book shown id
  sound file.Cache id = λ (caches, are, damaged). sound-caches caches (shown.caches caches are) id damaged
