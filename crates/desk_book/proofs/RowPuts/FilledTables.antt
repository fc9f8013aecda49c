-- What a book puts into new tables of its file, by what is held of it.
use Rattle.std.proofs.Common.{◌≡◌, ℕ, ◌+◌, ◌<◌, ◌≤◌, ℤ, pos, SFits, to_z, of_z, w64, List, [], ◌∷◌, ◌++◌, drop, map, take, length, get_or, None, Some, Contains, append-nil, refl, sym, ap, ap₂, subst, ◌∙◌, arith}
use Rattle.std.specs.List.{All, enumerate_from, flat_map}
use Rattle.std.specs.Prelude.{slice_get}
use Rattle.std.proofs.Math.Facts.{to_z-of_z}
use Rattle.std.proofs.lemmas.List.{drop_all, get_or-map, length-map, length-take-le, map-append}
use Rattle.std.proofs.lemmas.List.Elements.{All-append, All-contains_itself, All-head, All-map, All-nil, All-tail, All-weaker}
use Rattle.std.proofs.lemmas.List.FromFn.{get_or-enumerate_from, length-enumerate_from}
use Rattle.std.proofs.lemmas.Option.{slice_get-get_or}
use Rattle.std.proofs.lemmas.Simd.{map-map}
use Rattle.louis_translate.specs.Braille.{braille}
use Rattle.louis_translate.specs.Tiling.{Tiles}
use Rattle.desk_model.specs.declared.new_tables.NewTables.{NewTables}
use Rattle.desk_model.specs.declared.new_tables.NewTables.TheVariants.{Braille, Entries, EntriesAndBraille}
use Rattle.desk_memory.specs.declared.history.HeldEntry.{HeldEntry}
use Rattle.desk_memory.specs.declared.marks.HeldMark.{HeldMark}
use Rattle.desk_memory.specs.declared.paragraphs.Paragraph.{Paragraph as HeldParagraph}
use Rattle.desk_model.specs.Book.{Book, Entry, Paragraph}
use Rattle.desk_book.specs.ChangePuts.{entry_row}
use Rattle.desk_model.specs.Limits.{most_paragraphs}
use Rattle.desk_model.specs.Loans.{row_number}
use Rattle.desk_parts.specs.FileRows.{HasUtf8Texts, spelled}
use Rattle.desk_model.specs.FilledRows.{AreEntriesOf, Fills}
use Rattle.desk_book.specs.Filling.{braille_from, braille_put, entries_after, entries_left, entry_put, entry_puts_from, histories_from, history_puts}
use Rattle.desk_memory.specs.Histories.{entries_held, entry_held}
use Rattle.desk_memory.specs.Held.{HeldParagraphs, HeldTables, IsHeld, IsHeldParagraph, book_held, paragraph_held}
use Rattle.desk_parts.specs.declared.file_table.FileTable.TheVariants as file
use Rattle.desk_parts.specs.Puts.{PutRow, RowPut, RowPuts, put_rows}
use Rattle.desk_parts.specs.Rows.{ParaCells, NamedCorr}
use Rattle.desk_model.specs.Shows.{AreCached, IsCached, entry_row_of, entry_rows_of}
use Rattle.desk_model.specs.Sound.{IsSoundParagraph}
use Rattle.desk_model.proofs.Lists.Items.{All-from_map, drop-there}
use Rattle.desk_memory.proofs.Callers.{means-held, text_of-held}
use Rattle.desk_model.proofs.Lists.Members.{Contains-map}
use Rattle.desk_model.proofs.Lists.Permutations.{IsPermutation-same}
use Rattle.desk_book.proofs.RowPuts.PutLists.{numbered-past, numbered-there}
use Rattle.desk_book.proofs.RowPuts.PutPlaces.{map-agree}
use Rattle.desk_book.proofs.RowPuts.PutPrints.{entry-spelled, entry-texts}
use Rattle.desk_model.proofs.Rows.PutRows.{number-small}
use Rattle.desk_model.proofs.Books.SoundBooks.{paragraph_of-own, paragraph_of-within}

-- ---- entries

-- the row of an entry with its number in the history of the paragraph with this id
abbrev numbered_row : ℕ → ℕ × HeldEntry → NamedCorr
numbered_row id entry = entry_row id entry.0 entry.1

-- the rows of a paragraph's history
abbrev rows_held : ℕ × HeldParagraph → List NamedCorr
rows_held entry = map (numbered_row entry.0) (enumerate_from 1 entry.1.history)

abbrev pub entries_of : HeldParagraphs → List NamedCorr
entries_of held = flat_map rows_held held

pub entries-put : (held : HeldParagraphs) → flat_map history_puts held ≡ put_rows file.NamedCorr (entries_of held)
entries-put [] = refl
entries-put (entry ∷ held) =
    ap₂ (λ (xs ys : List RowPut). xs ++ ys) (sym (map-map (PutRow file.NamedCorr) (numbered_row entry.0) (enumerate_from 1 entry.1.history))) (entries-put held)
    ∙ sym (map-append (PutRow file.NamedCorr) (rows_held entry) (entries_of held))

enumerate_from-map : {X Y : Type 0} (f : X → Y) (n : ℕ) (xs : List X) → enumerate_from n (map f xs) ≡ map (λ (e : ℕ × X). (e.0, f e.1)) (enumerate_from n xs)
enumerate_from-map f n [] = refl
enumerate_from-map f n (x ∷ xs) = ap (λ (rest : List _). (n, f x) ∷ rest) (enumerate_from-map f (n + 1) xs)

-- the row shows the entry with this number of the paragraph with this id
abbrev IsRow : ℕ → ℕ × HeldEntry → Type 0
IsRow id entry = (spelled file.NamedCorr (numbered_row id entry) ≡ entry_row_of id (entry.0, entry_held entry.1)) × HasUtf8Texts file.NamedCorr (numbered_row id entry)

module _ (book : Book) where
  -- a paragraph that is held stands for a sound one, and has a small id
  abbrev IsSoundHeld : ℕ × HeldParagraph → Type 0
  IsSoundHeld entry = (entry.0 ≤ 20000) × IsSoundParagraph book (paragraph_held entry)

  are-rows : (entry : ℕ × HeldParagraph) → IsSoundHeld entry → All (IsRow entry.0) (enumerate_from 1 entry.1.history)
  are-rows (id, held) (small, sound) = λ k d within.
      let history : List HeldEntry = held.history in
      let short : k < length history = omega (arith, length-enumerate_from 1 history, within) in
      let entry : HeldEntry = get_or history k d.1 in
      let before : List Entry = take k (entries_held history) in
      let long : length (entries_held history) ≡ length history = length-map history entry_held in
      let few : length (entries_held history) ≤ 10000 = sound.history.few in
      let count : length before ≡ k = length-take-le k (entries_held history) (omega (arith, long, short)) in
      let here : slice_get (entries_held history) k ≡ Some (entry_held entry) =
      slice_get-get_or (entries_held history) k (entry_held d.1) (omega (arith, long, short)) ∙ ap (λ e. Some e) (get_or-map entry_held history k d.1 (entry_held d.1) short) in
      let is = sound.history.entries k (entry_held entry) here in
      let print = sound.history.short k (omega (arith, long, short)) in
      let early : 1 + k ≤ 10001 = omega (arith, few, long, short) in
      let seen : length before ≤ 10000 = omega (arith, few, count, long, short) in
      subst (IsRow id) (sym (get_or-enumerate_from 1 history k d short)) (
        entry-spelled held.original before id (1 + k) small early seen print entry is,
        entry-texts held.original before id (1 + k) small early seen print entry is,
      )

  spelled-history : (entry : ℕ × HeldParagraph) → IsSoundHeld entry → map (spelled file.NamedCorr) (rows_held entry) ≡ entry_rows_of (paragraph_held entry)
  spelled-history (id, held) sound =
      let all = enumerate_from 1 held.history in
      let held_as : ℕ × HeldEntry → ℕ × Entry = λ e. (e.0, entry_held e.1) in
      map-map (spelled file.NamedCorr) (numbered_row id) all
      ∙ (map-agree (λ e. spelled file.NamedCorr (numbered_row id e)) (λ e. entry_row_of id (held_as e)) all
      (All-weaker (IsRow id) (λ e. spelled file.NamedCorr (numbered_row id e) ≡ entry_row_of id (held_as e)) (λ e is. is.0) all (are-rows (id, held) sound))
      ∙ (sym (map-map (entry_row_of id) held_as all) ∙ ap (map (entry_row_of id)) (sym (enumerate_from-map entry_held 1 held.history))))

  spelled-all : (held : HeldParagraphs) → All IsSoundHeld held → map (spelled file.NamedCorr) (entries_of held) ≡ flat_map entry_rows_of (map paragraph_held held)
  spelled-all [] all = refl
  spelled-all (entry ∷ held) all =
      map-append (spelled file.NamedCorr) (rows_held entry) (entries_of held)
      ∙ ap₂ (λ (xs ys : List NamedCorr). xs ++ ys) (spelled-history entry (All-head IsSoundHeld entry held all)) (spelled-all held (All-tail IsSoundHeld entry held all))

  texts-all : (held : HeldParagraphs) → All IsSoundHeld held → All (HasUtf8Texts file.NamedCorr) (entries_of held)
  texts-all [] all = All-nil (HasUtf8Texts file.NamedCorr)
  texts-all (entry ∷ held) all =
      let history = enumerate_from 1 entry.1.history in
      All-append (HasUtf8Texts file.NamedCorr) (rows_held entry) (entries_of held)
      (All-map (HasUtf8Texts file.NamedCorr) (numbered_row entry.0) history
      (All-weaker (IsRow entry.0) (λ e. HasUtf8Texts file.NamedCorr (numbered_row entry.0 e)) (λ e is. is.1) history (are-rows entry (All-head IsSoundHeld entry held all))))
      (texts-all held (All-tail IsSoundHeld entry held all))

-- ---- braille

-- the row of a paragraph's braille
abbrev cached_row : ℕ × HeldParagraph → ParaCells
cached_row entry = record { para = row_number entry.0; cells = entry.1.cells }

abbrev pub caches_of : HeldParagraphs → List ParaCells
caches_of held = map cached_row held

pub caches-put : (held : HeldParagraphs) → map braille_put held ≡ put_rows file.Cache (caches_of held)
caches-put held = sym (map-map (PutRow file.Cache) cached_row held)

-- ---- of a book that is held

module _ (version : ℕ) (tables : HeldTables) (held : HeldParagraphs) (marks : List HeldMark) (is : IsHeld version tables held marks) where
  abbrev book : Book
  book = book_held version tables held marks

  sound-held : All (IsSoundHeld book) held
  sound-held = λ k d within.
      let entry : ℕ × HeldParagraph = get_or held k d in
      let p : Paragraph = paragraph_held entry in
      let there : Contains book.paragraphs p = Contains-map paragraph_held held entry (All-contains_itself held k d within) in
      let few : length book.paragraphs ≤ 20000 = is.sound.few_paragraphs in
      let to = (paragraph_of-within book is.sound p.id p (paragraph_of-own book is.sound p there)).1 in
      (omega (arith, few, to), All-from_map (IsSoundParagraph book) paragraph_held held is.sound.paragraphs k d within)

  pub of-book : AreEntriesOf book (entries_of held)
  of-book = (texts-all book held sound-held, IsPermutation-same _ (flat_map entry_rows_of book.paragraphs) (spelled-all book held sound-held))

  small-ids : map (λ (row : ParaCells). row.para) (caches_of held) ≡ map (λ (p : Paragraph). pos p.id) book.paragraphs
  small-ids =
      map-map (λ (row : ParaCells). row.para) cached_row held
      ∙ (map-agree (λ (entry : ℕ × HeldParagraph). row_number entry.0) (λ (entry : ℕ × HeldParagraph). pos entry.0) held
      (All-weaker (IsSoundHeld book) (λ (entry : ℕ × HeldParagraph). row_number entry.0 ≡ pos entry.0) (λ entry facts. let few = facts.0 in number-small entry.0 (omega arith)) held sound-held)
      ∙ sym (map-map (λ (p : Paragraph). pos p.id) paragraph_held held))

  cached-own : (entry : ℕ × HeldParagraph) → Contains held entry → IsSoundHeld book entry → IsHeldParagraph tables entry → IsCached book (cached_row entry)
  cached-own entry there facts own =
      let p : Paragraph = paragraph_held entry in
      let few = facts.0 in
      record {
        paragraph = p;
        there = Contains-map paragraph_held held entry there;
        named = number-small entry.0 (omega arith);
        cells = (
          own.table.rules,
          own.choices,
          record {
            text = own.table.text;
            found = text_of-held version tables held marks is entry.1.table own.table own.found;
            means = means-held version tables held marks is entry.1.table own.table own.found;
            tiles = subst (λ (print : List ℕ). Tiles own.table.rules print own.choices) own.print own.tiles;
          },
          own.cells ∙ ap (λ (print : List ℕ). braille own.table.rules print own.choices) own.print,
        );
      }

  pub are-cached : AreCached book (caches_of held)
  are-cached = record {
    one_each = IsPermutation-same _ (map (λ (p : Paragraph). pos p.id) book.paragraphs) small-ids;
    cells = All-map (IsCached book) cached_row held (λ k d within.
        cached-own (get_or held k d) (All-contains_itself held k d within) (sound-held k d within) (is.translated k d within));
  }

  pub few-held : length held ≤ most_paragraphs
  few-held = let few : length book.paragraphs ≤ 20000 = is.sound.few_paragraphs in omega (arith, length-map held paragraph_held, few)

  -- what the lists of entries and of braille are fills these tables
  module _ (whole : Book) (same : book ≡ whole) (news : NewTables) where
    abbrev row_at : ℤ → RowPut
    row_at n = PutRow file.Book (record { id = pos 1; format = pos 2; version = n })

    all-put : (end : ℕ) → end ≡ length held → drop end held ≡ []
    all-put end is_end = drop_all end held (omega (arith, is_end))

    module _ (n : ℤ) (fits : SFits w64 n) (at : n ≡ row_number version) where
      abbrev version_put : RowPut
      version_put = row_at (to_z w64 (of_z w64 n))

      version_is : to_z w64 (of_z w64 n) ≡ pos version
      version_is = let small = is.sound.version in to_z-of_z {w = w64} {z = n} fits ∙ (at ∙ number-small version (omega arith))

      pub filled-both : news ≡ EntriesAndBraille → Fills news whole (version_put ∷ (histories_from 0 held ++ braille_from 0 held))
      filled-both which =
          subst (λ (t : NewTables). Fills t whole (version_put ∷ (histories_from 0 held ++ braille_from 0 held))) (sym which)
          (subst (λ (b : Book). Fills EntriesAndBraille b (version_put ∷ (histories_from 0 held ++ braille_from 0 held))) same (
            entries_of held,
            caches_of held,
            of-book,
            are-cached,
            λ i. row_at (version_is i) ∷ (entries-put held i ++ caches-put held i),
          ))

      pub filled-entries : (end : ℕ) → end ≡ length held → news ≡ Entries → Fills news whole (version_put ∷ (histories_from 0 held ++ braille_from end held))
      filled-entries end is_end which =
          subst (λ (t : NewTables). Fills t whole (version_put ∷ (histories_from 0 held ++ braille_from end held))) (sym which)
          (subst (λ (b : Book). Fills Entries b (version_put ∷ (histories_from 0 held ++ braille_from end held))) same (
            entries_of held,
            of-book,
            λ i. row_at (version_is i) ∷ (ap (λ (left : List (ℕ × HeldParagraph)). histories_from 0 held ++ map braille_put left) (all-put end is_end) ∙ (append-nil (histories_from 0 held) ∙ entries-put held)) i,
          ))

    pub filled-braille : (end : ℕ) → end ≡ length held → news ≡ Braille → Fills news whole (histories_from end held ++ braille_from 0 held)
    filled-braille end is_end which =
        subst (λ (t : NewTables). Fills t whole (histories_from end held ++ braille_from 0 held)) (sym which)
        (subst (λ (b : Book). Fills Braille b (histories_from end held ++ braille_from 0 held)) same
        (caches_of held, are-cached, ap (λ (left : List (ℕ × HeldParagraph)). flat_map history_puts left ++ braille_from 0 held) (all-put end is_end) ∙ caches-put held))

-- ---- the paragraphs from a place on

pub entries-whole : (held : HeldParagraphs) → entries_after 0 held ≡ flat_map history_puts held
entries-whole [] = refl
entries-whole (entry ∷ held) = refl

module _ (held : HeldParagraphs) (place at : ℕ) where
  -- where no paragraph is there
  pub entries-past : drop place held ≡ [] → entries_left place at held ≡ []
  entries-past none = ap (entries_after at) none

  -- where one is
  module _ (id : ℕ) (paragraph : HeldParagraph) (there : slice_get held place ≡ Some (id, paragraph)) where
    entries-there : (n : ℕ) → entries_left place n held ≡ entry_puts_from id n paragraph.history ++ histories_from (place + 1) held
    entries-there n = ap (entries_after n) (drop-there held place (id, paragraph) there).0

    -- without more entries
    pub entries-none : slice_get paragraph.history at ≡ None → entries_left place at held ≡ entries_left (place + 1) 0 held
    entries-none none =
        entries-there at ∙ (ap (λ (left : List (ℕ × HeldEntry)). map (entry_put id) left ++ histories_from (place + 1) held) (numbered-past paragraph.history at none)
        ∙ sym (entries-whole (drop (place + 1) held)))

    -- with one more
    pub entries-next : (entry : HeldEntry) → slice_get paragraph.history at ≡ Some entry → entries_left place at held ≡ entry_put id (at + 1, entry) ∷ entries_left place (at + 1) held
    entries-next entry next =
        entries-there at ∙ (ap (λ (left : List (ℕ × HeldEntry)). map (entry_put id) left ++ histories_from (place + 1) held) (numbered-there paragraph.history at entry next)
        ∙ ap (λ (left : RowPuts). entry_put id (at + 1, entry) ∷ left) (sym (entries-there (at + 1))))
