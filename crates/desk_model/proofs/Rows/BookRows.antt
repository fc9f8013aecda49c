-- Rows that show a sound book.
use Rattle.std.proofs.Common.{◌≡◌, ℕ, ◌+◌, ◌<◌, ◌≤◌, ◌&&◌, pos, true, List, [], ◌∷◌, map, take, get_or, Some, Contains, refl, ap₂, subst, arith, inl, inr, None, sym, ◌∙◌, IsNone, IsUtf8, IsSome, chars}
use Rattle.std.specs.Char.{IsScalar}
use Rattle.std.specs.List.{All, enumerate_from, flat_map}
use Rattle.std.proofs.Math.Utf8.{encodes, scalars, low_scalar}
use Rattle.std.proofs.lemmas.Bool.{cases_lt}
use Rattle.std.proofs.lemmas.List.Elements.{All-append, All-cons, All-contains_itself, All-head, All-map, All-nil, All-tail, All-weaker}
use Rattle.std.proofs.lemmas.Option.{slice_get-get_or}
use Rattle.std.proofs.lemmas.Str.{chars-encodes, chars-nil}
use Rattle.louis_translate.specs.Braille.{braille}
use Rattle.louis_translate.proofs.Tilings.{one_tiling}
use Rattle.desk_parts.specs.declared.file_table.FileTable.TheVariants.{Corr as CorrTable, NamedCorr as NamedCorrTable}
use Rattle.desk_model.specs.Book.{Entry, Corrects, Undoes, Paragraph, Book}
use Rattle.desk_parts.specs.declared.file_table.FileTable.TheVariants as file
use Rattle.desk_parts.specs.FileRows.{FileRows, HasUtf8Texts, Named, Unnamed, spelled, table_of}
use Rattle.desk_model.specs.ValidNames.{IsTableName, is_name_character}
use Rattle.desk_model.specs.Print.{print_of}
use Rattle.desk_parts.specs.Rows.{Corr, Tab, Para, NamedCorr, Mark as MarkRow, ParaCells}
use Rattle.desk_model.specs.Shows.{AreCached, IsCached, IsUnnamed, Shows, book_row_of, entry_row_of, entry_rows_of, mark_row_of, para_of, tab_of}
use Rattle.desk_model.proofs.Rows.ParaRows.{paras_of}
use Rattle.desk_model.specs.Sound.{IsSound, IsSoundEntry, IsSoundMark, IsSoundParagraph, IsSoundTable}
use Rattle.desk_model.specs.BookTexts.{AreCharacters}
use Rattle.desk_model.proofs.Lists.Permutations.{IsPermutation-same}
use Rattle.desk_model.proofs.Books.PrintCharacters.{HasText, print-all}
use Rattle.desk_model.proofs.Books.SoundBooks.{IsSoundTable-found}

-- ---- characters

scalars-all : (cs : List ℕ) → AreCharacters cs → scalars cs ≡ true
scalars-all [] all = refl
scalars-all (c ∷ cs) all = ap₂ (λ a b. a && b) (All-head IsScalar c cs all) (scalars-all cs (All-tail IsScalar c cs all))

pub encoded-text : (cs : List ℕ) → AreCharacters cs → IsUtf8 (encodes cs)
encoded-text cs all = (cs, (scalars-all cs all, refl))

pub spelled-encoded : (cs : List ℕ) → AreCharacters cs → chars (encodes cs) ≡ cs
spelled-encoded cs all = chars-encodes cs (scalars-all cs all)

-- each character of a name is ASCII
pub name_low : (c : ℕ) → is_name_character c ≡ true → c < 128
name_low c is = elim (cases_lt c 128) [ inl low ↦ low | inr high ↦ absurd (not_name high) ]
  where
    not_name : 128 ≤ c → ⊥
    not_name high = grind (arith, is)

name_scalar : (c : ℕ) → is_name_character c ≡ true → IsScalar c
name_scalar c is = let low = name_low c is in low_scalar c (omega (arith, low))

pub name-characters : (name : List ℕ) → IsTableName name → AreCharacters name
name-characters name named = All-weaker (λ c. is_name_character c ≡ true) IsScalar name_scalar name named.characters

-- ---- entries

-- the texts of an entry are of characters
abbrev pub HasCharacters : Entry → Type 0
HasCharacters (Corrects r who) = AreCharacters r.text × AreCharacters who
HasCharacters (Undoes undone) = Unit {0}

entry-characters : (original : List ℕ) (before : List Entry) (entry : Entry) → IsSoundEntry original before entry → HasCharacters entry
entry-characters original before (Corrects r who) sound = (sound.1.characters, sound.3)
entry-characters original before (Undoes undone) sound = tt

pub history-characters : (book : Book) (p : Paragraph) → IsSoundParagraph book p → All HasCharacters p.history
history-characters book p sound = λ k d within.
    entry-characters p.original (take k p.history) (get_or p.history k d) (sound.history.entries k (get_or p.history k d) (slice_get-get_or p.history k d within))

pub entry-text : (entry : Entry) → HasCharacters entry → HasText IsScalar entry
entry-text (Corrects r who) texts = texts.0
entry-text (Undoes undone) texts = tt

-- ---- rows, with their texts as bytes

abbrev encoded_tab : Tab → Tab
encoded_tab t = record t { name = encodes t.name }

abbrev encoded_para : Para → Para
encoded_para p = record p { tab = encodes p.tab; original = encodes p.original; print = encodes p.print }

abbrev encoded_entry : NamedCorr → NamedCorr
encoded_entry e = record { entry = record e.entry { body = encodes e.entry.body }; who = encodes e.who }

abbrev encoded_mark : MarkRow → MarkRow
encoded_mark m = record m { note = encodes m.note }

map-back : {X : Type 0} (P : X → Type 0) (back to : X → X) → ((x : X) → P x → back (to x) ≡ x) → (xs : List X) → All P xs → map back (map to xs) ≡ xs
map-back P back to undone [] all = refl
map-back P back to undone (x ∷ xs) all = λ i. undone x (All-head P x xs all) i ∷ map-back P back to undone xs (All-tail P x xs all) i

abbrev TabCharacters : Tab → Type 0
TabCharacters t = AreCharacters t.name

abbrev ParaCharacters : Para → Type 0
ParaCharacters p = AreCharacters p.tab × AreCharacters p.original × AreCharacters p.print

abbrev EntryCharacters : NamedCorr → Type 0
EntryCharacters e = AreCharacters e.entry.body × AreCharacters e.who

abbrev MarkCharacters : MarkRow → Type 0
MarkCharacters m = AreCharacters m.note

abbrev OfCharacters : Paragraph → Type 0
OfCharacters p = AreCharacters p.table × AreCharacters p.original × AreCharacters (print_of p)

paras-characters : (n : ℕ) (ps : List Paragraph) → All OfCharacters ps → All ParaCharacters (map para_of (enumerate_from n ps))
paras-characters n [] all = All-nil ParaCharacters
paras-characters n (p ∷ ps) all =
    All-cons ParaCharacters (para_of (n, p)) (map para_of (enumerate_from (n + 1) ps)) (All-head OfCharacters p ps all)
    (paras-characters (n + 1) ps (All-tail OfCharacters p ps all))

row-characters : (id n : ℕ) (entry : Entry) → HasCharacters entry → EntryCharacters (entry_row_of id (n, entry))
row-characters id n (Corrects r who) texts = texts
row-characters id n (Undoes undone) texts = (All-nil IsScalar, All-nil IsScalar)

rows-characters : (id n : ℕ) (entries : List Entry) → All HasCharacters entries → All EntryCharacters (map (entry_row_of id) (enumerate_from n entries))
rows-characters id n [] all = All-nil EntryCharacters
rows-characters id n (entry ∷ entries) all =
    All-cons EntryCharacters (entry_row_of id (n, entry)) (map (entry_row_of id) (enumerate_from (n + 1) entries))
    (row-characters id n entry (All-head HasCharacters entry entries all)) (rows-characters id (n + 1) entries (All-tail HasCharacters entry entries all))

entries-characters : (ps : List Paragraph) → All (λ p. All HasCharacters p.history) ps → All EntryCharacters (flat_map entry_rows_of ps)
entries-characters [] all = All-nil EntryCharacters
entries-characters (p ∷ ps) all =
    All-append EntryCharacters (entry_rows_of p) (flat_map entry_rows_of ps) (rows-characters p.id 1 p.history (All-head (λ q. All HasCharacters q.history) p ps all))
    (entries-characters ps (All-tail (λ q. All HasCharacters q.history) p ps all))

-- ---- entries without names

abbrev encoded_corr : NamedCorr → Corr
encoded_corr e = record e.entry { body = encodes e.entry.body }

-- an entry as that of a proofreader without a name
abbrev without_name : Corr → NamedCorr
without_name entry = record { entry = entry; who = [] }

abbrev HasNoName : NamedCorr → Type 0
HasNoName e = e.who ≡ []

without_name-back : (es : List NamedCorr) → All EntryCharacters es → All HasNoName es → map (spelled file.NamedCorr) (map without_name (map encoded_corr es)) ≡ es
without_name-back [] all none = refl
without_name-back (e ∷ es) all none =
    let texts = All-head EntryCharacters e es all in
    let name : chars [] ≡ e.who = chars-nil ∙ sym (All-head HasNoName e es none) in
    let rest = without_name-back es (All-tail EntryCharacters e es all) (All-tail HasNoName e es none) in
    λ i. record { entry = record e.entry { body = spelled-encoded e.entry.body texts.0 i }; who = name i } ∷ rest i

without_name-texts : (es : List NamedCorr) → All EntryCharacters es → All (HasUtf8Texts file.NamedCorr) (map without_name (map encoded_corr es))
without_name-texts [] all = All-nil (HasUtf8Texts file.NamedCorr)
without_name-texts (e ∷ es) all =
    let texts = All-head EntryCharacters e es all in
    All-cons (HasUtf8Texts file.NamedCorr) (without_name (encoded_corr e)) (map without_name (map encoded_corr es)) (encoded-text e.entry.body texts.0, ([], (refl, refl)))
    (without_name-texts es (All-tail EntryCharacters e es all))

module _ (book : Book) (sound : IsSound book) where
  -- ---- the cells of its paragraphs

  abbrev IsIn : Paragraph → Type 0
  IsIn p = Contains book.paragraphs p × IsSoundParagraph book p

  abbrev cells_for : (p : Paragraph) → IsSoundParagraph book p → List ℕ
  cells_for p s = braille s.meaning (print_of p) (one_tiling s.meaning (print_of p)).0

  abbrev cached : (ps : List Paragraph) → All IsIn ps → List ParaCells
  cached [] all = []
  cached (p ∷ ps) all = record { para = pos p.id; cells = cells_for p (All-head IsIn p ps all).1 } ∷ cached ps (All-tail IsIn p ps all)

  cached-ids : (ps : List Paragraph) (all : All IsIn ps) → map (λ row. row.para) (cached ps all) ≡ map (λ p. pos p.id) ps
  cached-ids [] all = refl
  cached-ids (p ∷ ps) all = λ i. pos p.id ∷ cached-ids ps (All-tail IsIn p ps all) i

  cached-cells : (ps : List Paragraph) (all : All IsIn ps) → All (IsCached book) (cached ps all)
  cached-cells [] all = All-nil (IsCached book)
  cached-cells (p ∷ ps) all =
      let is = All-head IsIn p ps all in
      let tiled = one_tiling is.1.meaning (print_of p) in
      All-cons (IsCached book) (record { para = pos p.id; cells = cells_for p is.1 }) (cached ps (All-tail IsIn p ps all))
      (record {
        paragraph = p;
        there = is.0;
        named = refl;
        cells = (is.1.meaning, tiled.0, record { text = is.1.text; found = is.1.found; means = is.1.means; tiles = tiled.1 }, refl);
      }) (cached-cells ps (All-tail IsIn p ps all))

  all-in : All IsIn book.paragraphs
  all-in = λ k d within. (All-contains_itself book.paragraphs k d within, sound.paragraphs k d within)

  are-cached : AreCached book (cached book.paragraphs all-in)
  are-cached = record {
    one_each = IsPermutation-same _ (map (λ p. pos p.id) book.paragraphs) (cached-ids book.paragraphs all-in);
    cells = cached-cells book.paragraphs all-in;
  }

  pub book_caches : (caches : List ParaCells) × AreCached book caches
  book_caches = (cached book.paragraphs all-in, are-cached)

  -- ---- the characters of its texts

  tab_characters : All TabCharacters (map tab_of book.tables)
  tab_characters = All-map TabCharacters tab_of book.tables (All-weaker IsSoundTable (λ t. AreCharacters t.0) (λ t s. name-characters t.0 s.named) book.tables sound.tables)

  para_characters : All ParaCharacters (paras_of book.paragraphs)
  para_characters = paras-characters 1 book.paragraphs (λ k d within.
      let p : Paragraph = get_or book.paragraphs k d in
      let s = sound.paragraphs k d within in (
        name-characters p.table (IsSoundTable-found book sound p.table s.text s.found).named,
        s.clean.characters,
        print-all IsScalar p s.clean.characters (All-weaker HasCharacters (HasText IsScalar) entry-text p.history (history-characters book p s)),
      ))

  entry_characters : All EntryCharacters (flat_map entry_rows_of book.paragraphs)
  entry_characters = entries-characters book.paragraphs (λ k d within. history-characters book (get_or book.paragraphs k d) (sound.paragraphs k d within))

  mark_characters : All MarkCharacters (map mark_row_of book.marks)
  mark_characters = All-map MarkCharacters mark_row_of book.marks (All-weaker (IsSoundMark book) (λ m. AreCharacters m.note) (λ m s. s.clean.characters) book.marks sound.marks)

  -- ---- its rows, in UTF-8

  abbrev rows_for : FileRows
  rows_for = record {
    books = book_row_of 2 book.version ∷ [];
    tabs = map encoded_tab (map tab_of book.tables);
    paras = map encoded_para (paras_of book.paragraphs);
    entries = Named (map encoded_entry (flat_map entry_rows_of book.paragraphs));
    marks = map encoded_mark (map mark_row_of book.marks);
    caches = Some (cached book.paragraphs all-in);
  }

  rows-show : Shows rows_for book
  rows-show = record {
    sound = sound;
    texts = record {
      tabs = All-map (HasUtf8Texts file.Tab) encoded_tab (map tab_of book.tables) (All-weaker TabCharacters (λ t. HasUtf8Texts file.Tab (encoded_tab t)) (λ t all. encoded-text t.name all) (map tab_of book.tables) tab_characters);
      paras = All-map (HasUtf8Texts file.Para) encoded_para (paras_of book.paragraphs)
          (All-weaker ParaCharacters (λ p. HasUtf8Texts file.Para (encoded_para p)) (λ p all. (encoded-text p.tab all.0, encoded-text p.original all.1, encoded-text p.print all.2)) (paras_of book.paragraphs) para_characters);
      entries = All-map (HasUtf8Texts file.NamedCorr) encoded_entry (flat_map entry_rows_of book.paragraphs)
          (All-weaker EntryCharacters (λ e. HasUtf8Texts file.NamedCorr (encoded_entry e)) (λ e all. (encoded-text e.entry.body all.0, encoded-text e.who all.1)) (flat_map entry_rows_of book.paragraphs) entry_characters);
      marks = All-map (HasUtf8Texts file.Mark) encoded_mark (map mark_row_of book.marks) (All-weaker MarkCharacters (λ m. HasUtf8Texts file.Mark (encoded_mark m)) (λ m all. encoded-text m.note all) (map mark_row_of book.marks) mark_characters);
    };
    row = refl;
    tables = IsPermutation-same _ (map tab_of book.tables) (map-back TabCharacters (spelled file.Tab) encoded_tab (λ t all. λ i. record t { name = spelled-encoded t.name all i }) (map tab_of book.tables) tab_characters);
    paragraphs = IsPermutation-same _ (paras_of book.paragraphs) (map-back ParaCharacters (spelled file.Para) encoded_para
        (λ p all. λ i. record p { tab = spelled-encoded p.tab all.0 i; original = spelled-encoded p.original all.1 i; print = spelled-encoded p.print all.2 i }) (paras_of book.paragraphs) para_characters);
    entries = IsPermutation-same _ (flat_map entry_rows_of book.paragraphs) (map-back EntryCharacters (spelled file.NamedCorr) encoded_entry
        (λ e all. λ i. record { entry = record e.entry { body = spelled-encoded e.entry.body all.0 i }; who = spelled-encoded e.who all.1 i }) (flat_map entry_rows_of book.paragraphs) entry_characters);
    marks = IsPermutation-same _ (map mark_row_of book.marks) (map-back MarkCharacters (spelled file.Mark) encoded_mark (λ m all. λ i. record m { note = spelled-encoded m.note all i }) (map mark_row_of book.marks) mark_characters);
    caches = λ rows same. let own : cached book.paragraphs all-in ≡ rows = cc in subst (AreCached book) own are-cached;
  }

  pub some_rows : (rows : FileRows) × (table_of rows.entries ≡ NamedCorrTable) × IsSome rows.caches × Shows rows book
  some_rows = (rows_for, refl, refl, rows-show)

  -- ---- in the first format, where no correction has a name

  abbrev unnamed_rows : FileRows
  unnamed_rows = record {
    books = book_row_of 1 book.version ∷ [];
    tabs = rows_for.tabs;
    paras = rows_for.paras;
    entries = Unnamed (map encoded_corr (flat_map entry_rows_of book.paragraphs));
    marks = rows_for.marks;
    caches = None;
  }

  pub some_unnamed_rows : IsUnnamed book → (rows : FileRows) × (table_of rows.entries ≡ CorrTable) × IsNone rows.caches × Shows rows book
  some_unnamed_rows unnamed_book =
      let all = rows-show in (
        unnamed_rows,
        refl,
        refl,
        record {
          sound = sound;
          texts = record {
            tabs = all.texts.tabs;
            paras = all.texts.paras;
            entries = without_name-texts (flat_map entry_rows_of book.paragraphs) entry_characters;
            marks = all.texts.marks;
          };
          row = refl;
          tables = all.tables;
          paragraphs = all.paragraphs;
          entries = IsPermutation-same _ (flat_map entry_rows_of book.paragraphs) (without_name-back (flat_map entry_rows_of book.paragraphs) entry_characters unnamed_book);
          marks = all.marks;
          caches = λ rows same. absurd (cc);
        },
      )
