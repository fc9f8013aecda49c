-- What a braille table puts into the rows of tables, and that a new table's makes rows that show the book show the next.
use Rattle.std.proofs.Common.{◌≡◌, ℕ, Bool, false, List, [], ◌∷◌, map, Option, Some, None, bytes_eq, encode_utf8_all, refl, sym, ap, subst, ◌∙◌}
use Rattle.std.specs.Bool.{one_answer}
use Rattle.std.specs.Cmp.Lexicographic.{slice_cmp}
use Rattle.std.specs.FinMap.Entries.{by_order}
use Rattle.std.specs.List.{All, AllByRecursion, filter}
use Rattle.std.specs.List.Sorted.{IsPermutation, IsStrictlySortedBy}
use Rattle.std.specs.Map.{keys_of}
use Rattle.std.specs.Option.{ForSome}
use Rattle.std.specs.Ordering.{nat_cmp}
use Rattle.std.specs.Prelude.{IsUtf8, not}
use Rattle.std.specs.Str.{chars}
use Rattle.std.specs.declared.cmp.Ordering.TheVariants.{Less, Equal, Greater}
use Rattle.std.proofs.lemmas.Bool.{cond-true, cond-false, false_from_ne_true}
use Rattle.std.proofs.lemmas.List.Elements.{All-weaker}
use Rattle.std.proofs.lemmas.List.Sorted.{IsPermutation-cons, IsPermutation-map, IsPermutation-middle, IsPermutation-refl, IsPermutation-trans}
use Rattle.std.proofs.lemmas.Slice.Eq.{bytes_eq-Decides}
use Rattle.desk_model.specs.Book.{Book, text_of}
use Rattle.desk_model.specs.Loans.{LeadTo}
use Rattle.desk_book.specs.ChangePuts.{version_put}
use Rattle.desk_parts.specs.FileRows.{FileRows, HasUtf8Texts, format_of, spelled}
use Rattle.desk_parts.specs.declared.file_table.FileTable.TheVariants as file
use Rattle.desk_parts.specs.Puts.{PutRow, RowPut, put_by_key, with_puts}
use Rattle.desk_parts.specs.Rows.{ParaCells, Tab}
use Rattle.desk_model.specs.Shows.{AreCached, IsCached, Shows, tab_of}
use Rattle.desk_model.specs.Sound.{IsSound}
use Rattle.desk_model.specs.NextBook.{next_with_table}
use Rattle.desk_model.specs.BookTexts.{AreCharacters}
use Rattle.desk_model.proofs.Rows.BookRows.{encoded-text, name-characters, spelled-encoded}
use Rattle.desk_book.proofs.RowPuts.PutAdditions.{All-put_in, IsPermutation-put_in}
use Rattle.desk_book.proofs.RowPuts.PutLists.{text-bytes}
use Rattle.desk_model.proofs.Rows.PutRows.{AreCached-same, IsBraille-same, id_number, versioned}
use Rattle.desk_model.proofs.Lists.RowNumbers.{filter-map}
use Rattle.desk_model.proofs.Books.SoundBooks.{IsSoundTable-found}
use Rattle.desk_model.proofs.Lists.TableEntries.{apart-name, names-put, same_name, text-put_other, text-put_same, with_text}

-- ---- a text under its name, in place of the one that was there

abbrev pub TableTexts : Type 0
TableTexts = List (List ℕ × List ℕ)

-- the entries under other names
abbrev pub under_others : List ℕ → TableTexts → TableTexts
under_others name tables = filter (λ e. not (bytes_eq e.0 name)) tables

module _ (name text : List ℕ) where
  -- no entry after the name's place has it
  under_others-past : (es : TableTexts) → AllByRecursion (λ (n : List ℕ). slice_cmp nat_cmp name n ≡ Less) (keys_of es) → under_others name es ≡ es
  under_others-past [] past = refl
  under_others-past (e ∷ es) past =
      let apart : bytes_eq e.0 name ≡ false =
      false_from_ne_true (bytes_eq e.0 name) (λ t. apart-name name e.0 (λ same. let both : Less ≡ Equal = sym past.0 ∙ same in cc) (sym ((bytes_eq-Decides e.0 name).0 t))) in
      cond-true (not (bytes_eq e.0 name)) (e ∷ under_others name es) (under_others name es) (ap not apart)
      ∙ ap (λ (rest : TableTexts). e ∷ rest) (under_others-past es past.1)

  pub IsPermutation-with_text : (tables : TableTexts) → IsStrictlySortedBy (slice_cmp nat_cmp) (keys_of tables)
      → IsPermutation ((name, text) ∷ under_others name tables) (with_text name text tables)
  unfolding IsStrictlySortedBy
  IsPermutation-with_text [] sorted = IsPermutation-refl ((name, text) ∷ [])
  IsPermutation-with_text (e ∷ es) sorted =
      let all : TableTexts = under_others name (e ∷ es) in
      let later : TableTexts = under_others name es in
      elim (slice_cmp nat_cmp name e.0) as (λ r. slice_cmp nat_cmp name e.0 ≡ r → IsPermutation ((name, text) ∷ all) (by_order r ((name, text) ∷ e ∷ es) ((e.0, text) ∷ es) (e ∷ with_text name text es))) [
        | Less ↦ λ h.
            let after : IsStrictlySortedBy (slice_cmp nat_cmp) (keys_of (by_order Less ((name, text) ∷ e ∷ es) ((e.0, text) ∷ es) (e ∷ with_text name text es))) =
            subst (λ r. IsStrictlySortedBy (slice_cmp nat_cmp) (keys_of (by_order r ((name, text) ∷ e ∷ es) ((e.0, text) ∷ es) (e ∷ with_text name text es)))) h (names-put name text (e ∷ es) sorted) in
            subst (λ (l : TableTexts). IsPermutation ((name, text) ∷ l) ((name, text) ∷ e ∷ es)) (sym (under_others-past (e ∷ es) after.0)) (IsPermutation-refl ((name, text) ∷ e ∷ es))
        | Equal ↦ λ h.
            let same : name ≡ e.0 = same_name name e.0 h in
            let past = subst (λ (n : List ℕ). AllByRecursion (λ (m : List ℕ). slice_cmp nat_cmp n m ≡ Less) (keys_of es)) (sym same) sorted.0 in
            let is : all ≡ es = cond-false (not (bytes_eq e.0 name)) (e ∷ later) later (ap not ((bytes_eq-Decides e.0 name).1 (sym same))) ∙ under_others-past es past in
            subst (λ (l : TableTexts). IsPermutation l ((e.0, text) ∷ es)) (λ i. (sym same i, text) ∷ sym is i) (IsPermutation-refl ((e.0, text) ∷ es))
        | Greater ↦ λ h.
            let apart : bytes_eq e.0 name ≡ false =
            false_from_ne_true (bytes_eq e.0 name) (λ t. apart-name name e.0 (λ same. let both : Greater ≡ Equal = sym h ∙ same in cc) (sym ((bytes_eq-Decides e.0 name).0 t))) in
            let is : all ≡ e ∷ later = cond-true (not (bytes_eq e.0 name)) (e ∷ later) later (ap not apart) in
            subst (λ (l : TableTexts). IsPermutation ((name, text) ∷ l) (e ∷ with_text name text es)) (sym is)
            (IsPermutation-trans ((name, text) ∷ e ∷ later) (e ∷ (name, text) ∷ later) (e ∷ with_text name text es)
            (IsPermutation-middle ((name, text) ∷ []) e later)
            (IsPermutation-cons e ((name, text) ∷ later) (with_text name text es) (IsPermutation-with_text es sorted.1)))
      ] refl

-- ---- the row of a table

module _ (name text : List ℕ) (characters : AreCharacters name) where
  abbrev pub tab_row : Tab
  tab_row = record { name = encode_utf8_all name; body = text }

  abbrev pub tab_put_in : List Tab → List Tab
  tab_put_in tabs = put_by_key (λ t. bytes_eq t.name (encode_utf8_all name)) tab_row tabs

  -- bytes are those of the name where they spell it
  same_named : (bytes : List ℕ) → IsUtf8 bytes → bytes_eq bytes (encode_utf8_all name) ≡ bytes_eq (chars bytes) name
  same_named bytes utf8 =
      one_answer {P = bytes ≡ encode_utf8_all name} (bytes_eq bytes (encode_utf8_all name)) (bytes_eq (chars bytes) name) (bytes_eq-Decides bytes (encode_utf8_all name))
      (λ e. text-bytes bytes name utf8 ((bytes_eq-Decides (chars bytes) name).0 e), λ same. (bytes_eq-Decides (chars bytes) name).1 (ap chars same ∙ spelled-encoded name characters))

  pub texts-put : (tabs : List Tab) → All (HasUtf8Texts file.Tab) tabs → All (HasUtf8Texts file.Tab) (tab_put_in tabs)
  texts-put tabs texts = All-put_in (HasUtf8Texts file.Tab) (λ t. bytes_eq t.name (encode_utf8_all name)) tab_row tabs (encoded-text name characters) texts

  pub tables-put : (tabs : List Tab) (tables : TableTexts) → IsStrictlySortedBy (slice_cmp nat_cmp) (keys_of tables) → All (HasUtf8Texts file.Tab) tabs
      → IsPermutation (map (spelled file.Tab) tabs) (map tab_of tables) → IsPermutation (map (spelled file.Tab) (tab_put_in tabs)) (map tab_of (with_text name text tables))
  tables-put tabs tables sorted texts shown =
      let has_key : Tab → Bool = λ t. bytes_eq t.name (encode_utf8_all name) in
      let key : Tab → Bool = λ t. bytes_eq t.name name in
      let moved = IsPermutation-put_in (spelled file.Tab) has_key key tab_row tabs (map tab_of tables)
      (All-weaker (HasUtf8Texts file.Tab) (λ (t : Tab). has_key t ≡ key (spelled file.Tab t)) (λ t utf8. same_named t.name utf8) tabs texts) shown in
      let others : filter (λ t. not (key t)) (map tab_of tables) ≡ map tab_of (under_others name tables) = filter-map (λ (t : Tab). not (key t)) tab_of tables in
      let its_row : spelled file.Tab tab_row ≡ tab_of (name, text) = λ i. record { name = spelled-encoded name characters i; body = text } in
      IsPermutation-trans (map (spelled file.Tab) (tab_put_in tabs)) (map tab_of ((name, text) ∷ under_others name tables)) (map tab_of (with_text name text tables))
      (subst (IsPermutation (map (spelled file.Tab) (tab_put_in tabs))) (λ i. its_row i ∷ others i) moved)
      (IsPermutation-map tab_of ((name, text) ∷ under_others name tables) (with_text name text tables) (IsPermutation-with_text name text tables sorted))

-- the name of a table that was put is of characters
pub put-characters : (book : Book) (name text : List ℕ) → IsSound (next_with_table book name text) → AreCharacters name
put-characters book name text after =
    name-characters name (IsSoundTable-found (next_with_table book name text) after name text (text-put_same name name text book.tables refl)).named

-- ---- a table's text

module _ (book : Book) (name text : List ℕ) (sound : IsSound book) where
  abbrev tabled : Book
  tabled = next_with_table book name text

  abbrev LeadPuts : List RowPut
  LeadPuts = version_put tabled.version ∷ PutRow file.Tab (record { name = encode_utf8_all name; body = text }) ∷ []

  -- its row, and rows of the next book's braille, show that book
  pub shown-tabled : IsSound tabled → (rows : FileRows) → Shows rows book → (caches : Option (List ParaCells)) → ForSome caches (AreCached tabled)
      → Shows (record (with_puts LeadPuts rows) { caches = caches }) tabled
  shown-tabled after rows shows caches cached =
      let characters = put-characters book name text after in
      record {
        sound = after;
        texts = record {
          tabs = texts-put name text characters rows.tabs shows.texts.tabs;
          paras = shows.texts.paras;
          entries = shows.texts.entries;
          marks = shows.texts.marks;
        };
        row = versioned (format_of rows.entries) book.version tabled.version rows.books after.version shows.row;
        tables = tables-put name text characters rows.tabs book.tables sound.names shows.texts.tabs shows.tables;
        paragraphs = shows.paragraphs;
        entries = shows.entries;
        marks = shows.marks;
        caches = cached;
      }

  -- ---- a table more

  module _ (new : text_of book name ≡ None) where
    cached-on : (row : ParaCells) → IsCached book row → IsCached tabled row
    cached-on row is =
        let by = is.cells.2 in
        record {
          paragraph = is.paragraph;
          there = is.there;
          named = is.named;
          cells = IsBraille-same book tabled is.paragraph is.paragraph refl
              (text-put_other is.paragraph.table name text book.tables
              (λ same. let both : Some by.text ≡ None = sym by.found ∙ (ap (text_of book) same ∙ new) in cc)) row.cells is.cells;
        }

    pub table-lead : IsSound tabled → LeadTo book LeadPuts tabled
    table-lead after rows shows has =
        shown-tabled after rows shows rows.caches
        (λ caches same. AreCached-same book tabled caches (IsPermutation-refl (map id_number book.paragraphs)) cached-on (shows.caches caches same))
