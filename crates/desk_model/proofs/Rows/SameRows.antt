-- Rows show the same book in any order.
use Rattle.std.proofs.Common.{◌≡◌, ℕ, pos, List, [], ◌∷◌, map, Option, None, Some, refl, sym, ap, ◌∙◌, subst, flat_map, IsPermutation}
use Rattle.std.specs.Option.{ForSome}
use Rattle.std.proofs.lemmas.List.Sorted.{All-permutation, IsPermutation-map, IsPermutation-sym, IsPermutation-trans}
use Rattle.desk_model.specs.Book.{Book, Paragraph}
use Rattle.desk_parts.specs.declared.file_table.FileTable.TheVariants as file
use Rattle.desk_parts.specs.FileRows.{AreTexts, EntryRows, FileRows, HasUtf8Texts, Named, Unnamed, entries_in, format_of, spelled, table_of}
use Rattle.desk_model.specs.FilledRows.{AreEntriesOf}
use Rattle.desk_parts.specs.Rows.{ParaCells, Corr, NamedCorr}
use Rattle.desk_model.specs.SameRows.{AreSameCaches, AreSameEntries, AreSameRows}
use Rattle.desk_model.specs.Shows.{AreCached, IsCached, Shows, book_row_of, entry_rows_of}
use Rattle.std.proofs.lemmas.Option.{same_Some}

-- ---- the other way round

entries-symmetric : (a b : EntryRows) → AreSameEntries a b → AreSameEntries b a
entries-symmetric (Unnamed a) (Unnamed b) moved = IsPermutation-sym _ _ moved
entries-symmetric (Unnamed a) (Named b) other = absurd other
entries-symmetric (Named a) (Unnamed b) other = absurd other
entries-symmetric (Named a) (Named b) moved = IsPermutation-sym _ _ moved

caches-symmetric : (a b : Option (List ParaCells)) → AreSameCaches a b → AreSameCaches b a
caches-symmetric None None same = tt
caches-symmetric (Some a) (Some b) moved = IsPermutation-sym _ _ moved
caches-symmetric a b other = absurd other

pub symmetric : (a b : FileRows) → AreSameRows a b → AreSameRows b a
symmetric a b same = record {
  books = sym same.books;
  tabs = IsPermutation-sym _ _ same.tabs;
  paras = IsPermutation-sym _ _ same.paras;
  entries = entries-symmetric a.entries b.entries same.entries;
  marks = IsPermutation-sym _ _ same.marks;
  caches = caches-symmetric a.caches b.caches same.caches;
}

-- ---- entries

pub entries_in-moved : (a b : EntryRows) → AreSameEntries a b → IsPermutation (entries_in a) (entries_in b)
entries_in-moved (Unnamed a) (Unnamed b) moved = IsPermutation-map (λ (corr : Corr). record { entry = corr; who = [] }) _ _ moved
entries_in-moved (Named a) (Named b) moved = moved
entries_in-moved a b other = absurd other

pub table_of-moved : (a b : EntryRows) → AreSameEntries a b → table_of b ≡ table_of a
table_of-moved (Unnamed a) (Named b) other = absurd other
table_of-moved (Named a) (Unnamed b) other = absurd other
table_of-moved a b moved = refl

format_of-moved : (a b : EntryRows) → AreSameEntries a b → format_of a ≡ format_of b
format_of-moved (Unnamed a) (Named b) other = absurd other
format_of-moved (Named a) (Unnamed b) other = absurd other
format_of-moved a b moved = refl

-- ---- what is shown

-- rows that are those of something are so in any order
spelled-moved : {X Y : Type 0} (spelled : X → Y) (xs ys : List X) (zs : List Y) → IsPermutation xs ys
    → IsPermutation (map spelled xs) zs → IsPermutation (map spelled ys) zs
spelled-moved spelled xs ys zs moved = IsPermutation-trans _ _ _ (IsPermutation-map spelled _ _ (IsPermutation-sym _ _ moved))

pub AreEntriesOf-moved : (book : Book) (entries all : List NamedCorr) → IsPermutation entries all → AreEntriesOf book entries → AreEntriesOf book all
AreEntriesOf-moved book entries all moved are = (
  All-permutation (HasUtf8Texts file.NamedCorr) _ _ moved are.0,
  spelled-moved (spelled file.NamedCorr) entries all (flat_map entry_rows_of book.paragraphs) moved are.1,
)

pub AreCached-moved : (book : Book) (caches all : List ParaCells) → IsPermutation caches all → AreCached book caches → AreCached book all
AreCached-moved book caches all moved are = record {
  one_each = spelled-moved (λ (c : ParaCells). c.para) caches all (map (λ (p : Paragraph). pos p.id) book.paragraphs) moved are.one_each;
  cells = All-permutation (IsCached book) _ _ moved are.cells;
}

caches-moved : (book : Book) (a b : Option (List ParaCells)) → AreSameCaches a b → ForSome a (AreCached book) → ForSome b (AreCached book)
caches-moved book None None same are = are
caches-moved book (Some a) (Some b) moved are =
    λ all same. subst (AreCached book) (same_Some b all same) (AreCached-moved book a b moved (are a refl))
caches-moved book a b other are = absurd other

module _ (a b : FileRows) (same : AreSameRows a b) where
  entries-same : IsPermutation (entries_in a.entries) (entries_in b.entries)
  entries-same = entries_in-moved a.entries b.entries same.entries

  texts-moved : AreTexts a → AreTexts b
  texts-moved texts = record {
    tabs = All-permutation (HasUtf8Texts file.Tab) _ _ same.tabs texts.tabs;
    paras = All-permutation (HasUtf8Texts file.Para) _ _ same.paras texts.paras;
    entries = All-permutation (HasUtf8Texts file.NamedCorr) _ _ entries-same texts.entries;
    marks = All-permutation (HasUtf8Texts file.Mark) _ _ same.marks texts.marks;
  }

  pub shown : (book : Book) → Shows a book → Shows b book
  shown book shows = record {
    sound = shows.sound;
    texts = texts-moved shows.texts;
    row = sym same.books ∙ (shows.row ∙ ap (λ (format : ℕ). book_row_of format book.version ∷ []) (format_of-moved a.entries b.entries same.entries));
    tables = spelled-moved (spelled file.Tab) a.tabs b.tabs _ same.tabs shows.tables;
    paragraphs = spelled-moved (spelled file.Para) a.paras b.paras _ same.paras shows.paragraphs;
    entries = spelled-moved (spelled file.NamedCorr) (entries_in a.entries) (entries_in b.entries) _ entries-same shows.entries;
    marks = spelled-moved (spelled file.Mark) a.marks b.marks _ same.marks shows.marks;
    caches = caches-moved book a.caches b.caches same.caches shows.caches;
  }
