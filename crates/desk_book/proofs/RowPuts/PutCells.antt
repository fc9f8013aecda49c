-- What another table of a paragraph puts makes rows that show the book show the next.
use Rattle.std.proofs.Common.{◌≡◌, ℕ, ℤ, pos, false, List, [], ◌∷◌, map, Option, Some, None, Contains, encode_utf8_all, refl, sym, ap, subst, ◌∙◌, arith}
use Rattle.std.specs.List.{filter}
use Rattle.std.specs.List.Sorted.{IsPermutation}
use Rattle.std.specs.Option.{ForSome}
use Rattle.std.specs.Ordering.{int_eq}
use Rattle.std.specs.Prelude.{nat_eq, not, option_map}
use Rattle.std.proofs.lemmas.Bool.{cond-true, cond-false, eq-eqb}
use Rattle.std.proofs.lemmas.List.Elements.{filter_agree}
use Rattle.std.proofs.lemmas.List.Sorted.{IsPermutation-map, IsPermutation-sym}
use Rattle.desk_model.specs.Book.{Book, Mark, Paragraph, paragraph_of}
use Rattle.desk_model.specs.Loans.{LeadTo, row_number}
use Rattle.desk_book.specs.ChangePuts.{cache_put, used_table_put, version_put}
use Rattle.desk_book.specs.Changes.{AreCellsByTable}
use Rattle.desk_parts.specs.declared.file_table.FileTable.TheVariants as tables
use Rattle.desk_parts.specs.FileRows.{spelled}
use Rattle.desk_parts.specs.declared.file_table.FileTable.TheVariants.{Cache}
use Rattle.desk_parts.specs.Puts.{PutRow, put_by_key}
use Rattle.desk_parts.specs.Rows.{ParaCells, Para}
use Rattle.desk_model.specs.Shows.{AreCached, IsCached}
use Rattle.desk_model.specs.Sound.{IsSound}
use Rattle.desk_model.specs.BookTexts.{AreCharacters}
use Rattle.desk_model.specs.Translation.{IsBraille}
use Rattle.desk_model.specs.NextBook.{next_with_paragraphs, with_change}
use Rattle.desk_model.proofs.Rows.BookRows.{encoded-text, name-characters, spelled-encoded}
use Rattle.desk_model.proofs.Lists.Members.{Contains-map}
use Rattle.desk_model.proofs.Books.ParagraphLists.{Contains-found, IsPermutation-without_paragraph, changed, id-found, ids-with_change, without_paragraph}
use Rattle.desk_book.proofs.RowPuts.PutChanges.{shown-changed}
use Rattle.desk_model.proofs.Rows.PutRows.{AreCached-put, IsBraille-same, id_number, number-small, numbers-same}
use Rattle.desk_model.proofs.Lists.RowNumbers.{filter-map, int_eq-pos}
use Rattle.desk_model.proofs.Books.SoundBooks.{IsSoundTable-found, paragraph_of-within, paragraphs-apart}

-- what holds of a value, if there is one, holds of what is made of it
pub ForSome-map : {X Y : Type 0} (f : X → Y) (P : X → Type 0) (Q : Y → Type 0) (o : Option X) → ForSome o P → ((x : X) → P x → Q (f x)) → ForSome (option_map f o) Q
ForSome-map f P Q None here to = λ y is. absurd (cc)
ForSome-map f P Q (Some x) here to = λ y is. let same : f x ≡ y = cc in subst Q same (to x (here x refl))

-- ---- the ids of a book, one of them in front

module _ (book : Book) (id : ℕ) (p : Paragraph) (sound : IsSound book) (there : paragraph_of book id ≡ Some p) where
  pub ids-once : IsPermutation (pos id ∷ filter (λ n. not (int_eq n (pos id))) (map id_number book.paragraphs)) (map id_number book.paragraphs)
  ids-once =
      let others : List Paragraph = without_paragraph id book.paragraphs in
      let out = IsPermutation-map id_number book.paragraphs (p ∷ others) (IsPermutation-without_paragraph id p book.paragraphs (paragraphs-apart book sound) there) in
      let own : pos p.id ≡ pos id = ap pos (id-found id book.paragraphs p there) in
      let left : map id_number others ≡ filter (λ n. not (int_eq n (pos id))) (map id_number book.paragraphs) =
      ap (map id_number) (filter_agree (λ (q : Paragraph). not (nat_eq q.id id)) (λ (q : Paragraph). not (int_eq (pos q.id) (pos id))) (λ q. ap not (sym (int_eq-pos q.id id))) book.paragraphs)
      ∙ sym (filter-map (λ n. not (int_eq n (pos id))) id_number book.paragraphs) in
      subst (λ (ns : List ℤ). IsPermutation ns (map id_number book.paragraphs)) (λ i. own i ∷ left i)
      (IsPermutation-sym (map id_number book.paragraphs) (pos p.id ∷ map id_number others) out)

  pub id-small : row_number id ≡ pos id
  id-small =
      let within = (paragraph_of-within book sound id p there).1 in
      let few = sound.few_paragraphs in
      number-small id (omega arith)

-- ---- the braille of one paragraph, which changes

module _ (book : Book) (version : ℕ) (marks : List Mark) (id : ℕ) (to : Paragraph → Paragraph) (p : Paragraph) (sound : IsSound book) (there : paragraph_of book id ≡ Some p)
    (own : (q : Paragraph) → (to q).id ≡ q.id) (cells : List ℕ) where
  abbrev next : Book
  next = record book { version = version; paragraphs = with_change id to book.paragraphs; marks = marks }

  stands : (q r : Paragraph) → Contains book.paragraphs q → changed id to q ≡ r → Contains next.paragraphs r
  stands q r c is = subst (Contains next.paragraphs) is (Contains-map (changed id to) book.paragraphs q c)

  cached-others : (row : ParaCells) → int_eq row.para (pos id) ≡ false → IsCached book row → IsCached next row
  cached-others row other is =
      let q : Paragraph = is.paragraph in
      let apart : nat_eq q.id id ≡ false = sym (int_eq-pos q.id id) ∙ (ap (λ n. int_eq n (pos id)) (sym is.named) ∙ other) in
      record {
        paragraph = q;
        there = stands q q is.there (cond-false (nat_eq q.id id) (to q) q apart);
        named = is.named;
        cells = IsBraille-same book next q q refl refl row.cells is.cells;
      }

  pub cached-put : IsBraille next (to p) cells → (rows : List ParaCells) → AreCached book rows
      → AreCached next (put_by_key (λ c. int_eq c.para (pos id)) (record { para = pos id; cells = cells }) rows)
  cached-put braille rows is =
      let named = id-found id book.paragraphs p there in
      let same : map id_number book.paragraphs ≡ map id_number next.paragraphs = numbers-same book.paragraphs next.paragraphs (sym (ids-with_change id to own book.paragraphs)) in
      AreCached-put book next rows (record { para = pos id; cells = cells })
      (subst (IsPermutation (pos id ∷ filter (λ n. not (int_eq n (pos id))) (map id_number book.paragraphs))) same (ids-once book id p sound there))
      (record {
        paragraph = to p;
        there = stands p (to p) (Contains-found id book.paragraphs p there) (cond-true (nat_eq p.id id) (to p) p (eq-eqb p.id id named));
        named = ap pos (sym named ∙ sym (own p));
        cells = braille;
      })
      cached-others is

-- ---- another table

module _ (book : Book) (id : ℕ) (name cells : List ℕ) (sound : IsSound book) (given : AreCellsByTable book id name cells) where
  abbrev retabled : Paragraph → Paragraph
  retabled p = record p { table = name }

  abbrev retabled_row : Para → Para
  retabled_row p = record p { tab = name }

  abbrev retabled_bytes : Para → Para
  retabled_bytes p = record p { tab = encode_utf8_all name }

  abbrev with_table : Book
  with_table = next_with_paragraphs book (with_change id retabled book.paragraphs)

  characters : AreCharacters name
  characters = name-characters name (IsSoundTable-found book sound name given.source given.found).named

  cached-all : (rows : List ParaCells) → AreCached book rows → AreCached with_table (put_by_key (λ c. int_eq c.para (pos id)) (record { para = pos id; cells = cells }) rows)
  cached-all = cached-put book with_table.version book.marks id retabled given.paragraph sound given.there (λ p. refl) cells (
    given.meaning,
    given.cells_are.0,
    record { text = given.source; found = given.found; means = given.means; tiles = given.cells_are.1 },
    given.cells_are.2,
  )

  spells : (p : Para) → spelled tables.Para (retabled_bytes p) ≡ retabled_row (spelled tables.Para p)
  spells p = λ i. record (spelled tables.Para p) { tab = spelled-encoded name characters i }

  leads : IsSound with_table
      → LeadTo book (version_put with_table.version ∷ used_table_put id name ∷ PutRow Cache (record { para = pos id; cells = cells }) ∷ []) with_table
  leads after rows shows has =
      shown-changed book id retabled retabled_row retabled_bytes sound (λ place p. refl) spells (λ p texts. (encoded-text name characters, texts.1, texts.2)) (λ p. refl) after rows shows
      (option_map (put_by_key (λ c. int_eq c.para (pos id)) (record { para = pos id; cells = cells })) rows.caches)
      (ForSome-map (put_by_key (λ c. int_eq c.para (pos id)) (record { para = pos id; cells = cells })) (AreCached book) (AreCached with_table) rows.caches shows.caches cached-all)

  pub retabled-lead : IsSound with_table
      → LeadTo book (version_put with_table.version ∷ used_table_put id name ∷ cache_put id cells ∷ []) with_table
  retabled-lead after =
      subst (λ (n : ℤ). LeadTo book (version_put with_table.version ∷ used_table_put id name ∷ PutRow Cache (record { para = n; cells = cells }) ∷ []) with_table)
      (sym (id-small book id given.paragraph sound given.there)) (leads after)
