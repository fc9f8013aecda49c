-- What another text of a table puts makes rows that show the book show the next.
use Rattle.std.proofs.Common.{◌≡◌, ℕ, suc, ◌+◌, ◌-◌, ◌<◌, ◌≤◌, ℤ, pos, false, List, [], ◌∷◌, length, map, Option, Some, None, Contains, encode_utf8_all, refl, sym, ap, subst, ◌∙◌, arith, inl, inr}
use Rattle.std.specs.List.{All, enumerate_from, filter, flat_map}
use Rattle.std.specs.List.Sorted.{IsPermutation}
use Rattle.std.specs.Option.{ForSome, option_and_then}
use Rattle.std.specs.Ordering.{int_eq}
use Rattle.std.specs.Prelude.{MatchOption, nat_eq, not, option_map, slice_get, ◌≢◌}
use Rattle.std.proofs.lemmas.Bool.{cases_lt, eq-eqb}
use Rattle.std.proofs.lemmas.List.Elements.{All-contains, All-weaker}
use Rattle.std.proofs.lemmas.Option.{slice_get_past}
use Rattle.louis_table.specs.Meaning.{Meaning}
use Rattle.louis_table.specs.Table.{Means}
use Rattle.desk_model.specs.Book.{Book, Paragraph, paragraph_of}
use Rattle.desk_model.specs.Loans.{LeadTo, row_number}
use Rattle.desk_book.specs.ChangePuts.{cells_from, cells_put, version_put}
use Rattle.desk_book.specs.Changes.{AreRenewed}
use Rattle.desk_memory.specs.Braille.{AreCellsOf}
use Rattle.desk_parts.specs.FileRows.{FileRows}
use Rattle.desk_memory.specs.Held.{new_cells}
use Rattle.desk_model.specs.Print.{print_of}
use Rattle.desk_parts.specs.declared.file_table.FileTable.TheVariants.{Tab}
use Rattle.desk_parts.specs.Puts.{PutRow, put_by_key, with_puts}
use Rattle.desk_parts.specs.Rows.{ParaCells}
use Rattle.desk_model.specs.Shows.{AreCached, IsCached, Shows}
use Rattle.desk_model.specs.Sound.{IsSound}
use Rattle.desk_model.specs.NextBook.{next_with_table}
use Rattle.desk_model.specs.Translation.{IsBraille}
use Rattle.desk_model.proofs.Books.ParagraphLists.{Contains-found, id-found}
use Rattle.desk_book.proofs.RowPuts.PutCells.{ForSome-map, id-small, ids-once}
use Rattle.desk_model.proofs.Rows.PutRows.{All-put_apart, IsBraille-same, IsPermutation-put_number, id_number}
use Rattle.desk_book.proofs.RowPuts.PutTables.{shown-tabled}
use Rattle.desk_model.proofs.Lists.RowNumbers.{int_eq-pos}
use Rattle.desk_model.proofs.Books.SoundBooks.{paragraph_of-own, paragraph_of-some, paragraph_of-within}
use Rattle.desk_model.proofs.Lists.TableEntries.{text-put_other, text-put_same}
use Rattle.desk_book.proofs.Plans.Users.{Renews}

-- the row is a paragraph's, and has its braille in the next book unless the paragraph uses the table and has this number
-- or a later one
pub record IsCachedBelow (book next : Book) (name : List ℕ) (n : ℕ) (row : ParaCells) : Type 0 where
  pub paragraph : Paragraph
  pub there : Contains book.paragraphs paragraph
  pub named : row.para ≡ pos paragraph.id
  pub cells : (paragraph.table ≡ name → paragraph.id < n) → IsBraille next paragraph row.cells

-- each paragraph has one such row
pub record AreCachedBelow (book next : Book) (name : List ℕ) (n : ℕ) (rows : List ParaCells) : Type 0 where
  pub one_each : IsPermutation (map (λ row. row.para) rows) (map id_number book.paragraphs)
  pub cells : All (IsCachedBelow book next name n) rows

-- the items are new for the ids from this one on
abbrev pub RenewsFrom : Book → Meaning → List ℕ → ℕ → List (Option (List ℕ)) → Type 0
RenewsFrom book meaning name n cells = (k : ℕ) (item : Option (List ℕ)) → slice_get cells k ≡ Some item → Renews book meaning name (n + k) item

module _ (book : Book) (name text : List ℕ) (meaning : Meaning) (sound : IsSound book) (means : Means text meaning) where
  abbrev retexted : Book
  retexted = next_with_table book name text

  abbrev Below : ℕ → ParaCells → Type 0
  Below n = IsCachedBelow book retexted name n

  abbrev AllBelow : ℕ → List ParaCells → Type 0
  AllBelow n = AreCachedBelow book retexted name n

  -- ---- one paragraph after the other

  below-first : (rows : List ParaCells) → AreCached book rows → AllBelow 1 rows
  below-first rows is = record {
    one_each = is.one_each;
    cells = All-weaker (IsCached book) (Below 1) first rows is.cells;
  }
    where
      first : (row : ParaCells) → IsCached book row → Below 1 row
      first row c =
          let p : Paragraph = c.paragraph in
          record {
            paragraph = p;
            there = c.there;
            named = c.named;
            cells = λ before. IsBraille-same book retexted p p refl
                (text-put_other p.table name text book.tables
                (λ uses. let lt = before uses in let within = (paragraph_of-within book sound p.id p (paragraph_of-own book sound p c.there)).0 in omega arith))
                row.cells c.cells;
          }

  -- a row stays so at the next number, unless its paragraph uses the table and has this one
  further : (n : ℕ) (row : ParaCells) (c : Below n row) → (c.paragraph.table ≡ name → c.paragraph.id ≢ n) → Below (n + 1) row
  further n row c apart = record {
    paragraph = c.paragraph;
    there = c.there;
    named = c.named;
    cells = λ before. c.cells (λ uses. let lt = before uses in let other = apart uses in omega arith);
  }

  -- the paragraph with this number doesn't use the table
  below-none : (n : ℕ) → Renews book meaning name n None → (rows : List ParaCells) → AllBelow n rows → AllBelow (n + 1) rows
  below-none n renews rows is = record {
    one_each = is.one_each;
    cells = All-weaker (Below n) (Below (n + 1))
        (λ row c. further n row c
        (λ uses same. renews c.paragraph (subst (λ (id : ℕ). paragraph_of book id ≡ Some c.paragraph) same (paragraph_of-own book sound c.paragraph c.there)) uses)) rows is.cells;
  }

  -- the paragraph with this number uses it, and has new cells
  module _ (n : ℕ) (new : List ℕ) (p : Paragraph) (at : paragraph_of book n ≡ Some p) (renews : Renews book meaning name n (Some new)) where
    abbrev row : ParaCells
    row = record { para = row_number n; cells = new }

    own : p.id ≡ n
    own = id-found n book.paragraphs p at

    here : Below (n + 1) row
    here =
        let by = renews p at in
        record {
          paragraph = p;
          there = Contains-found n book.paragraphs p at;
          named = id-small book n p sound at ∙ ap pos (sym own);
          cells = λ before. (
            meaning,
            by.1.0,
            record { text = text; found = text-put_same p.table name text book.tables by.0; means = means; tiles = by.1.1 },
            by.1.2,
          );
        }

    others : (other : ParaCells) → int_eq other.para row.para ≡ false → Below n other → Below (n + 1) other
    others other apart c =
        let q : Paragraph = c.paragraph in
        let differ : nat_eq q.id n ≡ false = sym (int_eq-pos q.id n) ∙ ((λ i. int_eq (sym c.named i) (sym (id-small book n p sound at) i)) ∙ apart) in
        further n other c (λ uses same. let is = eq-eqb q.id n same in cc)

    below-some : (rows : List ParaCells) → AllBelow n rows → AllBelow (n + 1) (put_by_key (λ c. int_eq c.para (row_number n)) row rows)
    below-some rows is = record {
      one_each = IsPermutation-put_number rows row (map id_number book.paragraphs) (map id_number book.paragraphs)
          (subst (λ (k : ℤ). IsPermutation (k ∷ filter (λ m. not (int_eq m k)) (map id_number book.paragraphs)) (map id_number book.paragraphs)) (sym (id-small book n p sound at)) (ids-once book n p sound at))
          is.one_each;
      cells = All-put_apart (Below n) (Below (n + 1)) (λ c. int_eq c.para (row_number n)) row rows here others is.cells;
    }

  -- ---- all of them

  pub renews-next : (n : ℕ) (item : Option (List ℕ)) (cells : List (Option (List ℕ))) → RenewsFrom book meaning name n (item ∷ cells) → RenewsFrom book meaning name (n + 1) cells
  renews-next n item cells renews k next e = let same : n + suc k ≡ (n + 1) + k = omega arith in subst (λ (id : ℕ). Renews book meaning name id next) same (renews (suc k) next e)

  pub renews-here : (n : ℕ) (item : Option (List ℕ)) (cells : List (Option (List ℕ))) → RenewsFrom book meaning name n (item ∷ cells) → Renews book meaning name n item
  renews-here n item cells renews = let same : n + 0 ≡ n = omega arith in subst (λ (id : ℕ). Renews book meaning name id item) same (renews 0 item refl)

  -- the cells that are put from this number on change `cache` alone, and what it has is below the last number
  along : (n last : ℕ) (cells : List (Option (List ℕ))) (rows : FileRows) (caches : Option (List ParaCells)) → 1 ≤ n → n + length cells ≡ last → last ≤ length book.paragraphs + 1
      → RenewsFrom book meaning name n cells → ForSome caches (AllBelow n)
      → (now : Option (List ParaCells)) × ForSome now (AllBelow last) × (with_puts (flat_map cells_put (enumerate_from n cells)) (record rows { caches = caches }) ≡ record rows { caches = now })
  along n last [] rows caches one end few renews is =
      let same : n ≡ last = omega (arith, end) in
      (caches, subst (λ (m : ℕ). ForSome caches (AllBelow m)) same is, refl)
  along n last (None ∷ cells) rows caches one end few renews is =
      along (n + 1) last cells rows caches (omega arith) (omega (arith, end)) few (renews-next n None cells renews)
      (λ c e. below-none n (renews-here n None cells renews) c (is c e))
  along n last (Some new ∷ cells) rows caches one end few renews is =
      let found = paragraph_of-some book sound n one (omega (arith, end)) in
      let row : ParaCells = record { para = row_number n; cells = new } in
      along (n + 1) last cells rows (option_map (put_by_key (λ c. int_eq c.para (row_number n)) row) caches) (omega arith) (omega (arith, end)) few (renews-next n (Some new) cells renews)
      (ForSome-map (put_by_key (λ c. int_eq c.para (row_number n)) row) (AllBelow n) (AllBelow (n + 1)) caches is
      (below-some n new found.0 found.1 (renews-here n (Some new) cells renews)))

  module _ (cells : List (Option (List ℕ))) (renewed : AreRenewed book name meaning cells) where
    pub renews-all : RenewsFrom book meaning name 1 cells
    renews-all k item e p at =
        let own : p.id ≡ 1 + k = id-found (1 + k) book.paragraphs p at in
        let index : p.id - 1 ≡ k = omega (arith, own) in
        let is : new_cells cells p.id ≡ item = ap (λ (i : ℕ). option_and_then (λ (o : Option (List ℕ)). o) (slice_get cells i)) index ∙ ap (option_and_then (λ (o : Option (List ℕ)). o)) e in
        subst (λ (o : Option (List ℕ)). MatchOption o (p.table ≢ name) (λ new. (p.table ≡ name) × AreCellsOf meaning (print_of p) new)) is
        (All-contains (λ (q : Paragraph). MatchOption (new_cells cells q.id) (q.table ≢ name) (λ new. (q.table ≡ name) × AreCellsOf meaning (print_of q) new)) book.paragraphs p renewed
        (Contains-found (1 + k) book.paragraphs p at))

    -- a paragraph that uses the table has cells among them
    user-within : (p : Paragraph) → Contains book.paragraphs p → p.table ≡ name → p.id < 1 + length cells
    user-within p there uses =
        elim (cases_lt p.id (1 + length cells)) [
          | inl lt ↦ lt
          | inr past ↦
              let none : new_cells cells p.id ≡ None = ap (option_and_then (λ (o : Option (List ℕ)). o)) (slice_get_past cells (p.id - 1) (omega arith)) in
              absurd (subst (λ (o : Option (List ℕ)). MatchOption o (p.table ≢ name) (λ new. (p.table ≡ name) × AreCellsOf meaning (print_of p) new)) none
              (All-contains (λ (q : Paragraph). MatchOption (new_cells cells q.id) (q.table ≢ name) (λ new. (q.table ≡ name) × AreCellsOf meaning (print_of q) new)) book.paragraphs p renewed there) uses)
        ]

    below-last : (rows : List ParaCells) → AllBelow (1 + length cells) rows → AreCached retexted rows
    below-last rows is = record {
      one_each = is.one_each;
      cells = All-weaker (Below (1 + length cells)) (IsCached retexted)
          (λ row c. record { paragraph = c.paragraph; there = c.there; named = c.named; cells = c.cells (user-within c.paragraph c.there) }) rows is.cells;
    }

    pub replaced-lead : length cells ≤ length book.paragraphs → IsSound retexted
        → LeadTo book (version_put retexted.version ∷ PutRow Tab (record { name = encode_utf8_all name; body = text }) ∷ cells_from 0 cells) retexted
    replaced-lead few after rows shows has =
        let put : FileRows = with_puts (version_put retexted.version ∷ PutRow Tab (record { name = encode_utf8_all name; body = text }) ∷ []) rows in
        let made = along 1 (1 + length cells) cells put rows.caches (omega arith) refl (omega (arith, few)) renews-all (λ caches e. below-first caches (shows.caches caches e)) in
        subst (λ (r : FileRows). Shows r retexted) (sym made.2)
        (shown-tabled book name text sound after rows shows made.0 (λ caches e. below-last caches (made.1 caches e)))
