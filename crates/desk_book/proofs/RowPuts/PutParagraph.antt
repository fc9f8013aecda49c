-- What a new paragraph puts makes rows that show the book show the next.
use Rattle.std.proofs.Common.{◌≡◌, ℕ, zero, suc, ◌+◌, ◌≤◌, ℤ, pos, Bool, true, false, List, [], ◌∷◌, ◌++◌, length, map, drop, Some, Contains, refl, sym, ap, subst, ◌∙◌, arith, inl, inr}
use Rattle.std.specs.List.{All, enumerate_from, filter, flat_map, insert, IsDistinct}
use Rattle.std.specs.List.Sorted.{IsPermutation}
use Rattle.std.specs.Ordering.{int_eq}
use Rattle.std.specs.Prelude.{nat_eq, not}
use Rattle.std.proofs.lemmas.Bool.{cases_Bool, cond-true, cond-false, eqb-true, eq-eqb, ne_eqb}
use Rattle.std.proofs.lemmas.Cmp.{nat_eq_equiv}
use Rattle.std.proofs.lemmas.List.{length-map}
use Rattle.std.proofs.lemmas.List.Elements.{All-cons, All-contains, All-contains_itself, All-from_recursion, All-head, All-map, All-nil, All-tail, All-weaker}
use Rattle.std.proofs.lemmas.List.Sorted.{Contains-permutation, IsPermutation-map, IsPermutation-trans, length_permutation}
use Rattle.std.proofs.lemmas.Map.Keys.{IsDistinct-head, IsDistinct-tail}
use Rattle.std.proofs.lemmas.Simd.{map-map}
use Rattle.louis_table.specs.Meaning.{Meaning}
use Rattle.louis_table.specs.Table.{Means}
use Rattle.louis_translate.specs.Braille.{braille}
use Rattle.louis_translate.specs.Tiling.{Tiles}
use Rattle.desk_memory.specs.declared.history.HeldEntry.{HeldEntry}
use Rattle.desk_memory.specs.declared.paragraphs.Paragraph.{Paragraph as HeldParagraph}
use Rattle.desk_model.specs.Book.{Book, Paragraph, text_of}
use Rattle.desk_model.specs.Loans.{LeadTo, row_number}
use Rattle.desk_book.specs.ChangePuts.{cache_put, further_from, held_row, version_put}
use Rattle.desk_memory.specs.Braille.{AreCellsOf}
use Rattle.desk_parts.specs.FileRows.{FileRows, HasUtf8Texts, format_of, spelled}
use Rattle.desk_memory.specs.Histories.{entries_held}
use Rattle.desk_memory.specs.Held.{paragraph_held}
use Rattle.desk_model.specs.Print.{corrected_print, print_of}
use Rattle.desk_parts.specs.declared.file_table.FileTable.TheVariants as tables
use Rattle.desk_parts.specs.Puts.{PutRow, RowPut, put_by_key, with_put, with_puts}
use Rattle.desk_parts.specs.Rows.{NamedCorr, Para, ParaCells}
use Rattle.desk_model.specs.Shows.{AreCached, IsCached, Shows, entry_row_of, entry_rows_of, para_of}
use Rattle.desk_model.proofs.Rows.ParaRows.{paras_of}
use Rattle.desk_model.specs.Sound.{IsSound, IsSoundParagraph}
use Rattle.desk_model.specs.NextBook.{next_id, next_with_paragraphs}
use Rattle.desk_model.specs.BookTexts.{AreCharacters}
use Rattle.desk_model.proofs.Rows.BookRows.{encoded-text, name-characters, spelled-encoded}
use Rattle.desk_model.proofs.Lists.Members.{Contains-cases, Contains-here, Contains-behind, Contains-map, Contains-none}
use Rattle.desk_model.proofs.Books.ParagraphLists.{ids_of}
use Rattle.desk_book.proofs.RowPuts.PutAdditions.{All-put_in, IsPermutation-put_in}
use Rattle.desk_book.proofs.RowPuts.PutCells.{ForSome-map}
use Rattle.desk_book.proofs.RowPuts.PutChanges.{same_key, small_id}
use Rattle.desk_book.proofs.RowPuts.PutOrder.{IsPermutation-flat_map}
use Rattle.desk_book.proofs.RowPuts.PutPlaces.{Misses, Places, Sends, index_in, map-agree, paras-indexed, place_set, placed, placed-at, placed-spelled, placed-texts, places-put}
use Rattle.desk_model.proofs.Rows.PutRows.{AreCached-put, IsBraille-same, IsPermutation-set, filter-all, id_number, number-small, versioned}
use Rattle.desk_model.proofs.Lists.RowNumbers.{int_eq-pos}
use Rattle.desk_model.proofs.Books.SoundBooks.{IsSoundTable-found, paragraph_of-own, paragraph_of-within, paragraphs-apart}

-- ---- places that move on by one

abbrev further_pair : ℕ × ℕ → ℤ × ℤ
further_pair (place, id) = (row_number id, row_number (place + 1))

module _ (id : ℕ) (small : id ≤ 20000) where
  misses-others : (n : ℕ) (xs : List ℕ) → All (λ (y : ℕ). nat_eq id y ≡ false) xs → Misses (pos id) (map further_pair (enumerate_from n xs))
  misses-others n [] others = All-nil (λ (e : ℤ × ℤ). int_eq (pos id) e.0 ≡ false)
  misses-others n (x ∷ xs) others =
      All-cons (λ (e : ℤ × ℤ). int_eq (pos id) e.0 ≡ false) (further_pair (n, x)) (map further_pair (enumerate_from (n + 1) xs))
      (same_key id x (omega arith) ∙ All-head (λ (y : ℕ). nat_eq id y ≡ false) x xs others)
      (misses-others (n + 1) xs (All-tail (λ (y : ℕ). nat_eq id y ≡ false) x xs others))

  misses-dropped : (k n : ℕ) (xs : List ℕ) → All (λ (y : ℕ). nat_eq id y ≡ false) xs → Misses (pos id) (map further_pair (drop k (enumerate_from n xs)))
  misses-dropped zero n xs others = misses-others n xs others
  misses-dropped (suc k) n [] others = All-nil (λ (e : ℤ × ℤ). int_eq (pos id) e.0 ≡ false)
  misses-dropped (suc k) n (x ∷ xs) others = misses-dropped k (n + 1) xs (All-tail (λ (y : ℕ). nat_eq id y ≡ false) x xs others)

  pub vacuous : (to : ℤ) (es : Places) → Misses (pos id) es → Sends (pos id) to es
  vacuous to es misses =
      All-weaker (λ (e : ℤ × ℤ). int_eq (pos id) e.0 ≡ false) (λ (e : ℤ × ℤ). int_eq (pos id) e.0 ≡ true → e.1 ≡ to)
      (λ e f t. absurd (let both : true ≡ false = sym t ∙ f in cc)) es misses

  others-of : (x : ℕ) (xs : List ℕ) → IsDistinct nat_eq (x ∷ xs) → x ≡ id → All (λ (y : ℕ). nat_eq id y ≡ false) xs
  others-of x xs apart same = subst (λ (z : ℕ). All (λ (y : ℕ). nat_eq z y ≡ false) xs) same (All-from_recursion (λ (y : ℕ). nat_eq x y ≡ false) xs (IsDistinct-head nat_eq x xs apart))

  sends-all : (n : ℕ) (xs : List ℕ) → IsDistinct nat_eq xs → n + length xs ≤ 20002 → Sends (pos id) (pos (n + suc (index_in xs id))) (map further_pair (enumerate_from n xs))
  sends-all n [] apart few = All-nil (λ (e : ℤ × ℤ). int_eq (pos id) e.0 ≡ true → e.1 ≡ pos (n + 1))
  sends-all n (x ∷ xs) apart few =
      let to : ℤ = pos (n + suc (index_in (x ∷ xs) id)) in
      elim (cases_Bool (nat_eq x id)) [
        | inl t ↦
            let at : index_in (x ∷ xs) id ≡ 0 = cond-true (nat_eq x id) 0 (suc (index_in xs id)) t in
            All-cons (λ (e : ℤ × ℤ). int_eq (pos id) e.0 ≡ true → e.1 ≡ to) (further_pair (n, x)) (map further_pair (enumerate_from (n + 1) xs))
            (λ h. number-small (n + 1) (omega arith) ∙ ap pos (omega arith))
            (vacuous to (map further_pair (enumerate_from (n + 1) xs)) (misses-others (n + 1) xs (others-of x xs apart (eqb-true x id t))))
        | inr f ↦
            let at : index_in (x ∷ xs) id ≡ suc (index_in xs id) = cond-false (nat_eq x id) 0 (suc (index_in xs id)) f in
            let is : n + 1 + suc (index_in xs id) ≡ n + suc (index_in (x ∷ xs) id) = omega arith in
            All-cons (λ (e : ℤ × ℤ). int_eq (pos id) e.0 ≡ true → e.1 ≡ to) (further_pair (n, x)) (map further_pair (enumerate_from (n + 1) xs))
            (λ h. absurd (let no : int_eq (pos id) (row_number x) ≡ false = same_key id x (omega arith) ∙ (nat_eq_equiv.symm id x ∙ f) in let both : true ≡ false = sym h ∙ no in cc))
            (subst (λ (k : ℕ). Sends (pos id) (pos k) (map further_pair (enumerate_from (n + 1) xs))) is (sends-all (n + 1) xs (IsDistinct-tail nat_eq x xs apart) (omega arith)))
      ]

  never-missed : (n : ℕ) (xs : List ℕ) → Contains xs id → Misses (pos id) (map further_pair (enumerate_from n xs)) → ⊥
  never-missed n [] c misses = Contains-none id c
  never-missed n (x ∷ xs) c misses =
      elim (Contains-cases x id xs c) [
        | inl same ↦
            let yes : int_eq (pos id) (row_number x) ≡ true = same_key id x (omega arith) ∙ eq-eqb id x (sym same) in
            let no = All-head (λ (e : ℤ × ℤ). int_eq (pos id) e.0 ≡ false) (further_pair (n, x)) (map further_pair (enumerate_from (n + 1) xs)) misses in
            let both : true ≡ false = sym yes ∙ no in cc
        | inr rest ↦ never-missed (n + 1) xs rest (All-tail (λ (e : ℤ × ℤ). int_eq (pos id) e.0 ≡ false) (further_pair (n, x)) (map further_pair (enumerate_from (n + 1) xs)) misses)
      ]

  -- an id that is there stays before the place, and moves on by one from there on
  pub goes-further : (new n : ℕ) (xs : List ℕ) (place : ℕ) → nat_eq new id ≡ false → IsDistinct nat_eq xs → Contains xs id → n + length xs ≤ 20002
      → Sends (pos id) (pos (n + index_in (insert xs place new) id)) (map further_pair (drop place (enumerate_from n xs)))
      × (Misses (pos id) (map further_pair (drop place (enumerate_from n xs))) → index_in xs id ≡ index_in (insert xs place new) id)
  goes-further new n xs zero other apart c few =
      let at : index_in (new ∷ xs) id ≡ suc (index_in xs id) = cond-false (nat_eq new id) 0 (suc (index_in xs id)) other in (
        subst (λ (k : ℕ). Sends (pos id) (pos (n + k)) (map further_pair (enumerate_from n xs))) (sym at) (sends-all n xs apart few),
        λ misses. absurd (never-missed n xs c misses),
      )
  goes-further new n [] (suc place) other apart c few = absurd (Contains-none id c)
  goes-further new n (x ∷ xs) (suc place) other apart c few =
      let es : Places = map further_pair (drop place (enumerate_from (n + 1) xs)) in
      elim (cases_Bool (nat_eq x id)) [
        | inl t ↦
            let was : index_in (x ∷ xs) id ≡ 0 = cond-true (nat_eq x id) 0 (suc (index_in xs id)) t in
            let is : index_in (x ∷ insert xs place new) id ≡ 0 = cond-true (nat_eq x id) 0 (suc (index_in (insert xs place new) id)) t in (
              vacuous (pos (n + index_in (x ∷ insert xs place new) id)) es (misses-dropped place (n + 1) xs (others-of x xs apart (eqb-true x id t))),
              λ misses. was ∙ sym is,
            )
        | inr f ↦
            let was : index_in (x ∷ xs) id ≡ suc (index_in xs id) = cond-false (nat_eq x id) 0 (suc (index_in xs id)) f in
            let is : index_in (x ∷ insert xs place new) id ≡ suc (index_in (insert xs place new) id) = cond-false (nat_eq x id) 0 (suc (index_in (insert xs place new) id)) f in
            let rest = goes-further new (n + 1) xs place other (IsDistinct-tail nat_eq x xs apart) (behind f) (omega arith) in
            let on : n + 1 + index_in (insert xs place new) id ≡ n + index_in (x ∷ insert xs place new) id = omega arith in (
              subst (λ (k : ℕ). Sends (pos id) (pos k) es) on rest.0,
              λ misses. was ∙ (ap suc (rest.1 misses) ∙ sym is),
            )
      ]
    where
      behind : nat_eq x id ≡ false → Contains xs id
      behind f = elim (Contains-cases x id xs c) [
        | inl same ↦ absurd (let t : nat_eq x id ≡ true = eq-eqb x id same in let both : true ≡ false = sym t ∙ f in cc)
        | inr rest ↦ rest
      ]

-- the index of a new id
new-index : (new : ℕ) (xs : List ℕ) (place : ℕ) → All (λ (y : ℕ). nat_eq new y ≡ false) xs → place ≤ length xs → index_in (insert xs place new) new ≡ place
new-index new xs zero others within = cond-true (nat_eq new new) 0 (suc (index_in xs new)) (eq-eqb new new refl)
new-index new [] (suc place) others within = absurd (omega arith)
new-index new (x ∷ xs) (suc place) others within =
    cond-false (nat_eq x new) 0 (suc (index_in (insert xs place new) new)) (nat_eq_equiv.symm x new ∙ All-head (λ (y : ℕ). nat_eq new y ≡ false) x xs others)
    ∙ ap suc (new-index new xs place (All-tail (λ (y : ℕ). nat_eq new y ≡ false) x xs others) (omega arith))

-- ---- a paragraph more

module _ (book : Book) (ps : List Paragraph) (held : HeldParagraph) (place : ℕ) (source : List ℕ) (meaning : Meaning) (sound : IsSound book)
    (within : place ≤ length book.paragraphs) (fresh : held.history ≡ []) (print : held.print ≡ held.original)
    (found : text_of book held.table ≡ Some source) (means : Means source meaning) (cells : AreCellsOf meaning held.print held.cells)
    (moved : IsPermutation (paragraph_held (next_id book, held) ∷ book.paragraphs) ps)
    (order : insert (ids_of book.paragraphs) place (next_id book) ≡ ids_of ps) where
  abbrev next : Book
  next = next_with_paragraphs book ps

  abbrev number : ℕ
  number = next_id book

  abbrev new : Paragraph
  new = paragraph_held (number, held)

  abbrev old_ids : List ℕ
  old_ids = ids_of book.paragraphs

  abbrev es : Places
  es = map further_pair (drop place (enumerate_from 1 old_ids))

  module _ (after : IsSound next) where
    is_sound : IsSoundParagraph next new
    is_sound = All-contains (IsSoundParagraph next) ps new after.paragraphs (Contains-permutation (new ∷ book.paragraphs) ps new moved (Contains-here new book.paragraphs))

    few : number ≤ 20000
    few = let count = length_permutation (new ∷ book.paragraphs) ps moved in let most = after.few_paragraphs in omega arith

    others-apart : All (λ (y : ℕ). nat_eq number y ≡ false) old_ids
    others-apart = All-map (λ (y : ℕ). nat_eq number y ≡ false) (λ (p : Paragraph). p.id) book.paragraphs
        (All-weaker (Contains book.paragraphs) (λ (p : Paragraph). nat_eq number p.id ≡ false) (λ p c.
        let lower = (paragraph_of-within book sound p.id p (paragraph_of-own book sound p c)).1 in
        ne_eqb number p.id (λ same. omega arith)) book.paragraphs (All-contains_itself book.paragraphs))

    characters : AreCharacters held.table
    characters = name-characters held.table (IsSoundTable-found next after held.table is_sound.text is_sound.found).named

    print_is : held.print ≡ print_of new
    print_is = print ∙ sym (ap (λ (h : List HeldEntry). corrected_print held.original (entries_held h)) fresh)

    abbrev row : Para
    row = held_row number (place + 1) held

    spelled-row : spelled tables.Para row ≡ para_of (place + 1, new)
    spelled-row =
        let most = few in
        let lower : number ≡ length book.paragraphs + 1 = refl in
        let id = number-small number (omega arith) in
        let at = number-small (place + 1) (omega arith) in
        let tab = spelled-encoded held.table characters in
        let original = spelled-encoded held.original is_sound.clean.characters in
        let shown = spelled-encoded held.print (subst AreCharacters (sym print) is_sound.clean.characters) ∙ print_is in
        cc

    old-placed : (q : Paragraph) → Contains book.paragraphs q → placed es (para_of (1 + index_in old_ids q.id, q)) ≡ para_of (1 + index_in (insert old_ids place number) q.id, q)
    old-placed q c =
        let small = small_id book sound q c in
        let count = length-map book.paragraphs (λ (p : Paragraph). p.id) in
        let most = sound.few_paragraphs in
        let here : Contains old_ids q.id = Contains-map (λ (p : Paragraph). p.id) book.paragraphs q c in
        let goes = goes-further q.id small number 1 old_ids place (All-contains (λ (y : ℕ). nat_eq number y ≡ false) old_ids q.id others-apart here) (paragraphs-apart book sound) here (omega arith) in
        placed-at (pos (1 + index_in (insert old_ids place number) q.id)) es (para_of (1 + index_in old_ids q.id, q)) goes.0
        (λ misses. ap (λ (k : ℕ). pos (1 + k)) (goes.1 misses))

    new-placed : placed es (para_of (place + 1, new)) ≡ para_of (1 + index_in (insert old_ids place number) number, new)
    new-placed =
        let most = few in
        let count = length-map book.paragraphs (λ (p : Paragraph). p.id) in
        let at = new-index number old_ids place others-apart (omega arith) in
        let is : place + 1 ≡ 1 + index_in (insert old_ids place number) number = omega arith in
        placed-at (pos (1 + index_in (insert old_ids place number) number)) es (para_of (place + 1, new))
        (vacuous number most (pos (1 + index_in (insert old_ids place number) number)) es (misses-dropped number most place 1 old_ids others-apart))
        (λ misses. ap pos is)

    rows-placed : IsPermutation (map (placed es) (para_of (place + 1, new) ∷ paras_of book.paragraphs)) (paras_of ps)
    rows-placed =
        let from : Paragraph → Para = λ q. para_of (1 + index_in old_ids q.id, q) in
        let to : Paragraph → Para = λ q. para_of (1 + index_in (insert old_ids place number) q.id, q) in
        let olds : map (placed es) (paras_of book.paragraphs) ≡ map to book.paragraphs =
        ap (map (placed es)) (paras-indexed 1 book.paragraphs (paragraphs-apart book sound))
        ∙ (map-map (placed es) from book.paragraphs
        ∙ map-agree (λ q. placed es (from q)) to book.paragraphs
        (All-weaker (Contains book.paragraphs) (λ q. placed es (from q) ≡ to q) old-placed book.paragraphs (All-contains_itself book.paragraphs))) in
        let last : map to ps ≡ paras_of ps = ap (λ (ids : List ℕ). map (λ (q : Paragraph). para_of (1 + index_in ids q.id, q)) ps) order ∙ sym (paras-indexed 1 ps (paragraphs-apart next after)) in
        subst (λ (rows : List Para). IsPermutation rows (paras_of ps)) (λ i. sym new-placed i ∷ sym olds i)
        (subst (IsPermutation (map to (new ∷ book.paragraphs))) last (IsPermutation-map to (new ∷ book.paragraphs) ps moved))

    -- ---- the braille

    ids-more : IsPermutation (pos number ∷ filter (λ n. not (int_eq n (pos number))) (map id_number book.paragraphs)) (map id_number ps)
    ids-more =
        let all : filter (λ n. not (int_eq n (pos number))) (map id_number book.paragraphs) ≡ map id_number book.paragraphs =
        filter-all (λ n. not (int_eq n (pos number))) (map id_number book.paragraphs)
        (All-map (λ n. not (int_eq n (pos number)) ≡ true) id_number book.paragraphs
        (All-weaker (Contains book.paragraphs) (λ (p : Paragraph). not (int_eq (pos p.id) (pos number)) ≡ true) (λ p c.
        let lower = (paragraph_of-within book sound p.id p (paragraph_of-own book sound p c)).1 in
        ap not (int_eq-pos p.id number ∙ ne_eqb p.id number (λ same. omega arith))) book.paragraphs (All-contains_itself book.paragraphs))) in
        subst (λ (ns : List ℤ). IsPermutation (pos number ∷ ns) (map id_number ps)) (sym all) (IsPermutation-map id_number (new ∷ book.paragraphs) ps moved)

    abbrev cached : ParaCells
    cached = record { para = pos number; cells = held.cells }

    cached-here : IsCached next cached
    cached-here = record {
      paragraph = new;
      there = Contains-permutation (new ∷ book.paragraphs) ps new moved (Contains-here new book.paragraphs);
      named = refl;
      cells = (
        meaning,
        cells.0,
        record { text = source; found = found; means = means; tiles = subst (λ (t : List ℕ). Tiles meaning t cells.0) print_is cells.1 },
        cells.2 ∙ ap (λ (t : List ℕ). braille meaning t cells.0) print_is,
      );
    }

    cached-others : (other : ParaCells) → IsCached book other → IsCached next other
    cached-others other is = record {
      paragraph = is.paragraph;
      there = Contains-permutation (new ∷ book.paragraphs) ps is.paragraph moved (Contains-behind new is.paragraph book.paragraphs is.there);
      named = is.named;
      cells = IsBraille-same book next is.paragraph is.paragraph refl refl other.cells is.cells;
    }

    entries-same : IsPermutation (flat_map entry_rows_of book.paragraphs) (flat_map entry_rows_of ps)
    entries-same =
        let none : entry_rows_of new ≡ [] = ap (λ (h : List HeldEntry). map (entry_row_of number) (enumerate_from 1 (entries_held h))) fresh in
        subst (λ (es : List NamedCorr). IsPermutation (es ++ flat_map entry_rows_of book.paragraphs) (flat_map entry_rows_of ps)) none
        (IsPermutation-flat_map entry_rows_of (new ∷ book.paragraphs) ps moved)

    abbrev key : Para → Bool
    key p = int_eq p.id (row_number number)

    spelled-rows : (rows : FileRows) → Shows rows book → IsPermutation (map (spelled tables.Para) (put_by_key key row rows.paras)) (para_of (place + 1, new) ∷ paras_of book.paragraphs)
    spelled-rows rows shows =
        let olds : List Para = paras_of book.paragraphs in
        let put = IsPermutation-put_in (spelled tables.Para) key key row rows.paras olds (λ k d lt. refl) shows.paragraphs in
        let all : filter (λ p. not (key p)) olds ≡ olds = filter-all (λ p. not (key p)) olds others-rows in
        subst (IsPermutation (map (spelled tables.Para) (put_by_key key row rows.paras))) (λ i. spelled-row i ∷ all i) put
      where
        others-rows : All (λ (p : Para). not (key p) ≡ true) (paras_of book.paragraphs)
        others-rows = subst (All (λ (p : Para). not (key p) ≡ true)) (sym (paras-indexed 1 book.paragraphs (paragraphs-apart book sound)))
            (All-map (λ (p : Para). not (key p) ≡ true) (λ (q : Paragraph). para_of (1 + index_in old_ids q.id, q)) book.paragraphs
            (All-weaker (Contains book.paragraphs) (λ (q : Paragraph). not (int_eq (pos q.id) (row_number number)) ≡ true) (λ q c.
            let lower = (paragraph_of-within book sound q.id q (paragraph_of-own book sound q c)).1 in
            let small = small_id book sound q c in
            ap not (same_key q.id number (omega arith) ∙ ne_eqb q.id number (λ same. omega arith))) book.paragraphs (All-contains_itself book.paragraphs)))

    shown-placed : (rows : FileRows) → Shows rows book → Shows (with_puts (map place_set es) (with_put (PutRow tables.Cache cached) (with_put (PutRow tables.Para row) (with_put (version_put next.version) rows)))) next
    shown-placed rows shows =
        let at : FileRows = with_put (PutRow tables.Cache cached) (with_put (PutRow tables.Para row) (with_put (version_put next.version) rows)) in
        let texts : All (HasUtf8Texts tables.Para) (put_by_key key row rows.paras) = All-put_in (HasUtf8Texts tables.Para) key row rows.paras
        (encoded-text held.table characters, encoded-text held.original is_sound.clean.characters, encoded-text held.print (subst AreCharacters (sym print) is_sound.clean.characters)) shows.texts.paras in
        subst (λ (r : FileRows). Shows r next) (sym (places-put es at)) (record {
          sound = after;
          texts = record {
            tabs = shows.texts.tabs;
            paras = All-map (HasUtf8Texts tables.Para) (placed es) (put_by_key key row rows.paras) (All-weaker (HasUtf8Texts tables.Para) (λ p. HasUtf8Texts tables.Para (placed es p)) (placed-texts es) (put_by_key key row rows.paras) texts);
            entries = shows.texts.entries;
            marks = shows.texts.marks;
          };
          row = versioned (format_of rows.entries) book.version next.version rows.books after.version shows.row;
          tables = shows.tables;
          paragraphs = IsPermutation-trans (map (spelled tables.Para) (map (placed es) (put_by_key key row rows.paras))) (map (placed es) (para_of (place + 1, new) ∷ paras_of book.paragraphs)) (paras_of ps)
              (IsPermutation-set (spelled tables.Para) (placed es) (placed es) (placed-spelled es) (put_by_key key row rows.paras) (para_of (place + 1, new) ∷ paras_of book.paragraphs) (spelled-rows rows shows)) rows-placed;
          entries = IsPermutation-trans _ (flat_map entry_rows_of book.paragraphs) (flat_map entry_rows_of ps) shows.entries entries-same;
          marks = shows.marks;
          caches = ForSome-map (put_by_key (λ c. int_eq c.para (pos number)) cached) (AreCached book) (AreCached next) rows.caches shows.caches
              (λ caches is. AreCached-put book next caches cached ids-more cached-here (λ other apart. cached-others other) is);
        })

    further-puts : further_from place old_ids ≡ map place_set es
    further-puts = sym (map-map place_set further_pair (drop place (enumerate_from 1 old_ids)))

    pub paragraph-lead : LeadTo book (version_put next.version ∷ PutRow tables.Para row ∷ cache_put number held.cells ∷ further_from place old_ids) next
    paragraph-lead rows shows has =
        let most = few in
        let small : row_number number ≡ pos number = number-small number (omega arith) in
        subst (λ (puts : List RowPut). Shows (with_puts puts (with_put (cache_put number held.cells) (with_put (PutRow tables.Para row) (with_put (version_put next.version) rows)))) next) (sym further-puts)
        (subst (λ (n : ℤ). Shows (with_puts (map place_set es) (with_put (PutRow tables.Cache (record { para = n; cells = held.cells })) (with_put (PutRow tables.Para row) (with_put (version_put next.version) rows)))) next) (sym small)
        (shown-placed rows shows))
