-- What another order of the paragraphs puts makes rows that show the book show the next.
use Rattle.std.proofs.Common.{◌≡◌, ℕ, zero, suc, ◌+◌, ◌-◌, ◌≤◌, ℤ, pos, Bool, true, false, cond, List, [], ◌∷◌, ◌++◌, append_assoc, length, map, Option, Some, None, Contains, refl, sym, ap, subst, ◌∙◌, arith, inl, inr}
use Rattle.std.specs.List.{All, enumerate_from, flat_map, IsDistinct}
use Rattle.std.specs.List.Sorted.{IsPermutation}
use Rattle.std.specs.Option.{option_map_or}
use Rattle.std.specs.Ordering.{int_eq}
use Rattle.std.specs.Prelude.{nat_eq, slice_get}
use Rattle.std.proofs.lemmas.Bool.{cases_Bool, cond-true, cond-false, eqb-true, eq-eqb}
use Rattle.std.proofs.lemmas.Cmp.{nat_eq_equiv}
use Rattle.std.proofs.lemmas.List.{length-map}
use Rattle.std.proofs.lemmas.List.Elements.{All-append, All-contains, All-contains_itself, All-cons, All-from_recursion, All-head, All-map, All-nil, All-tail, All-weaker}
use Rattle.std.proofs.lemmas.List.Sorted.{Contains-permutation, IsPermutation-append_comm, IsPermutation-append_left, IsPermutation-append_right, IsPermutation-map, IsPermutation-refl, IsPermutation-trans}
use Rattle.std.proofs.lemmas.Map.Keys.{IsDistinct-head, IsDistinct-tail}
use Rattle.std.proofs.lemmas.Simd.{map-map}
use Rattle.desk_model.specs.Book.{Book, Paragraph}
use Rattle.desk_model.specs.Loans.{LeadTo, row_number}
use Rattle.desk_book.specs.ChangePuts.{elsewhere_from, elsewhere_put, place_put, stays_in, version_put}
use Rattle.desk_parts.specs.declared.file_table.FileTable.TheVariants as file
use Rattle.desk_parts.specs.FileRows.{FileRows, HasUtf8Texts, format_of, spelled}
use Rattle.desk_parts.specs.Puts.{RowPut, with_put, with_puts}
use Rattle.desk_parts.specs.Rows.{ParaCells, Para}
use Rattle.desk_model.specs.Shows.{IsCached, Shows, entry_rows_of, para_of}
use Rattle.desk_model.proofs.Rows.ParaRows.{paras_of}
use Rattle.desk_model.specs.Sound.{IsSound}
use Rattle.desk_model.specs.NextBook.{next_with_paragraphs}
use Rattle.desk_model.proofs.Lists.Items.{Contains-there}
use Rattle.desk_model.proofs.Lists.Members.{Contains-cases, Contains-map, Contains-none}
use Rattle.desk_model.proofs.Books.ParagraphLists.{ids_of}
use Rattle.desk_model.proofs.Lists.Permutations.{along_permutation}
use Rattle.desk_book.proofs.RowPuts.PutChanges.{same_key, small_id}
use Rattle.desk_book.proofs.RowPuts.PutPlaces.{Misses, Places, Sends, index_in, map-agree, paras-indexed, place_set, placed, placed-at, placed-spelled, placed-texts, places-put}
use Rattle.desk_model.proofs.Rows.PutRows.{AreCached-same, IsBraille-same, IsPermutation-set, id_number, number-small, versioned}
use Rattle.desk_model.proofs.Books.SoundBooks.{paragraphs-apart}

-- ---- lists made of elements in another order

module _ {X Y : Type 0} (f : X → List Y) where
  heads_exchanged : (x y : X) (xs : List X) → IsPermutation (flat_map f (x ∷ y ∷ xs)) (flat_map f (y ∷ x ∷ xs))
  heads_exchanged x y xs =
      subst (λ (l : List Y). IsPermutation l (f y ++ (f x ++ flat_map f xs))) (append_assoc (f x) (f y) (flat_map f xs))
      (subst (IsPermutation ((f x ++ f y) ++ flat_map f xs)) (append_assoc (f y) (f x) (flat_map f xs))
      (IsPermutation-append_left (flat_map f xs) (f x ++ f y) (f y ++ f x) (IsPermutation-append_comm (f x) (f y))))

  pub IsPermutation-flat_map : (xs ys : List X) → IsPermutation xs ys → IsPermutation (flat_map f xs) (flat_map f ys)
  IsPermutation-flat_map =
      along_permutation (λ xs ys. IsPermutation (flat_map f xs) (flat_map f ys)) (λ xs. IsPermutation-refl (flat_map f xs))
      (λ x xs ys h. IsPermutation-append_right (f x) (flat_map f xs) (flat_map f ys) h) heads_exchanged
      (λ xs ys zs g h. IsPermutation-trans (flat_map f xs) (flat_map f ys) (flat_map f zs) g h)

-- ---- the index of an id

-- the index at which an id stands
pub index-at : (xs : List ℕ) (i id : ℕ) → IsDistinct nat_eq xs → slice_get xs i ≡ Some id → index_in xs id ≡ i
index-at [] i id apart at = absurd (cc)
index-at (x ∷ xs) zero id apart at =
    let same : x ≡ id = cc in
    cond-true (nat_eq x id) 0 (suc (index_in xs id)) (eq-eqb x id same)
index-at (x ∷ xs) (suc i) id apart at =
    let others = All-from_recursion (λ (y : ℕ). nat_eq x y ≡ false) xs (IsDistinct-head nat_eq x xs apart) in
    cond-false (nat_eq x id) 0 (suc (index_in xs id)) (All-contains (λ (y : ℕ). nat_eq x y ≡ false) xs id others (there xs i at))
    ∙ ap suc (index-at xs i id (IsDistinct-tail nat_eq x xs apart) at)
  where
    there : (ys : List ℕ) (j : ℕ) → slice_get ys j ≡ Some id → Contains ys id
    there ys j e = Contains-there ys j id e

-- ---- the places that differ

abbrev elsewhere_pair : List ℕ → ℕ × ℕ → Places
elsewhere_pair old (place, id) = cond (stays_in old (place, id)) [] ((row_number id, row_number place) ∷ [])

abbrev pairs_from : List ℕ → ℕ → List ℕ → Places
pairs_from old n new = flat_map (elsewhere_pair old) (enumerate_from n new)

elsewhere-puts : (old : List ℕ) (n : ℕ) (new : List ℕ) → flat_map (elsewhere_put old) (enumerate_from n new) ≡ map place_set (pairs_from old n new)
elsewhere-puts old n [] = refl
elsewhere-puts old n (x ∷ xs) =
    let rest : List RowPut = flat_map (elsewhere_put old) (enumerate_from (n + 1) xs) in
    let pairs : Places = pairs_from old (n + 1) xs in
    let later : rest ≡ map place_set pairs = elsewhere-puts old (n + 1) xs in
    elim (stays_in old (n, x)) as (λ b. cond b [] (place_put x n ∷ []) ++ rest ≡ map place_set (cond b [] ((row_number x, row_number n) ∷ []) ++ pairs)) [
      | true ↦ later
      | false ↦ ap (λ (l : List RowPut). place_put x n ∷ l) later
    ]

module _ (old : List ℕ) (id : ℕ) (small : id ≤ 20000) where
  -- no other id is put for it
  misses-others : (n : ℕ) (xs : List ℕ) → All (λ (y : ℕ). nat_eq id y ≡ false) xs → Misses (pos id) (pairs_from old n xs)
  misses-others n [] others = All-nil (λ (e : ℤ × ℤ). int_eq (pos id) e.0 ≡ false)
  misses-others n (x ∷ xs) others =
      All-append (λ (e : ℤ × ℤ). int_eq (pos id) e.0 ≡ false) (elsewhere_pair old (n, x)) (pairs_from old (n + 1) xs)
      (elim (stays_in old (n, x)) as (λ b. Misses (pos id) (cond b [] ((row_number x, row_number n) ∷ []))) [
        | true ↦ All-nil (λ (e : ℤ × ℤ). int_eq (pos id) e.0 ≡ false)
        | false ↦ All-cons (λ (e : ℤ × ℤ). int_eq (pos id) e.0 ≡ false) (row_number x, row_number n) []
            (same_key id x (omega arith) ∙ All-head (λ (y : ℕ). nat_eq id y ≡ false) x xs others) (All-nil (λ (e : ℤ × ℤ). int_eq (pos id) e.0 ≡ false))
      ])
      (misses-others (n + 1) xs (All-tail (λ (y : ℕ). nat_eq id y ≡ false) x xs others))

  sends-vacuous : (to : ℤ) (es : Places) → Misses (pos id) es → Sends (pos id) to es
  sends-vacuous to es misses =
      All-weaker (λ (e : ℤ × ℤ). int_eq (pos id) e.0 ≡ false) (λ (e : ℤ × ℤ). int_eq (pos id) e.0 ≡ true → e.1 ≡ to)
      (λ e f t. absurd (let both : true ≡ false = sym t ∙ f in cc)) es misses

  sends-elsewhere : (n : ℕ) (xs : List ℕ) → IsDistinct nat_eq xs → n + length xs ≤ 20001 → Sends (pos id) (pos (n + index_in xs id)) (pairs_from old n xs)
  sends-elsewhere n [] apart few = All-nil (λ (e : ℤ × ℤ). int_eq (pos id) e.0 ≡ true → e.1 ≡ pos (n + 0))
  sends-elsewhere n (x ∷ xs) apart few =
      elim (cases_Bool (nat_eq x id)) [
        | inl t ↦
            let to : ℤ = pos (n + index_in (x ∷ xs) id) in
            let at : index_in (x ∷ xs) id ≡ 0 = cond-true (nat_eq x id) 0 (suc (index_in xs id)) t in
            let same : x ≡ id = eqb-true x id t in
            let is : row_number n ≡ to = number-small n (omega arith) ∙ ap pos (omega arith) in
            let others = All-from_recursion (λ (y : ℕ). nat_eq x y ≡ false) xs (IsDistinct-head nat_eq x xs apart) in
            All-append (λ (e : ℤ × ℤ). int_eq (pos id) e.0 ≡ true → e.1 ≡ to) (elsewhere_pair old (n, x)) (pairs_from old (n + 1) xs)
            (elim (stays_in old (n, x)) as (λ b. Sends (pos id) to (cond b [] ((row_number x, row_number n) ∷ []))) [
              | true ↦ All-nil (λ (e : ℤ × ℤ). int_eq (pos id) e.0 ≡ true → e.1 ≡ to)
              | false ↦ All-cons (λ (e : ℤ × ℤ). int_eq (pos id) e.0 ≡ true → e.1 ≡ to) (row_number x, row_number n) [] (λ h. is) (All-nil (λ (e : ℤ × ℤ). int_eq (pos id) e.0 ≡ true → e.1 ≡ to))
            ])
            (sends-vacuous to (pairs_from old (n + 1) xs) (misses-others (n + 1) xs (subst (λ (z : ℕ). All (λ (y : ℕ). nat_eq z y ≡ false) xs) same others)))
        | inr f ↦
            let at : index_in (x ∷ xs) id ≡ suc (index_in xs id) = cond-false (nat_eq x id) 0 (suc (index_in xs id)) f in
            let to : ℤ = pos (n + index_in (x ∷ xs) id) in
            let is : n + 1 + index_in xs id ≡ n + index_in (x ∷ xs) id = omega arith in
            All-append (λ (e : ℤ × ℤ). int_eq (pos id) e.0 ≡ true → e.1 ≡ to) (elsewhere_pair old (n, x)) (pairs_from old (n + 1) xs)
            (sends-vacuous to (elsewhere_pair old (n, x)) (elim (stays_in old (n, x)) as (λ b. Misses (pos id) (cond b [] ((row_number x, row_number n) ∷ []))) [
              | true ↦ All-nil (λ (e : ℤ × ℤ). int_eq (pos id) e.0 ≡ false)
              | false ↦ All-cons (λ (e : ℤ × ℤ). int_eq (pos id) e.0 ≡ false) (row_number x, row_number n) []
                  (same_key id x (omega arith) ∙ (nat_eq_equiv.symm id x ∙ f)) (All-nil (λ (e : ℤ × ℤ). int_eq (pos id) e.0 ≡ false))
            ]))
            (subst (λ (k : ℕ). Sends (pos id) (pos k) (pairs_from old (n + 1) xs)) is (sends-elsewhere (n + 1) xs (IsDistinct-tail nat_eq x xs apart) (omega arith)))
      ]

  -- if no place is put for it, it stays
  stays-missed : (n : ℕ) (xs : List ℕ) → Contains xs id → Misses (pos id) (pairs_from old n xs) → stays_in old (n + index_in xs id, id) ≡ true
  stays-missed n [] c misses = absurd (Contains-none id c)
  stays-missed n (x ∷ xs) c misses =
      elim (cases_Bool (nat_eq x id)) [
        | inl t ↦
            let at : n + index_in (x ∷ xs) id ≡ n = let zeroth = cond-true (nat_eq x id) 0 (suc (index_in xs id)) t in omega arith in
            let same : x ≡ id = eqb-true x id t in
            ap (λ (k : ℕ). stays_in old (k, id)) at ∙ subst (λ (z : ℕ). stays_in old (n, z) ≡ true) same (here same)
        | inr f ↦
            let at : n + index_in (x ∷ xs) id ≡ n + 1 + index_in xs id = let next = cond-false (nat_eq x id) 0 (suc (index_in xs id)) f in omega arith in
            ap (λ (k : ℕ). stays_in old (k, id)) at ∙ stays-missed (n + 1) xs (behind f) later
      ]
    where
      here : x ≡ id → stays_in old (n, x) ≡ true
      here same = elim (cases_Bool (stays_in old (n, x))) [
        | inl t ↦ t
        | inr f ↦
            let first : Misses (pos id) ((row_number x, row_number n) ∷ pairs_from old (n + 1) xs) =
            subst (λ (b : Bool). Misses (pos id) (cond b [] ((row_number x, row_number n) ∷ []) ++ pairs_from old (n + 1) xs)) f misses in
            let no : int_eq (pos id) (row_number x) ≡ false = All-head (λ (e : ℤ × ℤ). int_eq (pos id) e.0 ≡ false) (row_number x, row_number n) (pairs_from old (n + 1) xs) first in
            let yes : int_eq (pos id) (row_number x) ≡ true = same_key id x (omega arith) ∙ eq-eqb id x (sym same) in
            absurd (let both : true ≡ false = sym yes ∙ no in cc)
      ]

      behind : nat_eq x id ≡ false → Contains xs id
      behind f = elim (Contains-cases x id xs c) [
        | inl same ↦ absurd (let t : nat_eq x id ≡ true = eq-eqb x id same in let both : true ≡ false = sym t ∙ f in cc)
        | inr rest ↦ rest
      ]

      later : Misses (pos id) (pairs_from old (n + 1) xs)
      later = elim (stays_in old (n, x)) as (λ b. Misses (pos id) (cond b [] ((row_number x, row_number n) ∷ []) ++ pairs_from old (n + 1) xs) → Misses (pos id) (pairs_from old (n + 1) xs)) [
        | true ↦ λ m. m
        | false ↦ λ m. All-tail (λ (e : ℤ × ℤ). int_eq (pos id) e.0 ≡ false) (row_number x, row_number n) (pairs_from old (n + 1) xs) m
      ] misses

stays-there : (old : List ℕ) (i id : ℕ) → stays_in old (1 + i, id) ≡ true → slice_get old i ≡ Some id
stays-there old i id stays =
    let at : 1 + i - 1 ≡ i = omega arith in
    by (slice_get old i) refl (subst (λ (k : ℕ). option_map_or (λ other. nat_eq other id) (slice_get old k) false ≡ true) at stays)
  where
    by : (o : Option ℕ) → slice_get old i ≡ o → option_map_or (λ other. nat_eq other id) (slice_get old i) false ≡ true → slice_get old i ≡ Some id
    by None e is = absurd (let both : false ≡ true = ap (λ (o : Option ℕ). option_map_or (λ other. nat_eq other id) o false) (sym e) ∙ is in cc)
    by (Some other) e is =
        let t : nat_eq other id ≡ true = ap (λ (o : Option ℕ). option_map_or (λ other. nat_eq other id) o false) (sym e) ∙ is in
        e ∙ ap {B = Option ℕ} Some (eqb-true other id t)

-- ---- the paragraphs in their new order

module _ (book : Book) (ps : List Paragraph) (sound : IsSound book) (moved : IsPermutation book.paragraphs ps) where
  abbrev next : Book
  next = next_with_paragraphs book ps

  abbrev old_ids : List ℕ
  old_ids = ids_of book.paragraphs

  abbrev new_ids : List ℕ
  new_ids = ids_of ps

  abbrev es : Places
  es = pairs_from old_ids 1 new_ids

  module _ (after : IsSound next) where
    few : length new_ids ≤ 20000
    few = let count = length-map ps (λ p. p.id) in let most = after.few_paragraphs in omega arith

    row-placed : (q : Paragraph) → Contains book.paragraphs q → placed es (para_of (1 + index_in old_ids q.id, q)) ≡ para_of (1 + index_in new_ids q.id, q)
    row-placed q c =
        let small = small_id book sound q c in
        let here : Contains new_ids q.id = Contains-map (λ p. p.id) ps q (Contains-permutation book.paragraphs ps q moved c) in
        let most = few in
        placed-at (pos (1 + index_in new_ids q.id)) es (para_of (1 + index_in old_ids q.id, q))
        (sends-elsewhere old_ids q.id small 1 new_ids (paragraphs-apart next after) (omega arith))
        (λ misses.
        let stays = stays-missed old_ids q.id small 1 new_ids here misses in
        let at = stays-there old_ids (index_in new_ids q.id) q.id stays in
        let same : index_in old_ids q.id ≡ index_in new_ids q.id = index-at old_ids (index_in new_ids q.id) q.id (paragraphs-apart book sound) at in
        ap (λ (k : ℕ). pos (1 + k)) same)

    rows-placed : IsPermutation (map (placed es) (paras_of book.paragraphs)) (paras_of ps)
    rows-placed =
        let old : Paragraph → Para = λ q. para_of (1 + index_in old_ids q.id, q) in
        let new : Paragraph → Para = λ q. para_of (1 + index_in new_ids q.id, q) in
        let first : map (placed es) (paras_of book.paragraphs) ≡ map new book.paragraphs =
        ap (map (placed es)) (paras-indexed 1 book.paragraphs (paragraphs-apart book sound))
        ∙ (map-map (placed es) old book.paragraphs
        ∙ map-agree (λ q. placed es (old q)) new book.paragraphs
        (All-weaker (Contains book.paragraphs) (λ q. placed es (old q) ≡ new q) row-placed book.paragraphs (All-contains_itself book.paragraphs))) in
        let last : map new ps ≡ paras_of ps = sym (paras-indexed 1 ps (paragraphs-apart next after)) in
        subst (λ (rows : List Para). IsPermutation rows (paras_of ps)) (sym first)
        (subst (IsPermutation (map new book.paragraphs)) last (IsPermutation-map new book.paragraphs ps moved))

    cached-on : (row : ParaCells) → IsCached book row → IsCached next row
    cached-on row is = record {
      paragraph = is.paragraph;
      there = Contains-permutation book.paragraphs ps is.paragraph moved is.there;
      named = is.named;
      cells = IsBraille-same book next is.paragraph is.paragraph refl refl row.cells is.cells;
    }

    shown-placed : (rows : FileRows) → Shows rows book → Shows (with_puts (map place_set es) (with_put (version_put next.version) rows)) next
    shown-placed rows shows =
        let at : FileRows = with_put (version_put next.version) rows in
        subst (λ (r : FileRows). Shows r next) (sym (places-put es at)) (record {
          sound = after;
          texts = record {
            tabs = shows.texts.tabs;
            paras = All-map (HasUtf8Texts file.Para) (placed es) rows.paras (All-weaker (HasUtf8Texts file.Para) (λ p. HasUtf8Texts file.Para (placed es p)) (placed-texts es) rows.paras shows.texts.paras);
            entries = shows.texts.entries;
            marks = shows.texts.marks;
          };
          row = versioned (format_of rows.entries) book.version next.version rows.books after.version shows.row;
          tables = shows.tables;
          paragraphs = IsPermutation-trans (map (spelled file.Para) (map (placed es) rows.paras)) (map (placed es) (paras_of book.paragraphs)) (paras_of ps)
              (IsPermutation-set (spelled file.Para) (placed es) (placed es) (placed-spelled es) rows.paras (paras_of book.paragraphs) shows.paragraphs) rows-placed;
          entries = IsPermutation-trans _ (flat_map entry_rows_of book.paragraphs) (flat_map entry_rows_of ps) shows.entries (IsPermutation-flat_map entry_rows_of book.paragraphs ps moved);
          marks = shows.marks;
          caches = λ caches same. AreCached-same book next caches (IsPermutation-map id_number book.paragraphs ps moved) cached-on (shows.caches caches same);
        })

    pub order-lead : LeadTo book (version_put next.version ∷ elsewhere_from 0 old_ids new_ids) next
    order-lead rows shows has =
        subst (λ (puts : List RowPut). Shows (with_puts puts (with_put (version_put next.version) rows)) next) (sym (elsewhere-puts old_ids 1 new_ids)) (shown-placed rows shows)
