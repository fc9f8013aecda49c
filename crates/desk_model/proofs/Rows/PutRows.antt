-- What becomes of the rows of a file when some are put, table by table.
use Rattle.std.proofs.Common.{◌≡◌, ℕ, ◌≤◌, ℤ, pos, Bool, true, false, cond, if◌then◌else◌, List, [], ◌∷◌, map, min, refl, sym, ap, subst, ◌∙◌, arith, inl, inr, All, filter, IsPermutation, int_eq, not}
use Rattle.std.proofs.lemmas.Bool.{cases_Bool, cond-true, cond-false, cond_both}
use Rattle.std.proofs.lemmas.List.Elements.{All-cons, All-head, All-map, All-nil, All-tail, All-weaker}
use Rattle.std.proofs.lemmas.List.Sorted.{IsPermutation-cons, IsPermutation-map, IsPermutation-trans}
use Rattle.louis_translate.specs.Braille.{braille}
use Rattle.louis_translate.specs.Tiling.{Tiles}
use Rattle.desk_parts.specs.declared.rows.BookRow.{BookRow}
use Rattle.desk_model.specs.Book.{Book, Paragraph, text_of}
use Rattle.desk_model.specs.Loans.{row_number}
use Rattle.desk_model.specs.Limits.{most_version}
use Rattle.desk_model.specs.Print.{print_of}
use Rattle.desk_parts.specs.Puts.{put_by_key}
use Rattle.desk_parts.specs.Rows.{ParaCells}
use Rattle.desk_model.specs.Shows.{AreCached, IsCached, book_row_of}
use Rattle.desk_model.specs.Translation.{IsBraille}
use Rattle.desk_model.proofs.Lists.Permutations.{IsPermutation-filter}
use Rattle.desk_model.proofs.Lists.RowNumbers.{filter-map}

-- ---- numbers

pub number-small : (n : ℕ) → n ≤ 9223372036854775807 → row_number n ≡ pos n
number-small n small = ap pos (let least : min n 9223372036854775807 ≡ n = omega arith in least)

-- ---- columns

-- the rows, with this done to those that have the key
abbrev set_by_key : {X : Type 0} → (X → Bool) → (X → X) → List X → List X
set_by_key has_key set xs = map (λ x. if has_key x then set x else x) xs

-- the version
pub versioned : (f v w : ℕ) (rows : List BookRow) → w ≤ most_version → rows ≡ book_row_of f v ∷ []
    → set_by_key (λ (b : BookRow). int_eq b.id (pos 1)) (λ (b : BookRow). record b { version = row_number w }) rows ≡ book_row_of f w ∷ []
versioned f v w rows small is =
    ap (set_by_key (λ (b : BookRow). int_eq b.id (pos 1)) (λ (b : BookRow). record b { version = row_number w })) is
    ∙ (λ i. record { id = pos 1; format = pos f; version = number-small w (omega arith) i } ∷ [])

module _ {X : Type 0} (has_key : X → Bool) (set : X → X) where
  -- what setting columns keeps of each row holds of each
  pub All-set_where : (P : X → Type 0) (xs : List X) → ((x : X) → P x → P (set x)) → All P xs → All P (set_by_key has_key set xs)
  All-set_where P xs keeps all =
      All-map P (λ x. cond (has_key x) (set x) x) xs
      (All-weaker P (λ x. P (cond (has_key x) (set x) x)) (λ x h. cond_both (has_key x) (set x) x P (λ e. keeps x h) (λ e. h)) xs all)

map-both : {X : Type 0} (f g to : X → X) → ((x : X) → f (g x) ≡ to (f x)) → (xs : List X) → map f (map g xs) ≡ map to (map f xs)
map-both f g to same [] = refl
map-both f g to same (x ∷ xs) = λ i. same x i ∷ map-both f g to same xs i

-- rows whose columns are set show what is set in those that they show
pub IsPermutation-set : {X : Type 0} (spelled set to : X → X) → ((x : X) → spelled (set x) ≡ to (spelled x)) → (xs ys : List X)
    → IsPermutation (map spelled xs) ys → IsPermutation (map spelled (map set xs)) (map to ys)
IsPermutation-set spelled set to same xs ys moved =
    subst (λ (zs : List _). IsPermutation zs (map to ys)) (sym (map-both spelled set to same xs)) (IsPermutation-map to _ _ moved)

-- ---- a row in place of those with its key

pub filter-all : {X : Type 0} (p : X → Bool) (xs : List X) → All (λ x. p x ≡ true) xs → filter p xs ≡ xs
filter-all p [] all = refl
filter-all p (x ∷ xs) all =
    cond-true (p x) (x ∷ filter p xs) (filter p xs) (All-head (λ y. p y ≡ true) x xs all)
    ∙ ap (λ (rest : List _). x ∷ rest) (filter-all p xs (All-tail (λ y. p y ≡ true) x xs all))

-- what holds of a row that is put, and of the others by what held of them, holds of all
pub All-put_apart : {X : Type 0} (P Q : X → Type 0) (has_key : X → Bool) (x : X) (xs : List X) → Q x → ((y : X) → has_key y ≡ false → P y → Q y) → All P xs → All Q (put_by_key has_key x xs)
All-put_apart {X} P Q has_key x xs here others all = All-cons Q x (apart xs) here (left xs all)
  where
    apart : List X → List X
    apart ys = filter (λ y. not (has_key y)) ys

    left : (ys : List X) → All P ys → All Q (apart ys)
    left [] all = All-nil Q
    left (y ∷ ys) all =
        let rest = left ys (All-tail P y ys all) in
        elim (cases_Bool (has_key y)) [
          | inl e ↦ subst (All Q) (sym (cond-false (not (has_key y)) (y ∷ apart ys) (apart ys) (ap not e))) rest
          | inr e ↦ subst (All Q) (sym (cond-true (not (has_key y)) (y ∷ apart ys) (apart ys) (ap not e)))
              (All-cons Q y (apart ys) (others y e (All-head P y ys all)) rest)
        ]

-- the numbers of rows of braille once one is put
pub IsPermutation-put_number : (rows : List ParaCells) (row : ParaCells) (old new : List ℤ) → IsPermutation (row.para ∷ filter (λ n. not (int_eq n row.para)) old) new
    → IsPermutation (map (λ c. c.para) rows) old → IsPermutation (map (λ c. c.para) (put_by_key (λ c. int_eq c.para row.para) row rows)) new
IsPermutation-put_number rows row old new ids was =
    let key : ParaCells → ℤ = λ c. c.para in
    let apart : ℤ → Bool = λ n. not (int_eq n row.para) in
    let left : List ParaCells = filter (λ c. apart (key c)) rows in
    let keys : map key left ≡ filter apart (map key rows) = sym (filter-map apart key rows) in
    subst (λ (ns : List ℤ). IsPermutation (row.para ∷ ns) new) (sym keys) (IsPermutation-trans _ _ _
    (IsPermutation-cons row.para _ _ (IsPermutation-filter apart _ _ was)) ids)

-- ---- the braille of paragraphs

-- a paragraph with the same print and table has the same braille where the table's text is the same
pub IsBraille-same : (book next : Book) (p q : Paragraph) → print_of q ≡ print_of p → text_of next q.table ≡ text_of book p.table
    → (cells : List ℕ) → IsBraille book p cells → IsBraille next q cells
IsBraille-same book next p q print text cells (meaning, choices, by, is) = (
  meaning,
  choices,
  record {
    text = by.text;
    found = text ∙ by.found;
    means = by.means;
    tiles = subst (λ (t : List ℕ). Tiles meaning t choices) (sym print) by.tiles;
  },
  is ∙ ap (λ (t : List ℕ). braille meaning t choices) (sym print),
)

abbrev pub id_number : Paragraph → ℤ
id_number p = pos p.id

-- by their ids
numbers-ids : (ps : List Paragraph) → map id_number ps ≡ map pos (map (λ p. p.id) ps)
numbers-ids [] = refl
numbers-ids (p ∷ ps) = λ i. pos p.id ∷ numbers-ids ps i

pub numbers-same : (ps qs : List Paragraph) → map (λ p. p.id) ps ≡ map (λ p. p.id) qs → map id_number ps ≡ map id_number qs
numbers-same ps qs same = numbers-ids ps ∙ (ap (map pos) same ∙ sym (numbers-ids qs))

module _ (book next : Book) where
  -- each row has the braille of a paragraph of the next book, too
  pub AreCached-same : (rows : List ParaCells) → IsPermutation (map id_number book.paragraphs) (map id_number next.paragraphs)
      → ((row : ParaCells) → IsCached book row → IsCached next row) → AreCached book rows → AreCached next rows
  AreCached-same rows ids same is = record {
    one_each = IsPermutation-trans _ _ _ is.one_each ids;
    cells = All-weaker (IsCached book) (IsCached next) same rows is.cells;
  }

  -- one row is put, and the others have the braille of paragraphs of the next book, too
  pub AreCached-put : (rows : List ParaCells) (row : ParaCells)
      → IsPermutation (row.para ∷ filter (λ n. not (int_eq n row.para)) (map id_number book.paragraphs)) (map id_number next.paragraphs)
      → IsCached next row → ((other : ParaCells) → int_eq other.para row.para ≡ false → IsCached book other → IsCached next other)
      → AreCached book rows → AreCached next (put_by_key (λ c. int_eq c.para row.para) row rows)
  AreCached-put rows row ids here others is = record {
    one_each = IsPermutation-put_number rows row (map id_number book.paragraphs) (map id_number next.paragraphs) ids is.one_each;
    cells = All-put_apart (IsCached book) (IsCached next) (λ c. int_eq c.para row.para) row rows here others is.cells;
  }
