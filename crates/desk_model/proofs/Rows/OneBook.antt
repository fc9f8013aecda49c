-- Rows show at most one book.
use Rattle.std.proofs.Common.{◌≡◌, ℕ, zero, suc, ◌+◌, ◌<◌, ℤ, pos, negsuc, Bool, true, false, cond, List, [], ◌∷◌, map, length, Ordering, Some, Contains, refl, sym, ap, ap₂, subst, ◌∙◌, arith, inl, inr, nat_eq, Less, Greater, map-id}
use Rattle.std.specs.Cmp.{IsTotalOrder, nat_cmp_is}
use Rattle.std.specs.Cmp.Lexicographic.{slice_cmp}
use Rattle.std.specs.Coded.{Coded, code_by, coded_ℤ, codes}
use Rattle.std.specs.List.{AllByRecursion, enumerate_from, find, flat_map, range_with_len}
use Rattle.std.specs.List.Sorted.{IsPermutation, IsStrictlySortedBy}
use Rattle.std.specs.Ordering.{int_eq, nat_cmp, ordering_reverse}
use Rattle.std.proofs.lemmas.Cmp.{nat_cmp_total, nat_list_cmp_total}
use Rattle.std.proofs.lemmas.List.Elements.{Contains-append_left, Contains-append_right, Contains-append_cases}
use Rattle.std.proofs.lemmas.List.Sorted.{Contains-permutation, IsPermutation-sym}
use Rattle.std.proofs.lemmas.Simd.{map-map}
use Rattle.desk_parts.specs.declared.rows.BookRow.{BookRow}
use Rattle.desk_model.specs.declared.style.Style.{Style}
use Rattle.desk_model.specs.declared.style.Style.TheVariants.{Body, Heading}
use Rattle.desk_model.specs.Book.{Entry, Corrects, Undoes, Paragraph, Mark, Book}
use Rattle.desk_parts.specs.declared.file_table.FileTable.TheVariants as file
use Rattle.desk_parts.specs.FileRows.{FileRows, entries_in, format_of, spelled}
use Rattle.desk_parts.specs.Rows.{Tab, Para, NamedCorr, Mark as MarkRow}
use Rattle.desk_model.specs.Shows.{Shows, book_row_of, entry_row_of, entry_rows_of, flag_number, mark_row_of, para_of, style_number, tab_of}
use Rattle.desk_model.proofs.Rows.ParaRows.{paras_of}
use Rattle.desk_model.proofs.Lists.Members.{Contains-behind, Contains-cases, Contains-here, Contains-none}
use Rattle.desk_model.proofs.Books.ParagraphLists.{AreApart, found-own}
use Rattle.desk_model.proofs.Books.SoundBooks.{paragraphs-apart}

-- ---- lists in order

module _ {X K : Type 0} (R : K → K → Ordering) (total : IsTotalOrder R) (key : X → K) where
  not_both : (a b : K) → R a b ≡ Less → R b a ≡ Less → ⊥
  not_both a b p q = let reversed : Less ≡ Greater = sym p ∙ (total.antisymm a b ∙ ap ordering_reverse q) in cc

  below : (k : K) (xs : List X) (z : X) → AllByRecursion (λ other. R k other ≡ Less) (map key xs) → Contains xs z → R k (key z) ≡ Less
  below k [] z all c = absurd (Contains-none z c)
  below k (x ∷ xs) z all c =
      elim (Contains-cases x z xs c) [
        | inl same ↦ ap (λ y. R k (key y)) (sym same) ∙ all.0
        | inr rest ↦ below k xs z all.1 rest
      ]

  -- lists in order with the same elements are the same
  pub sorted_same : (xs ys : List X) → IsStrictlySortedBy R (map key xs) → IsStrictlySortedBy R (map key ys)
      → ((z : X) → Contains xs z → Contains ys z) → ((z : X) → Contains ys z → Contains xs z) → xs ≡ ys
  unfolding IsStrictlySortedBy
  sorted_same [] [] p q to back = refl
  sorted_same [] (y ∷ ys) p q to back = absurd (Contains-none y (back y (Contains-here y ys)))
  sorted_same (x ∷ xs) [] p q to back = absurd (Contains-none x (to x (Contains-here x xs)))
  sorted_same (x ∷ xs) (y ∷ ys) p q to back = let rest = sorted_same xs ys p.1 q.1 onward backward in λ i. heads i ∷ rest i
    where
      heads : x ≡ y
      heads = elim (Contains-cases y x ys (to x (Contains-here x xs))) [
        | inl same ↦ sym same
        | inr later ↦ elim (Contains-cases x y xs (back y (Contains-here y ys))) [
          | inl same ↦ same
          | inr other ↦ absurd (not_both (key y) (key x) (below (key y) ys x q.0 later) (below (key x) xs y p.0 other))
        ]
      ]

      onward : (z : X) → Contains xs z → Contains ys z
      onward z c = elim (Contains-cases y z ys (to z (Contains-behind x z xs c))) [
        | inl same ↦ absurd (let less : R (key x) (key x) ≡ Less = ap (λ w. R (key x) (key w)) (heads ∙ same) ∙ below (key x) xs z p.0 c in not_both (key x) (key x) less less)
        | inr rest ↦ rest
      ]

      backward : (z : X) → Contains ys z → Contains xs z
      backward z c = elim (Contains-cases x z xs (back z (Contains-behind y z ys c))) [
        | inl same ↦ absurd (let less : R (key y) (key y) ≡ Less = ap (λ w. R (key y) (key w)) (sym heads ∙ same) ∙ below (key y) ys z q.0 c in not_both (key y) (key y) less less)
        | inr rest ↦ rest
      ]

-- ---- numbers in order

abbrev pub number : ℤ → ℕ
number (pos n) = n
number (negsuc n) = 0

pub numbers_back : (ids : List ℕ) → map number (map pos ids) ≡ ids
numbers_back ids = map-map number pos ids ∙ map-id ids

less_by : (m n : ℕ) → m < n → nat_cmp m n ≡ Less
less_by m n less = sym (nat_cmp_is m n Less less)

-- what numbered items stand for is in order of the numbers
module _ {X Y : Type 0} (f : ℕ × X → Y) (key : Y → ℕ) (own : (n : ℕ) (x : X) → key (f (n, x)) ≡ n) where
  above : (m n : ℕ) (xs : List X) → m < n → AllByRecursion (λ other. nat_cmp m other ≡ Less) (map key (map f (enumerate_from n xs)))
  above m n [] less = tt
  above m n (x ∷ xs) less = (less_by m (key (f (n, x))) (let is = own n x in omega (arith, is)), above m (n + 1) xs (omega arith))

  pub numbered_sorted : (n : ℕ) (xs : List X) → IsStrictlySortedBy nat_cmp (map key (map f (enumerate_from n xs)))
  unfolding IsStrictlySortedBy
  numbered_sorted n [] = tt
  numbered_sorted n (x ∷ xs) = (above (key (f (n, x))) (n + 1) xs (let is = own n x in omega (arith, is)), numbered_sorted (n + 1) xs)

range_above : (m n count : ℕ) → m < n → AllByRecursion (λ other. nat_cmp m other ≡ Less) (range_with_len n count)
range_above m n zero less = tt
range_above m n (suc count) less = (less_by m n less, range_above m (n + 1) count (omega arith))

pub range_sorted : (n count : ℕ) → IsStrictlySortedBy nat_cmp (range_with_len n count)
unfolding IsStrictlySortedBy
range_sorted n zero = tt
range_sorted n (suc count) = (range_above n (n + 1) count (omega arith), range_sorted (n + 1) count)

-- ---- the parts of a book, from their rows

one_table : (a b : List ℕ × List ℕ) → tab_of a ≡ tab_of b → a ≡ b
one_table a b same = ap (λ (t : Tab). (t.name, t.body)) same

-- lists are the same where a function that tells their elements apart makes the same of both
module _ {X Y : Type 0} (f : X → Y) (apart : (x y : X) → f x ≡ f y → x ≡ y) where
  same_from : (xs ys : List X) → map f xs ≡ map f ys → xs ≡ ys
  same_from [] [] same = refl
  same_from (x ∷ xs) (y ∷ ys) same = ap₂ (λ (z : X) zs. z ∷ zs) (apart x y (cc)) (same_from xs ys (cc))
  same_from xs ys same = absurd (cc)

abbrev pub to_flag : ℤ → Bool
to_flag z = cond (int_eq z (pos 0)) false true

pub flag_back : (b : Bool) → to_flag (flag_number b) ≡ b
flag_back false = refl
flag_back true = refl

abbrev pub to_style : ℤ → Style
to_style z = cond (int_eq z (pos 0)) Body Heading

pub style_back : (s : Style) → to_style (style_number s) ≡ s
style_back Body = refl
style_back Heading = refl

-- numbers and flags have the codes that they have in rows
abbrev coded_number : Coded ℕ
coded_number = code_by ℤ coded_ℤ pos number (λ n. refl)

abbrev coded_flag : Coded Bool
coded_flag = code_by ℤ coded_ℤ flag_number to_flag flag_back

-- a mark is known by its row
one_mark : (a b : Mark) → mark_row_of a ≡ mark_row_of b → a ≡ b
one_mark a b same =
    let rows : Coded MarkRow = hlevel (coded_number, codes) in
    let marks : Coded Mark = hlevel (coded_number, coded_flag, codes) in
    marks.inj a b (ap rows.code same)

abbrev to_entry : NamedCorr → Entry
to_entry c = cond (int_eq c.entry.kind (pos 0)) (Corrects (record { start = number c.entry.start; count = number c.entry.len; text = c.entry.body }) c.who) (Undoes (number c.entry.start))

entry_back : (id n : ℕ) (entry : Entry) → to_entry (entry_row_of id (n, entry)) ≡ entry
entry_back id n (Corrects r who) = refl
entry_back id n (Undoes undone) = refl

history_back : (id n : ℕ) (entries : List Entry) → map to_entry (map (entry_row_of id) (enumerate_from n entries)) ≡ entries
history_back id n [] = refl
history_back id n (entry ∷ entries) = λ i. entry_back id n entry i ∷ history_back id (n + 1) entries i

abbrev pub to_paragraph : Para → List Entry → Paragraph
to_paragraph p history = record {
  id = number p.id;
  table = p.tab;
  original = p.original;
  history = history;
  style = to_style p.style;
  begins_volume = to_flag p.volume;
  struck = to_flag p.struck;
}

paragraph_back : (n : ℕ) (p : Paragraph) → to_paragraph (para_of (n, p)) p.history ≡ p
paragraph_back n p = λ i. record p { style = style_back p.style i; begins_volume = flag_back p.begins_volume i; struck = flag_back p.struck i }

-- ---- histories

Contains-flat_map : {X Y : Type 0} (f : X → List Y) (xs : List X) (x : X) (z : Y) → Contains xs x → Contains (f x) z → Contains (flat_map f xs) z
Contains-flat_map f [] x z c d = absurd (Contains-none x c)
Contains-flat_map f (y ∷ xs) x z c d =
    elim (Contains-cases y x xs c) [
      | inl same ↦ Contains-append_left (f y) (flat_map f xs) z (subst (λ w. Contains (f w) z) (sym same) d)
      | inr rest ↦ Contains-append_right (f y) (flat_map f xs) z (Contains-flat_map f xs x z rest d)
    ]

pub from_flat_map : {X Y : Type 0} (f : X → List Y) (xs : List X) (z : Y) → Contains (flat_map f xs) z → (x : X) × Contains xs x × Contains (f x) z
from_flat_map f [] z c = absurd (Contains-none z c)
from_flat_map f (y ∷ xs) z c =
    elim (Contains-append_cases (f y) (flat_map f xs) z c) [
      | inl here ↦ (y, Contains-here y xs, here)
      | inr later ↦ let rest = from_flat_map f xs z later in (rest.0, Contains-behind y rest.0 xs rest.1, rest.2)
    ]

para_of_entry : (id n : ℕ) (entry : Entry) → (entry_row_of id (n, entry)).entry.para ≡ pos id
para_of_entry id n (Corrects r who) = refl
para_of_entry id n (Undoes undone) = refl

seq_of_entry : (id n : ℕ) (entry : Entry) → number (entry_row_of id (n, entry)).entry.seq ≡ n
seq_of_entry id n (Corrects r who) = refl
seq_of_entry id n (Undoes undone) = refl

pub named_in : (id n : ℕ) (entries : List Entry) (z : NamedCorr) → Contains (map (entry_row_of id) (enumerate_from n entries)) z → z.entry.para ≡ pos id
named_in id n [] z c = absurd (Contains-none z c)
named_in id n (entry ∷ entries) z c =
    elim (Contains-cases (entry_row_of id (n, entry)) z (map (entry_row_of id) (enumerate_from (n + 1) entries)) c) [
      | inl same ↦ ap (λ (w : NamedCorr). w.entry.para) (sym same) ∙ para_of_entry id n entry
      | inr rest ↦ named_in id (n + 1) entries z rest
    ]

-- the entries of a paragraph are among those of the paragraph with the same id
entries_among : (ps qs : List Paragraph) (p q : Paragraph) → AreApart qs → ((z : NamedCorr) → Contains (flat_map entry_rows_of ps) z → Contains (flat_map entry_rows_of qs) z)
    → Contains ps p → Contains qs q → p.id ≡ q.id → (z : NamedCorr) → Contains (entry_rows_of p) z → Contains (entry_rows_of q) z
entries_among ps qs p q apart to in_ps in_qs same z c =
    let found = from_flat_map entry_rows_of qs z (to z (Contains-flat_map entry_rows_of ps p z in_ps c)) in
    let other : Paragraph = found.0 in
    let ids : pos other.id ≡ pos p.id = sym (named_in other.id 1 other.history z found.2) ∙ named_in p.id 1 p.history z c in
    let one : other.id ≡ q.id = ap number ids ∙ same in
    let is : Some other ≡ Some q = sym (found-own qs other apart found.1) ∙ (ap (λ n. find (λ r. nat_eq r.id n) qs) one ∙ found-own qs q apart in_qs) in
    let twin : other ≡ q = cc in
    subst (λ r. Contains (entry_rows_of r) z) twin found.2

same_history : (ps qs : List Paragraph) (p q : Paragraph) → AreApart ps → AreApart qs
    → ((z : NamedCorr) → Contains (flat_map entry_rows_of ps) z → Contains (flat_map entry_rows_of qs) z) → ((z : NamedCorr) → Contains (flat_map entry_rows_of qs) z → Contains (flat_map entry_rows_of ps) z)
    → Contains ps p → Contains qs q → p.id ≡ q.id → p.history ≡ q.history
same_history ps qs p q apart_p apart_q to back in_ps in_qs same =
    let rows : entry_rows_of p ≡ entry_rows_of q =
    sorted_same nat_cmp nat_cmp_total (λ (c : NamedCorr). number c.entry.seq) (entry_rows_of p) (entry_rows_of q)
    (numbered_sorted (entry_row_of p.id) (λ (c : NamedCorr). number c.entry.seq) (seq_of_entry p.id) 1 p.history)
    (numbered_sorted (entry_row_of q.id) (λ (c : NamedCorr). number c.entry.seq) (seq_of_entry q.id) 1 q.history)
    (entries_among ps qs p q apart_q to in_ps in_qs same) (entries_among qs ps q p apart_p back in_qs in_ps (sym same)) in
    sym (history_back p.id 1 p.history) ∙ (ap (map to_entry) rows ∙ history_back q.id 1 q.history)

same_paragraphs : (n : ℕ) (ps qs : List Paragraph) → map para_of (enumerate_from n ps) ≡ map para_of (enumerate_from n qs)
    → ((p q : Paragraph) → Contains ps p → Contains qs q → p.id ≡ q.id → p.history ≡ q.history) → ps ≡ qs
same_paragraphs n [] [] rows histories = refl
same_paragraphs n (p ∷ ps) (q ∷ qs) rows histories =
    let first : para_of (n, p) ≡ para_of (n, q) = cc in
    let others : map para_of (enumerate_from (n + 1) ps) ≡ map para_of (enumerate_from (n + 1) qs) = cc in
    let history = histories p q (Contains-here p ps) (Contains-here q qs) (ap (λ (r : Para). number r.id) first) in
    let one : p ≡ q = sym (paragraph_back n p) ∙ ((λ i. to_paragraph (first i) (history i)) ∙ paragraph_back n q) in
    let rest = same_paragraphs (n + 1) ps qs others (λ a b c d. histories a b (Contains-behind p a ps c) (Contains-behind q b qs d)) in
    λ i. one i ∷ rest i
same_paragraphs n ps qs rows histories = absurd (cc)

-- ---- lists of the same rows

module _ {X : Type 0} (xs ys zs : List X) (p : IsPermutation xs ys) (q : IsPermutation xs zs) where
  onto : (z : X) → Contains ys z → Contains zs z
  onto z c = Contains-permutation _ _ z q (Contains-permutation _ _ z (IsPermutation-sym _ _ p) c)

-- tables in the order of their names
pub tables_same : (ta tb : List (List ℕ × List ℕ)) (rows : List Tab)
    → IsStrictlySortedBy (slice_cmp nat_cmp) (map (λ entry. entry.0) ta) → IsStrictlySortedBy (slice_cmp nat_cmp) (map (λ entry. entry.0) tb)
    → IsPermutation rows (map tab_of ta) → IsPermutation rows (map tab_of tb) → ta ≡ tb
tables_same ta tb rows sorted_a sorted_b of_a of_b =
    same_from tab_of one_table ta tb
    (sorted_same (slice_cmp nat_cmp) nat_list_cmp_total (λ (t : Tab). t.name) (map tab_of ta) (map tab_of tb)
    (subst (IsStrictlySortedBy (slice_cmp nat_cmp)) (sym (map-map (λ (t : Tab). t.name) tab_of ta)) sorted_a)
    (subst (IsStrictlySortedBy (slice_cmp nat_cmp)) (sym (map-map (λ (t : Tab). t.name) tab_of tb)) sorted_b)
    (onto rows (map tab_of ta) (map tab_of tb) of_a of_b) (onto rows (map tab_of tb) (map tab_of ta) of_b of_a))

-- marks in the order of their ids
pub marks_same : (ma mb : List Mark) (rows : List MarkRow)
    → map (λ mark. mark.id) ma ≡ range_with_len 1 (length ma) → map (λ mark. mark.id) mb ≡ range_with_len 1 (length mb)
    → IsPermutation rows (map mark_row_of ma) → IsPermutation rows (map mark_row_of mb) → ma ≡ mb
marks_same ma mb rows ids_a ids_b of_a of_b =
    same_from mark_row_of one_mark ma mb
    (sorted_same nat_cmp nat_cmp_total (λ (m : MarkRow). number m.id) (map mark_row_of ma) (map mark_row_of mb)
    (subst (IsStrictlySortedBy nat_cmp) (sym (map-map (λ (m : MarkRow). number m.id) mark_row_of ma ∙ ids_a)) (range_sorted 1 (length ma)))
    (subst (IsStrictlySortedBy nat_cmp) (sym (map-map (λ (m : MarkRow). number m.id) mark_row_of mb ∙ ids_b)) (range_sorted 1 (length mb)))
    (onto rows (map mark_row_of ma) (map mark_row_of mb) of_a of_b) (onto rows (map mark_row_of mb) (map mark_row_of ma) of_b of_a))

-- ---- whole books

module _ (rows : FileRows) (a b : Book) (shown_a : Shows rows a) (shown_b : Shows rows b) where
  same_version : a.version ≡ b.version
  same_version =
      let same : book_row_of (format_of rows.entries) a.version ∷ [] ≡ book_row_of (format_of rows.entries) b.version ∷ [] = sym shown_a.row ∙ shown_b.row in
      let first : book_row_of (format_of rows.entries) a.version ≡ book_row_of (format_of rows.entries) b.version = cc in
      ap (λ (r : BookRow). number r.version) first

  same_tables : a.tables ≡ b.tables
  same_tables = tables_same a.tables b.tables (map (spelled file.Tab) rows.tabs) shown_a.sound.names shown_b.sound.names shown_a.tables shown_b.tables

  same_marks : a.marks ≡ b.marks
  same_marks = marks_same a.marks b.marks (map (spelled file.Mark) rows.marks) shown_a.sound.numbers shown_b.sound.numbers shown_a.marks shown_b.marks

  all_paragraphs : a.paragraphs ≡ b.paragraphs
  all_paragraphs =
      let pa = paras_of a.paragraphs in
      let pb = paras_of b.paragraphs in
      let ca = flat_map entry_rows_of a.paragraphs in
      let cb = flat_map entry_rows_of b.paragraphs in
      same_paragraphs 1 a.paragraphs b.paragraphs (sorted_same nat_cmp nat_cmp_total (λ (p : Para). number p.place) pa pb
      (numbered_sorted para_of (λ (p : Para). number p.place) (λ n p. refl) 1 a.paragraphs)
      (numbered_sorted para_of (λ (p : Para). number p.place) (λ n p. refl) 1 b.paragraphs)
      (onto (map (spelled file.Para) rows.paras) pa pb shown_a.paragraphs shown_b.paragraphs) (onto (map (spelled file.Para) rows.paras) pb pa shown_b.paragraphs shown_a.paragraphs))
      (λ p q in_a in_b same. same_history a.paragraphs b.paragraphs p q (paragraphs-apart a shown_a.sound) (paragraphs-apart b shown_b.sound)
      (onto (map (spelled file.NamedCorr) (entries_in rows.entries)) ca cb shown_a.entries shown_b.entries) (onto (map (spelled file.NamedCorr) (entries_in rows.entries)) cb ca shown_b.entries shown_a.entries) in_a in_b same)

  pub one_book : a ≡ b
  one_book = λ i. record { version = same_version i; tables = same_tables i; paragraphs = all_paragraphs i; marks = same_marks i }
