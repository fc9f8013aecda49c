-- Rows that show a book have no damage.
use Rattle.std.proofs.Common.{◌≡◌, ℕ, ◌<◌, ℤ, pos, ◌≤ℤ◌, Bool, true, false, List, map, length, Some, Contains, refl, sym, ap, ap₂, subst, ◌∙◌, arith, inl, inr, IsPermutation, Ordering, Less, IsUtf8, option_map, slice_get, chars}
use Rattle.std.specs.Cmp.Lexicographic.{slice_cmp}
use Rattle.std.specs.Ordering.{eq_by_cmp, is_eq, nat_cmp, ordering_reverse}
use Rattle.std.proofs.lemmas.Cmp.{nat_list_cmp_total}
use Rattle.std.proofs.lemmas.List.{length-map}
use Rattle.std.proofs.lemmas.List.Elements.{All-contains}
use Rattle.std.proofs.lemmas.List.Sorted.{Contains-permutation, IsPermutation-map, IsPermutation-sym, IsPermutation-trans, length_permutation}
use Rattle.std.proofs.lemmas.Map.Keys.{IsDistinct-IsPermutation, IsDistinct-from_sorted, apart_from_distinct}
use Rattle.std.proofs.lemmas.Option.{get_or_from_slice_get, slice_get-map, slice_get_within}
use Rattle.std.proofs.lemmas.Simd.{map-map}
use Rattle.std.proofs.lemmas.Str.{encodes-chars}
use Rattle.std.proofs.Math.Utf8.{encodes}
use Rattle.louis_table.specs.Table.{Means}
use Rattle.desk_model.specs.declared.style.Style.{Style}
use Rattle.desk_model.specs.declared.style.Style.TheVariants.{Body, Heading}
use Rattle.desk_model.specs.Book.{Book}
use Rattle.desk_model.specs.Damage.{IsDamagedBook, IsDamagedTab, IsFlag, IsSoundTabRow}
use Rattle.desk_parts.specs.declared.file_table.FileTable.TheVariants as file
use Rattle.desk_parts.specs.FileRows.{EntryRows, FileRows, Named, Unnamed, format_of, spelled}
use Rattle.desk_model.specs.Limits.{most_version}
use Rattle.desk_parts.specs.Rows.{Tab}
use Rattle.desk_model.specs.Shows.{Shows, book_row_of, flag_number, style_number, tab_of}
use Rattle.desk_model.specs.Sound.{IsSoundTable}
use Rattle.desk_model.specs.ValidNames.{IsTableName}
use Rattle.desk_model.proofs.Lists.Items.{Contains-there}
use Rattle.desk_model.proofs.Lists.Members.{Contains-map}
use Rattle.desk_model.proofs.Lists.RowNumbers.{Contains-from_map, pos_le}
use Rattle.std.specs.Cmp.{tied_itself}

-- ---- names

is_eq-reverse : (o : Ordering) → is_eq (ordering_reverse o) ≡ is_eq o
is_eq-reverse Less = refl
is_eq-reverse o = refl

abbrev same_name : List ℕ → List ℕ → Bool
same_name = eq_by_cmp (slice_cmp nat_cmp)

same_name-flips : (x y : List ℕ) → same_name x y ≡ same_name y x
same_name-flips x y = ap is_eq (nat_list_cmp_total.antisymm x y) ∙ is_eq-reverse (slice_cmp nat_cmp y x)

same_name-self : (x : List ℕ) → same_name x x ≡ true
same_name-self x = ap is_eq (tied_itself nat_list_cmp_total x)

-- texts in UTF-8 are the same where their characters are
pub same_bytes : (a b : List ℕ) → IsUtf8 a → IsUtf8 b → chars a ≡ chars b → a ≡ b
same_bytes a b one two same = sym (encodes-chars a one) ∙ (ap encodes same ∙ encodes-chars b two)

-- ---- numbers of a row

pub IsFlag-flag : (flag : Bool) (z : ℤ) → flag_number flag ≡ z → IsFlag z
IsFlag-flag false z e = inl (sym e)
IsFlag-flag true z e = inr (sym e)

-- what a row has in a flag's column is one
pub IsFlag-number : (flag : Bool) → IsFlag (flag_number flag)
IsFlag-number flag = IsFlag-flag flag (flag_number flag) refl

pub IsFlag-style : (style : Style) (z : ℤ) → style_number style ≡ z → IsFlag z
IsFlag-style Body z e = inl (sym e)
IsFlag-style Heading z e = inr (sym e)

format-one : (entries : EntryRows) → pos 1 ≤ℤ pos (format_of entries)
format-one (Unnamed corrs) = pos_le 1 1 (omega arith)
format-one (Named corrs) = pos_le 1 2 (omega arith)

module _ (rows : FileRows) (book : Book) (shown : Shows rows book) where
  -- ---- book

  pub sound-book : (id : ℤ) → ¬ IsDamagedBook rows.books id
  sound-book id (at, unsound) = unsound (
    book_row_of (format_of rows.entries) book.version,
    shown.row,
    record { id = refl; format = format-one rows.entries; version = (pos_le 0 book.version (omega arith), pos_le book.version most_version shown.sound.version) },
  )

  -- ---- tab

  -- the table of a row
  tab_part : (row : Tab) → Contains rows.tabs row → (entry : List ℕ × List ℕ) × Contains book.tables entry × (tab_of entry ≡ spelled file.Tab row)
  tab_part row c =
      Contains-from_map tab_of book.tables (spelled file.Tab row)
      (Contains-permutation _ _ (spelled file.Tab row) shown.tables (Contains-map (spelled file.Tab) rows.tabs row c))

  -- the row of a table
  pub tab_row : (name text : List ℕ) → Contains book.tables (name, text) → (row : Tab) × Contains rows.tabs row × (chars row.name ≡ name) × (row.body ≡ text)
  tab_row name text c =
      let found = Contains-from_map (spelled file.Tab) rows.tabs (tab_of (name, text))
      (Contains-permutation _ _ (tab_of (name, text)) (IsPermutation-sym _ _ shown.tables)
      (Contains-map tab_of book.tables (name, text) c)) in
      (found.0, found.1, ap (λ (t : Tab). t.name) found.2, ap (λ (t : Tab). t.body) found.2)

  module _ (sorted : List Tab) (moved : IsPermutation rows.tabs sorted) where
    abbrev names : List Tab → List (List ℕ)
    names tabs = map (λ t. chars t.name) tabs

    count-sorted : length sorted ≡ length book.tables
    count-sorted =
        let two = length_permutation _ _ shown.tables in
        omega (arith, length_permutation _ _ moved, two, length-map rows.tabs (spelled file.Tab), length-map book.tables tab_of)

    names-moved : IsPermutation (map (λ e. e.0) book.tables) (names sorted)
    names-moved =
        IsPermutation-trans _ _ _
        (subst (λ (ns : List (List ℕ)). IsPermutation (map (λ e. e.0) book.tables) ns) (map-map (λ (t : Tab). t.name) (spelled file.Tab) rows.tabs)
        (subst (λ (ns : List (List ℕ)). IsPermutation ns (map (λ (t : Tab). t.name) (map (spelled file.Tab) rows.tabs))) (map-map (λ (t : Tab). t.name) tab_of book.tables)
        (IsPermutation-map (λ (t : Tab). t.name) _ _ (IsPermutation-sym _ _ shown.tables))))
        (IsPermutation-map (λ (t : Tab). chars t.name) _ _ moved)

    apart-names : (i j : ℕ) (one other : Tab) → i < j → slice_get sorted i ≡ Some one → slice_get sorted j ≡ Some other → ¬ (one.name ≡ other.name)
    apart-names i j one other less at_one at_other same =
        let d : List ℕ = chars one.name in
        let long = length-map sorted (λ (t : Tab). chars t.name) in
        let within = slice_get_within sorted j other at_other in
        let first = get_or_from_slice_get (names sorted) i (chars one.name) d (slice_get-map (λ (t : Tab). chars t.name) sorted i ∙ ap (option_map (λ (t : Tab). chars t.name)) at_one) in
        let second = get_or_from_slice_get (names sorted) j (chars other.name) d (slice_get-map (λ (t : Tab). chars t.name) sorted j ∙ ap (option_map (λ (t : Tab). chars t.name)) at_other) in
        let apart = apart_from_distinct same_name (names sorted) i j d
        (IsDistinct-IsPermutation same_name same_name-flips (map (λ e. e.0) book.tables) (names sorted) names-moved
        (IsDistinct-from_sorted (slice_cmp nat_cmp) (map (λ e. e.0) book.tables) shown.sound.names)) less (omega (arith, long, within)) in
        let reported : same_name (chars one.name) (chars other.name) ≡ false = sym (ap₂ same_name first second) ∙ apart in
        let is : same_name (chars one.name) (chars other.name) ≡ true = ap (λ n. same_name (chars one.name) (chars n)) (sym same) ∙ same_name-self (chars one.name) in
        cc

    sound-tab_row : (index : ℕ) (row : Tab) → slice_get sorted index ≡ Some row → IsSoundTabRow sorted index row
    sound-tab_row index row at =
        let among = Contains-permutation _ _ row (IsPermutation-sym _ _ moved) (Contains-there sorted index row at) in
        let part = tab_part row among in
        let sound = All-contains IsSoundTable book.tables part.0 shown.sound.tables part.1 in
        record {
          named = subst IsTableName (ap (λ (t : Tab). t.name) part.2) sound.named;
          meaning = sound.meaning;
          means = subst (λ text. Means text sound.meaning) (ap (λ (t : Tab). t.body) part.2) sound.means;
          room = omega (arith, slice_get_within sorted index row at, count-sorted, shown.sound.few_tables);
          new = λ before other less at_other same. apart-names before index other row less at_other at same;
        }

  pub sound-tab : (id : ℤ) → ¬ IsDamagedTab rows.tabs id
  sound-tab id (sorted, moved, ordered, (index, row, at, reported, unsound)) = unsound (sound-tab_row sorted moved index row at)
