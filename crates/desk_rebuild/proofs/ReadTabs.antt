-- Rows of tables as they are read, in the order of their names.
use Rattle.std.proofs.Common.{◌≡◌, ◌⊎◌, ℕ, suc, ℤ, pos, ◌+◌, ◌<◌, ◌≤◌, ◌≤ℤ◌, Bool, true, false, cond, List, [], ◌∷◌, ◌++◌, map, filter, length, get_or, nat_eq, Option, Some, None, Contains, Ordering, Result, Ok, Err, w64, to_z, of_z, ◌+ℤ◌, refl, sym, ap, subst, ◌∙◌, arith, inl, inr, IfOk, slice_get, chars, Less, Equal, Greater}
use Rattle.std.specs.Cmp.{IsTotalOrder, IsStrictWeakOrder, tied_itself}
use Rattle.std.specs.Cmp.Lexicographic.{pointwise, slice_cmp}
use Rattle.std.specs.FinMap.Entries.{by_order}
use Rattle.std.specs.List.Sorted.{IsPermutation, IsSortedBy, IsStrictlySortedBy}
use Rattle.std.specs.Map.{lookup}
use Rattle.std.specs.Ordering.{is_eq, is_lt, nat_cmp, ordering_reverse, ordering_then}
use lib.Utf8.{encodes}
use Rattle.std.proofs.lemmas.Bool.{cases_eq, cases_lt, cond-true}
use Rattle.std.proofs.lemmas.Cmp.{nat_list_cmp_total, on_total, then_total}
use Rattle.std.proofs.lemmas.Int.{to_z-of_z, to_z_pos}
use Rattle.std.proofs.lemmas.List.{get_or-map, length-map, length_push, map-append}
use Rattle.std.proofs.lemmas.List.Elements.{All-contains, All-nil, All-push}
use Rattle.std.proofs.lemmas.List.MinMax.{ranks_by}
use Rattle.std.proofs.lemmas.List.Sorted.{All-permutation, Contains-permutation, IsPermutation-cons, IsPermutation-map, IsPermutation-push_more, IsPermutation-refl, IsPermutation-sym, IsPermutation-trans, length_permutation, sorted_far}
use Rattle.std.proofs.lemmas.Option.{same_Some, slice_get_within}
use Rattle.std.proofs.lemmas.Str.{encodes-chars}
use Rattle.std.proofs.lemmas.Map.Views.{Contains-from_lookup}
use Rattle.louis_table.specs.Table.{Means}
use Rattle.desk_rebuild.specs.declared.damage.RowsFault.{RowsFault}
use Rattle.desk_rebuild.specs.declared.damage.RowsFault.TheVariants.{Damaged, NoMemory}
use Rattle.desk_memory.specs.declared.tables.BookTable.{BookTable}
use Rattle.desk_model.specs.Damage.{IsDamagedTab, IsSoundTabRow}
use Rattle.desk_parts.specs.declared.file_table.FileTable.TheVariants as file
use Rattle.desk_parts.specs.FileRows.{HasUtf8Texts, spelled}
use Rattle.desk_rebuild.specs.Rows.{AreTables, IsWhole, TellsDamage}
use Rattle.desk_rebuild.specs.Tabs.{AreRead, MayCome, TellsFirstUnsound, TellsNoMeaning, TellsUnsoundTab, rows_of, tab_order}
use Rattle.desk_memory.specs.Held.{HeldTables, with_table}
use Rattle.desk_model.specs.Limits.{most_tables}
use Rattle.desk_parts.specs.Rows.{StoredTab, Tab}
use Rattle.desk_model.specs.Shows.{tab_of}
use Rattle.desk_model.proofs.Lists.Items.{Contains-there, here-at, slice_get-append_left}
use Rattle.desk_model.proofs.Lists.Members.{Contains-behind, Contains-cases, Contains-here, Contains-map, Contains-none}
use Rattle.desk_model.proofs.Lists.Permutations.{IsPermutation-filter, IsPermutation-exchange}
use Rattle.desk_model.proofs.Lists.RowNumbers.{Contains-from_map, pos_le}
use Rattle.desk_model.proofs.Lists.TableEntries.{All-put, Decides-name, IsStrictlySortedBy-put, same_name}
use Rattle.desk_model.proofs.Damage.UndamagedRows.{place-of}

-- ---- the order

pub order_total : IsTotalOrder tab_order
order_total = then_total (on_total (λ (t : Tab). t.name) nat_list_cmp_total) (on_total (λ (t : Tab). t.body) nat_list_cmp_total)

abbrev pub less : Tab → Tab → Bool
less one other = is_lt (tab_order one other)

abbrev AreInOrder : List Tab → Type 0
AreInOrder = IsSortedBy (λ a b. is_lt (tab_order a b))

pub weak : IsStrictWeakOrder less
weak = ranks_by order_total (λ (t : Tab). t)

same_tab : (a b : Tab) → tab_order a b ≡ Equal → a ≡ b
same_tab a b tied = by (slice_cmp nat_cmp a.name b.name) refl tied
  where
    by : (o : Ordering) → slice_cmp nat_cmp a.name b.name ≡ o → ordering_then o (slice_cmp nat_cmp a.body b.body) ≡ Equal → a ≡ b
    by Equal is e = let name = same_name a.name b.name is in let body = same_name a.body b.body e in λ i. record { name = name i; body = body i }
    by o is e = absurd (cc)

neither : (o : Ordering) → is_lt o ≡ false → is_lt (ordering_reverse o) ≡ false → o ≡ Equal
neither Equal p q = refl
neither o p q = absurd (cc)

both_ways : (a b : Tab) → less a b ≡ false → less b a ≡ false → a ≡ b
both_ways a b p q = same_tab a b (neither (tab_order a b) p (ap is_lt (sym (order_total.antisymm b a)) ∙ q))

-- no other row of a list in order stands before its first
leads : (x : Tab) (xs : List Tab) → AreInOrder (x ∷ xs) → (y : Tab) → Contains (x ∷ xs) y → less y x ≡ false
leads x xs up y (k, within, at) = subst (λ z. less z x ≡ false) at (sorted_far less weak (x ∷ xs) up 0 k y (omega arith) within)

later : (x : Tab) (xs : List Tab) → AreInOrder (x ∷ xs) → AreInOrder xs
later x xs up k d low inside =
    let next : suc k + 1 ≡ suc (k + 1) = omega arith in
    subst (λ i. less (get_or (x ∷ xs) i d) (get_or (x ∷ xs) (suc k) d) ≡ false) next (up (suc k) d (omega arith) (omega (arith, inside)))

-- ---- two lists in order with the same rows

-- each test passes as many of the one as of the other
abbrev AreAsMany : List Tab → List Tab → Type 0
AreAsMany xs ys = (test : Tab → Bool) → length (filter test xs) ≡ length (filter test ys)

as_many : (xs ys : List Tab) → IsPermutation xs ys → AreAsMany xs ys
as_many xs ys moved test = sym (length_permutation _ _ (IsPermutation-filter test _ _ moved))

without_first : (x : Tab) (xs ys : List Tab) → AreAsMany (x ∷ xs) (x ∷ ys) → AreAsMany xs ys
without_first x xs ys same test = by (test x) (same test)
  where
    by : (b : Bool) → length (cond b (x ∷ filter test xs) (filter test xs)) ≡ length (cond b (x ∷ filter test ys) (filter test ys))
        → length (filter test xs) ≡ length (filter test ys)
    by true h = omega (arith, h)
    by false h = h

some_passes : (test : Tab → Bool) (xs : List Tab) → 0 < length (filter test xs) → (x : Tab) × Contains xs x × (test x ≡ true)
some_passes test [] some = absurd (omega (arith, some))
some_passes test (x ∷ xs) some = by (test x) refl (some_passes test xs) some
  where
    by : (b : Bool) → test x ≡ b → (0 < length (filter test xs) → (y : Tab) × Contains xs y × (test y ≡ true))
        → 0 < length (cond b (x ∷ filter test xs) (filter test xs)) → (y : Tab) × Contains (x ∷ xs) y × (test y ≡ true)
    by true is rest more = (x, Contains-here x xs, is)
    by false is rest more = let found = rest more in (found.0, Contains-behind x found.0 xs found.1, found.2)

is-equal : (o : Ordering) → is_eq o ≡ true → o ≡ Equal
is-equal Equal e = refl
is-equal o e = absurd (cc)

among : (xs ys : List Tab) (y : Tab) → AreAsMany xs (y ∷ ys) → Contains xs y
among xs ys y same =
    let test = λ (z : Tab). is_eq (tab_order z y) in
    let passes : test y ≡ true = ap is_eq (tied_itself order_total y) in
    let one : length (filter test (y ∷ ys)) ≡ suc (length (filter test ys)) = ap length (cond-true (test y) (y ∷ filter test ys) (filter test ys) passes) in
    let found = some_passes test xs (omega (arith, one, same test)) in
    subst (Contains xs) (same_tab found.0 y (is-equal (tab_order found.0 y) found.2)) found.1

one_order : (xs ys : List Tab) → AreInOrder xs → AreInOrder ys → AreAsMany xs ys → xs ≡ ys
one_order [] [] up up' same = refl
one_order [] (y ∷ ys) up up' same = absurd (Contains-none y (among [] ys y same))
one_order (x ∷ xs) [] up up' same = absurd (Contains-none x (among [] xs x (λ test. sym (same test))))
one_order (x ∷ xs) (y ∷ ys) up up' same =
    let first : x ≡ y =
    both_ways x y (leads y ys up' x (among (y ∷ ys) xs x (λ test. sym (same test)))) (leads x xs up y (among (x ∷ xs) ys y same)) in
    let rest = one_order xs ys (later x xs up) (later y ys up') (without_first x xs ys (subst (λ z. AreAsMany (x ∷ xs) (z ∷ ys)) (sym first) same)) in
    λ i. first i ∷ rest i

-- rows have one order
pub sorted_once : (tabs one other : List Tab) → IsPermutation tabs one → AreInOrder one → IsPermutation tabs other → AreInOrder other → one ≡ other
sorted_once tabs one other moved up moved' up' =
    one_order one other up up' (λ test. sym (as_many tabs one moved test) ∙ as_many tabs other moved' test)

-- ---- tables, and one more

found-some : (name : List ℕ) (table : BookTable) (es : HeldTables) → Contains es (name, table) → ¬ (lookup (pointwise nat_eq name) es ≡ None)
found-some name table [] c none = Contains-none (name, table) c
found-some name table (e ∷ es) c none = by (pointwise nat_eq name e.0) refl (found-some name table es) none
  where
    by : (b : Bool) → pointwise nat_eq name e.0 ≡ b → (Contains es (name, table) → ¬ (lookup (pointwise nat_eq name) es ≡ None))
        → cond b (Some e.1) (lookup (pointwise nat_eq name) es) ≡ None → ⊥
    by true is rest empty = absurd (cc)
    by false is rest empty =
        elim (Contains-cases e (name, table) es c) [
          | inl same ↦ let yes : pointwise nat_eq name e.0 ≡ true = (Decides-name name e.0).1 (sym (ap (λ (x : List ℕ × BookTable). x.0) same)) in cc
          | inr among ↦ rest among empty
        ]

missing : (b : Bool) (table : BookTable) (rest : Option BookTable) → cond b (Some table) rest ≡ None → rest ≡ None
missing true table rest h = absurd (cc)
missing false table rest h = h

put-moved : (name : List ℕ) (table : BookTable) (es : HeldTables) → lookup (pointwise nat_eq name) es ≡ None → IsPermutation ((name, table) ∷ es) (with_table name table es)
put-moved name table [] none = IsPermutation-refl ((name, table) ∷ [])
put-moved name table (e ∷ es) none = by (slice_cmp nat_cmp name e.0) refl (put-moved name table es (missing (pointwise nat_eq name e.0) e.1 (lookup (pointwise nat_eq name) es) none))
  where
    by : (o : Ordering) → slice_cmp nat_cmp name e.0 ≡ o → IsPermutation ((name, table) ∷ es) (with_table name table es)
        → IsPermutation ((name, table) ∷ e ∷ es) (by_order o ((name, table) ∷ e ∷ es) ((e.0, table) ∷ es) (e ∷ with_table name table es))
    by Less is rest = IsPermutation-refl ((name, table) ∷ e ∷ es)
    by Equal is rest = absurd (found-some name e.1 (e ∷ es) (subst (λ n. Contains (e ∷ es) (n, e.1)) (sym (same_name name e.0 is)) (Contains-here e es)) none)
    by Greater is rest =
        IsPermutation-trans _ _ _ (IsPermutation-exchange (name, table) e es) (IsPermutation-cons e _ _ rest)

-- ---- a row, after those before it

abbrev held_tab : List ℕ × BookTable → Tab
held_tab entry = tab_of (entry.0, entry.1.text)

module _ (done rest : List Tab) (row : Tab) (tables : HeldTables) (text : HasUtf8Texts file.Tab row) (read : AreRead (done ++ row ∷ rest) done tables) where
  abbrev sorted : List Tab
  sorted = done ++ row ∷ rest

  pub count : length tables ≡ length done
  count = omega (arith, length_permutation _ _ read.rows, length-map done (spelled file.Tab), length-map tables held_tab)

  -- a row before it has the name under which a table is held
  row-named : (name : List ℕ) (table : BookTable) → Contains tables (name, table) → (other : Tab) × Contains done other × (chars other.name ≡ name)
  row-named name table c =
      let back = Contains-permutation _ _ (held_tab (name, table))
      (IsPermutation-sym _ _ read.rows) (Contains-map held_tab tables (name, table) c) in
      let other = Contains-from_map (spelled file.Tab) done (held_tab (name, table)) back in
      (other.0, other.1, ap (λ (t : Tab). t.name) other.2)

  -- and a table is held under the name of each row before it
  table-named : (other : Tab) → Contains done other → (table : BookTable) × Contains tables (chars other.name, table)
  table-named other c =
      let there = Contains-permutation _ _ (spelled file.Tab other) read.rows (Contains-map (spelled file.Tab) done other c) in
      let entry = Contains-from_map held_tab tables (spelled file.Tab other) there in
      (entry.0.1, subst (λ n. Contains tables (n, entry.0.1)) (ap (λ (t : Tab). t.name) entry.2) entry.1)

  same-bytes : (other : Tab) → Contains done other → chars other.name ≡ chars row.name → other.name ≡ row.name
  same-bytes other c same =
      sym (encodes-chars other.name (All-contains (HasUtf8Texts file.Tab) done other read.texts c)) ∙ (ap encodes same ∙ encodes-chars row.name text)

  no-table : (other : Tab) → Contains done other → other.name ≡ row.name → ¬ (lookup (pointwise nat_eq (chars row.name)) tables ≡ None)
  no-table other c same none =
      let table = table-named other c in
      found-some (chars row.name) table.0 tables (subst (λ n. Contains tables (chars n, table.0)) same table.1) none

  -- a sound row may come, and its text has a meaning
  pub may-come : IsSoundTabRow sorted (length done) row → MayCome tables (chars row.name)
  may-come s = record {
    room = subst (λ n. n < most_tables) (sym count) s.room;
    named = s.named;
    new = none (lookup (pointwise nat_eq (chars row.name)) tables) refl;
  }
    where
      none : (found : Option BookTable) → lookup (pointwise nat_eq (chars row.name)) tables ≡ found → found ≡ None
      none None is = refl
      none (Some table) is =
          let other = row-named (chars row.name) table (Contains-from_lookup (λ x y. (Decides-name x y).0) (chars row.name) table tables is) in
          let place = place-of done other.0 other.1 in
          let within = slice_get_within done place.0 other.0 place.1 in
          absurd (s.new place.0 other.0 within (slice_get-append_left done (row ∷ rest) place.0 within ∙ place.1) (same-bytes other.0 other.1 other.2))

  pub more-read : (table : BookTable) → MayCome tables (chars row.name) → table.text ≡ row.body → Means row.body table.rules
      → AreRead sorted (done ++ row ∷ []) (with_table (chars row.name) table tables)
  more-read table may is means =
      let moved = put-moved (chars row.name) table tables may.new in
      let own : held_tab (chars row.name, table) ≡ spelled file.Tab row = λ i. record { name = chars row.name; body = is i } in
      record {
        texts = All-push (HasUtf8Texts file.Tab) done row read.texts text;
        rows = subst (λ xs. IsPermutation xs (map held_tab (with_table (chars row.name) table tables))) (sym (map-append (spelled file.Tab) done (row ∷ [])))
            (IsPermutation-push_more (map (spelled file.Tab) done) (map held_tab tables) (map held_tab (with_table (chars row.name) table tables)) (spelled file.Tab row) read.rows
            (subst (λ t. IsPermutation (t ∷ map held_tab tables) (map held_tab (with_table (chars row.name) table tables))) own
            (IsPermutation-map held_tab _ _ moved)));
        means = All-put (slice_cmp nat_cmp) same_name (λ entry. Means entry.1.text entry.1.rules) (chars row.name) table tables read.means
            (subst (λ text. Means text table.rules) (sym is) means);
        names = IsStrictlySortedBy-put (slice_cmp nat_cmp) nat_list_cmp_total (chars row.name) table tables read.names;
        few = omega (arith, length_permutation _ _ moved, may.room);
        sound = λ index other within at. sound index other (split index within) at;
      }
    where
      split : (index : ℕ) → index < length (done ++ row ∷ []) → (index < length done) ⊎ (index ≡ length done)
      split index within =
          elim (cases_eq index (length done)) [
            | inl same ↦ inr same
            | inr other ↦ inl (omega (arith, within, length_push done row, other))
          ]

      sound : (index : ℕ) (other : Tab) → (index < length done) ⊎ (index ≡ length done) → slice_get sorted index ≡ Some other → IsSoundTabRow sorted index other
      sound index other (inl less) at = read.sound index other less at
      sound index other (inr same) at =
          let one : row ≡ other = same_Some row other (sym (here-at done rest row) ∙ (ap (slice_get sorted) (sym same) ∙ at)) in
          subst (λ i. IsSoundTabRow sorted i other) (sym same) (subst (IsSoundTabRow sorted (length done)) one (record {
            named = may.named;
            meaning = table.rules;
            means = means;
            room = subst (λ n. n < most_tables) count may.room;
            new = λ before earlier less is name. no-table earlier (Contains-there done before earlier (sym (slice_get-append_left done (row ∷ rest) before less) ∙ is)) name may.new;
          }))

-- ---- all rows

pub whole : (tabs sorted : List Tab) (tables : HeldTables) → IsPermutation tabs sorted → AreInOrder sorted → AreRead sorted sorted tables → IsWhole (IsDamagedTab tabs)
whole tabs sorted tables moved up read id (other, moved', up', (index, row, at, reported, bad)) =
    let same = sorted_once tabs sorted other moved up moved' up' in
    let there : slice_get sorted index ≡ Some row = ap (λ list. slice_get list index) same ∙ at in
    bad (subst (λ list. IsSoundTabRow list index row) same (read.sound index row (slice_get_within sorted index row there) there))

pub tells : (tabs sorted : List Tab) (fault : RowsFault) → IsPermutation tabs sorted → AreInOrder sorted → TellsFirstUnsound sorted fault → TellsDamage (IsDamagedTab tabs) fault
tells tabs sorted NoMemory moved up reported = tt
tells tabs sorted (Damaged id) moved up (index, row, at, is, bad, before) = (
  (sorted, moved, up, (index, row, at, is, bad)),
  λ (other : ℤ) damaged. subst (λ z. z ≤ℤ other) (sym is) (no-earlier other damaged),
)
  where
    no-earlier : (other : ℤ) → IsDamagedTab tabs other → pos (index + 1) ≤ℤ other
    no-earlier other (list, moved', up', (place, row', at', is', bad')) =
        let same = sorted_once tabs sorted list moved up moved' up' in
        let there : slice_get sorted place ≡ Some row' = ap (λ xs. slice_get xs place) same ∙ at' in
        subst (λ z. pos (index + 1) ≤ℤ z) (sym is') (pos_le (index + 1) (place + 1) (
        elim (cases_lt place index) [
          | inl less ↦ absurd (bad' (subst (λ xs. IsSoundTabRow xs place row') same (before place row' less there)))
          | inr more ↦ omega (arith, more)
        ]))

-- the row after those that are read
pub first-unsound : (done rest : List Tab) (row : Tab) (tables : HeldTables) (fault : RowsFault) → AreRead (done ++ row ∷ rest) done tables
    → TellsUnsoundTab (done ++ row ∷ rest) (length done) row fault → TellsFirstUnsound (done ++ row ∷ rest) fault
first-unsound done rest row tables NoMemory read reported = tt
first-unsound done rest row tables (Damaged id) read (is, bad) = (length done, row, here-at done rest row, is, bad, read.sound)

-- stored rows in order
pub in-order : (rows : List StoredTab) → IsSortedBy (λ x y. less x.row y.row) rows → AreInOrder (rows_of rows)
in-order rows up k d low inside =
    let row = λ (s : StoredTab). s.row in
    let e : StoredTab = record { rowid = pos 0; row = d } in
    let long = length-map rows row in
    subst (λ t. less (get_or (map row rows) (k + 1) d) t ≡ false) (sym (get_or-map row rows k e d (omega (arith, inside, long))))
    (subst (λ t. less t (row (get_or rows k e)) ≡ false) (sym (get_or-map row rows (k + 1) e d (omega (arith, inside, long)))) (up k e low (omega (arith, inside, long))))

-- ---- what is reported of a row

-- the number of the row after so many
pub number-after : (n : ℕ) → n ≤ most_tables → to_z w64 (of_z w64 (to_z w64 n +ℤ pos 1)) ≡ pos (n + 1)
number-after n few =
    ap (λ (z : ℤ). to_z w64 (of_z w64 (z +ℤ pos 1))) (to_z_pos w64 n (omega (arith, few)))
    ∙ to_z-of_z w64 (pos (n + 1)) (omega (arith, few))

pub unreported : (all : List Tab) (index : ℕ) (row : Tab) (id : ℤ) → id ≡ pos (index + 1) → (fault : RowsFault) → TellsNoMeaning row.body id fault
    → TellsUnsoundTab all index row fault
unreported all index row id is (Damaged reported) (same, none) = (same ∙ is, λ s. none s.meaning s.means)
unreported all index row id is NoMemory reported = tt

pub none-read : (all : List Tab) → AreRead all [] []
unfolding IsStrictlySortedBy
none-read all = record {
  texts = All-nil (HasUtf8Texts file.Tab);
  rows = IsPermutation-refl [];
  means = All-nil (λ (entry : List ℕ × BookTable). Means entry.1.text entry.1.rules);
  names = tt;
  few = omega arith;
  sound = λ index row within at. absurd (omega (arith, within));
}

pub are-tables : (tabs all : List Tab) → IsPermutation tabs all → (result : Result HeldTables RowsFault) → IfOk result (AreRead all all) → IfOk result (AreTables tabs)
are-tables tabs all moved (Err fault) read = tt
are-tables tabs all moved (Ok tables) read = record {
  texts = All-permutation (HasUtf8Texts file.Tab) _ _ (IsPermutation-sym _ _ moved) read.texts;
  rows = IsPermutation-trans _ _ _ (IsPermutation-map (spelled file.Tab) _ _ moved) read.rows;
  means = read.means;
  sorted = read.names;
}
