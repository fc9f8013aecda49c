-- Entries sorted by their names.
use Rattle.std.proofs.Common.{◌≡◌, ℕ, ◌+◌, Bool, true, false, cond, nat_eq, List, [], ◌∷◌, ◌++◌, map, length, String, string_bytes, string_eq, chars, IsUtf8, bytes_eq, Option, Some, None, IsSome, is_some, Ordering, Equal, nat_cmp, is_eq, fold, refl, sym, ap, ap₂, ◌∙◌, subst, inl, inr, arith, true≢false, T}
use Rattle.std.specs.Map.{keys_of, lookup, set_value}
use Rattle.std.specs.List.{AllByRecursion, IsDistinct}
use Rattle.std.specs.Ordering.{eq_by_cmp}
use Rattle.std.specs.String.{string_eq_equiv}
use Rattle.std.specs.Cmp.{IsEquivalence, tied_itself}
use Rattle.std.specs.Cmp.Lexicographic.{bytes_decides, nat_list_cmp_total, pointwise, slice_cmp, texts_ties}
use Rattle.std.specs.FinMap.Entries.{find, find-put, find_tied, is_sorted, is_sorted-put, length-put, put, same_entries}
use Rattle.std.proofs.lemmas.Bool.{cases_Bool}
use Rattle.std.proofs.lemmas.List.{append-nil, append_assoc, length-map, map-append}
use Rattle.indexmap.specs.IndexMap.{insert_all, insert_entry}
use Rattle.indexmap.proofs.MapLemmas.{absent_before, absent_from_lookup, insert_entry-absent}
use Rattle.std.proofs.lemmas.Bool.Decides.{same_from_decides}
use Rattle.std.proofs.lemmas.Str.{IsUtf8-string_bytes, encodes-chars}
use lib.Utf8.{encodes}
use Rattle.desk_memory.specs.Held.{HeldTables, by_name, with_table}
use Rattle.desk_memory.specs.declared.tables.BookTable.{BookTable}

-- ---- names

abbrev pub names : List ℕ → List ℕ → Ordering
names = slice_cmp nat_cmp

Equal-from_test : (o : Ordering) → is_eq o ≡ true → o ≡ Equal
Equal-from_test Equal e = refl
Equal-from_test o e = absurd (true≢false (sym e))

-- names that tie are the same
same_name : (x y : List ℕ) → eq_by_cmp names x y ≡ true → x ≡ y
same_name x y e = (bytes_decides x y).0 (texts_ties x y ∙ e)

-- the characters of texts are equal where their bytes are
pub pointwise-chars : (xs ys : List ℕ) → IsUtf8 xs → IsUtf8 ys → pointwise nat_eq (chars xs) (chars ys) ≡ pointwise nat_eq xs ys
pointwise-chars xs ys x y =
    same_from_decides {P = xs ≡ ys} (pointwise nat_eq (chars xs) (chars ys)) (pointwise nat_eq xs ys)
    (λ e. sym (encodes-chars xs x) ∙ (ap encodes ((bytes_decides (chars xs) (chars ys)).0 e) ∙ encodes-chars ys y), λ e. (bytes_decides (chars xs) (chars ys)).1 (ap chars e))
    (bytes_decides xs ys)

-- ---- entries put in order of names, one after the other

module _ {X : Type 0} where
  -- the entries put into those that are there
  abbrev pub put_all : (start es : List (List ℕ × X)) → List (List ℕ × X)
  put_all start [] = start
  put_all start (e ∷ es) = put_all (put names e.0 e.1 start) es

  -- no name stands twice
  abbrev pub AreApart : List (List ℕ × X) → Type 0
  AreApart [] = Unit {0}
  AreApart (e ∷ es) = (find names e.0 es ≡ None) × AreApart es

  -- a look-up by equality of names is one by their order
  pub lookup-names : (name : List ℕ) (es : List (List ℕ × X)) → lookup (pointwise nat_eq name) es ≡ find names name es
  lookup-names name [] = refl
  lookup-names name (e ∷ es) = ap₂ (λ same rest. cond same (Some e.1) rest) (texts_ties name e.0) (lookup-names name es)

  pub put_all-push : (start es : List (List ℕ × X)) (name : List ℕ) (v : X) → put_all start (es ++ (name, v) ∷ []) ≡ put names name v (put_all start es)
  put_all-push start [] name v = refl
  put_all-push start (e ∷ es) name v = put_all-push (put names e.0 e.1 start) es name v

  pub is_sorted-put_all : (start es : List (List ℕ × X)) → T (is_sorted names start) → T (is_sorted names (put_all start es))
  is_sorted-put_all start [] sorted = sorted
  is_sorted-put_all start (e ∷ es) sorted = is_sorted-put_all (put names e.0 e.1 start) es (is_sorted-put names nat_list_cmp_total e.0 e.1 start sorted)

  first_found : (same : Bool) (found start : Option X) (v : X) → (same ≡ true → found ≡ None)
      → cond (is_some found) found (cond same (Some v) start) ≡ cond (is_some (cond same (Some v) found)) (cond same (Some v) found) start
  first_found true found start v none = ap (λ o. cond (is_some o) o (Some v)) (none refl)
  first_found false found start v none = refl

  -- a name that ties with one that is not there is not there either
  none_tied : (q x : List ℕ) (es : List (List ℕ × X)) → find names x es ≡ None → eq_by_cmp names q x ≡ true → find names q es ≡ None
  none_tied q x es none tied = sym (find_tied names nat_list_cmp_total q x (Equal-from_test (names q x) tied) es) ∙ none

  -- what is found among the entries, or else among those that were there
  pub find-put_all : (q : List ℕ) (start es : List (List ℕ × X)) → AreApart es
      → find names q (put_all start es) ≡ cond (is_some (find names q es)) (find names q es) (find names q start)
  find-put_all q start [] apart = refl
  find-put_all q start (e ∷ es) apart =
      find-put_all q (put names e.0 e.1 start) es apart.1
      ∙ (ap (λ o. cond (is_some (find names q es)) (find names q es) o) (find-put names nat_list_cmp_total q e.0 e.1 start)
      ∙ first_found (eq_by_cmp names q e.0) (find names q es) (find names q start) e.1 (none_tied q e.0 es apart.0))

  pub length-put_all : (start es : List (List ℕ × X)) → T (is_sorted names start) → AreApart es
      → ((q : List ℕ) → is_some (find names q es) ≡ true → find names q start ≡ None) → length (put_all start es) ≡ length start + length es
  length-put_all start [] sorted apart new = omega arith
  length-put_all start (e ∷ es) sorted apart new =
      let itself : is_some (find names e.0 (e ∷ es)) ≡ true = ap (λ o. is_some (cond (is_eq o) (Some e.1) (find names e.0 es))) (tied_itself nat_list_cmp_total e.0) in
      let one : length (put names e.0 e.1 start) ≡ length start + 1 =
      length-put names nat_list_cmp_total e.0 e.1 start sorted ∙ ap (λ o. cond (is_some o) (length start) (length start + 1)) (new e.0 itself) in
      let rest = length-put_all (put names e.0 e.1 start) es (is_sorted-put names nat_list_cmp_total e.0 e.1 start sorted) apart.1 still in
      omega (arith, one, rest)
    where
      still : (q : List ℕ) → is_some (find names q es) ≡ true → find names q (put names e.0 e.1 start) ≡ None
      still q there =
          find-put names nat_list_cmp_total q e.0 e.1 start
          ∙ elim (cases_Bool (eq_by_cmp names q e.0)) [
            | inl same ↦ absurd (true≢false (sym there ∙ ap is_some (none_tied q e.0 es apart.0 same)))
            | inr other ↦
                ap (λ b. cond b (Some e.1) (find names q start)) other
                ∙ new q (ap (λ b. is_some (cond b (Some e.1) (find names q es))) other ∙ there)
          ]

or_none : (found : Option BookTable) → cond (is_some found) found None ≡ found
or_none None = refl
or_none (Some table) = refl

swapped : (a b : Bool) (x y z : Option BookTable) → (a ≡ true → b ≡ true → ⊥) → cond a x (cond b y z) ≡ cond b y (cond a x z)
swapped true true x y z apart = absurd (apart refl refl)
swapped a b x y z apart = refl

repeated : (b : Bool) (x y z : Option BookTable) → cond b x z ≡ cond b x (cond b y z)
repeated true x y z = refl
repeated false x y z = refl

-- ---- tables by name

module _ {Z : Type 0} where
  -- an entry by the characters of its name
  abbrev pub shown : String Z × BookTable → List ℕ × BookTable
  shown entry = (chars (string_bytes entry.0), entry.1)

  by_name-shown : (entries : List (String Z × BookTable)) → by_name entries ≡ put_all [] (map shown entries)
  by_name-shown = from []
    where
      from : (start : HeldTables) (entries : List (String Z × BookTable))
          → fold (λ sorted entry. with_table (chars (string_bytes entry.0)) entry.1 sorted) start entries ≡ put_all start (map shown entries)
      from start [] = refl
      from start (entry ∷ entries) = from (with_table (chars (string_bytes entry.0)) entry.1 start) entries

  -- keys that are distinct have names that are apart
  AreApart-shown : (entries : List (String Z × BookTable)) → IsDistinct string_eq (keys_of entries) → AreApart (map shown entries)
  unfolding IsDistinct
  AreApart-shown [] distinct = tt
  AreApart-shown (entry ∷ entries) distinct = (none entry.0 entries distinct.0, AreApart-shown entries distinct.1)
    where
      none : (key : String Z) (entries : List (String Z × BookTable)) → AllByRecursion (λ other. string_eq key other ≡ false) (keys_of entries)
          → find names (chars (string_bytes key)) (map shown entries) ≡ None
      none key [] others = refl
      none key (entry ∷ entries) others =
          let apart : eq_by_cmp names (chars (string_bytes key)) (chars (string_bytes entry.0)) ≡ false =
          sym (texts_ties (chars (string_bytes key)) (chars (string_bytes entry.0)))
          ∙ (pointwise-chars (string_bytes key) (string_bytes entry.0) (IsUtf8-string_bytes key) (IsUtf8-string_bytes entry.0) ∙ others.0) in
          ap (λ b. cond b (Some entry.1) (find names (chars (string_bytes key)) (map shown entries))) apart ∙ none key entries others.1

  find-by_name : (name : List ℕ) (entries : List (String Z × BookTable)) → IsDistinct string_eq (keys_of entries)
      → find names name (by_name entries) ≡ find names name (map shown entries)
  find-by_name name entries distinct =
      ap (find names name) (by_name-shown entries)
      ∙ (find-put_all name [] (map shown entries) (AreApart-shown entries distinct) ∙ or_none (find names name (map shown entries)))

  -- a look-up by the characters of a name is one by its bytes
  lookup-shown : (name : List ℕ) (entries : List (String Z × BookTable)) → IsUtf8 name
      → lookup (pointwise nat_eq (chars name)) (map shown entries) ≡ lookup (λ key. bytes_eq name (string_bytes key)) entries
  lookup-shown name [] utf8 = refl
  lookup-shown name (entry ∷ entries) utf8 =
      ap₂ (λ same rest. cond same (Some entry.1) rest)
      (pointwise-chars name (string_bytes entry.0) utf8 (IsUtf8-string_bytes entry.0)) (lookup-shown name entries utf8)

  pub lookup-by_name : (name : List ℕ) (entries : List (String Z × BookTable)) → IsUtf8 name → IsDistinct string_eq (keys_of entries)
      → lookup (pointwise nat_eq (chars name)) (by_name entries) ≡ lookup (λ key. bytes_eq name (string_bytes key)) entries
  lookup-by_name name entries utf8 distinct =
      lookup-names (chars name) (by_name entries)
      ∙ (find-by_name (chars name) entries distinct
      ∙ (sym (lookup-names (chars name) (map shown entries)) ∙ lookup-shown name entries utf8))

  pub length-by_name : (entries : List (String Z × BookTable)) → IsDistinct string_eq (keys_of entries) → length (by_name entries) ≡ length entries
  length-by_name entries distinct =
      ap length (by_name-shown entries)
      ∙ (length-put_all [] (map shown entries) tt (AreApart-shown entries distinct) (λ q there. refl)
      ∙ omega (arith, length-map entries shown))

  -- one entry more
  pub by_name-push : (entries : List (String Z × BookTable)) (key : String Z) (table : BookTable)
      → by_name (entries ++ (key, table) ∷ []) ≡ with_table (chars (string_bytes key)) table (by_name entries)
  by_name-push entries key table =
      by_name-shown (entries ++ (key, table) ∷ [])
      ∙ (ap (put_all []) (map-append shown entries ((key, table) ∷ []))
      ∙ (put_all-push [] (map shown entries) (chars (string_bytes key)) table ∙ ap (with_table (chars (string_bytes key)) table) (sym (by_name-shown entries))))

  -- ---- another table under a name

  find-set_value : (name q : List ℕ) (table : BookTable) (entries : List (String Z × BookTable)) → IsUtf8 name
      → IsSome (lookup (λ key. bytes_eq name (string_bytes key)) entries)
      → find names q (map shown (set_value (λ key. bytes_eq name (string_bytes key)) entries table)) ≡ cond (eq_by_cmp names q (chars name)) (Some table) (find names q (map shown entries))
  find-set_value name q table [] utf8 there = absurd (true≢false (sym there))
  find-set_value name q table (entry ∷ entries) utf8 there = by (bytes_eq name (string_bytes entry.0)) refl (λ still. find-set_value name q table entries utf8 still)
    where
      by : (same : Bool) → bytes_eq name (string_bytes entry.0) ≡ same → (IsSome (lookup (λ key. bytes_eq name (string_bytes key)) entries)
          → find names q (map shown (set_value (λ key. bytes_eq name (string_bytes key)) entries table)) ≡ cond (eq_by_cmp names q (chars name)) (Some table) (find names q (map shown entries)))
          → find names q (map shown (cond same ((entry.0, table) ∷ entries) (entry ∷ set_value (λ key. bytes_eq name (string_bytes key)) entries table)))
          ≡ cond (eq_by_cmp names q (chars name)) (Some table) (cond (eq_by_cmp names q (chars (string_bytes entry.0))) (Some entry.1) (find names q (map shown entries)))
      by true same rest =
          let one : chars (string_bytes entry.0) ≡ chars name = ap chars (sym ((bytes_decides name (string_bytes entry.0)).0 same)) in
          repeated (eq_by_cmp names q (chars (string_bytes entry.0))) (Some table) (Some entry.1) (find names q (map shown entries))
          ∙ ap (λ n. cond (eq_by_cmp names q n) (Some table) (cond (eq_by_cmp names q (chars (string_bytes entry.0))) (Some entry.1) (find names q (map shown entries)))) one
      by false other rest =
          let still = subst (λ t. IsSome (cond t (Some entry.1) (lookup (λ key. bytes_eq name (string_bytes key)) entries))) other there in
          ap (λ o. cond (eq_by_cmp names q (chars (string_bytes entry.0))) (Some entry.1) o) (rest still)
          ∙ swapped (eq_by_cmp names q (chars (string_bytes entry.0))) (eq_by_cmp names q (chars name)) (Some entry.1) (Some table) (find names q (map shown entries))
          (λ is_entry is_name.
          let one : chars name ≡ chars (string_bytes entry.0) = sym (same_name q (chars name) is_name) ∙ same_name q (chars (string_bytes entry.0)) is_entry in
          let bytes : name ≡ string_bytes entry.0 = sym (encodes-chars name utf8) ∙ (ap encodes one ∙ encodes-chars (string_bytes entry.0) (IsUtf8-string_bytes entry.0)) in
          true≢false (sym ((bytes_decides name (string_bytes entry.0)).1 bytes) ∙ other))

  is_sorted-by_name : (entries : List (String Z × BookTable)) → T (is_sorted names (by_name entries))
  is_sorted-by_name entries = subst (λ list. T (is_sorted names list)) (sym (by_name-shown entries)) (is_sorted-put_all [] (map shown entries) tt)

  -- the table of a name that is there gives way to another
  pub by_name-set_value : (name : List ℕ) (table : BookTable) (entries : List (String Z × BookTable)) → IsUtf8 name
      → IsSome (lookup (λ key. bytes_eq name (string_bytes key)) entries)
      → IsDistinct string_eq (keys_of entries) → IsDistinct string_eq (keys_of (set_value (λ key. bytes_eq name (string_bytes key)) entries table))
      → by_name (set_value (λ key. bytes_eq name (string_bytes key)) entries table) ≡ with_table (chars name) table (by_name entries)
  by_name-set_value name table entries utf8 there distinct distinct' =
      same_entries names nat_list_cmp_total (λ x y tied. same_name x y (ap is_eq tied))
      (by_name (set_value (λ key. bytes_eq name (string_bytes key)) entries table)) (with_table (chars name) table (by_name entries))
      (is_sorted-by_name (set_value (λ key. bytes_eq name (string_bytes key)) entries table))
      (is_sorted-put names nat_list_cmp_total (chars name) table (by_name entries) (is_sorted-by_name entries))
      (λ q. find-by_name q (set_value (λ key. bytes_eq name (string_bytes key)) entries table) distinct'
      ∙ (find-set_value name q table entries utf8 there
      ∙ sym (find-put names nat_list_cmp_total q (chars name) table (by_name entries)
      ∙ ap (λ o. cond (eq_by_cmp names q (chars name)) (Some table) o) (find-by_name q entries distinct))))

-- ---- maps

-- entries that are inserted in turn, each under a key of its own, stand after those that are there
pub insert_all-distinct : {K V : Type 0} (eq : K → K → Bool) → IsEquivalence eq → (done es : List (K × V)) → IsDistinct eq (keys_of (done ++ es)) → insert_all eq done es ≡ done ++ es
insert_all-distinct eq laws done [] distinct = sym (append-nil done)
insert_all-distinct eq laws done (e ∷ es) distinct =
    let absent = absent_from_lookup (eq e.0) done (absent_before laws done es e distinct) in
    ap (λ list. insert_all eq list es) (insert_entry-absent eq e.0 e.1 done absent)
    ∙ (insert_all-distinct eq laws (done ++ e ∷ []) es (subst (λ list. IsDistinct eq (keys_of list)) (sym (append_assoc done (e ∷ []) es)) distinct)
    ∙ append_assoc done (e ∷ []) es)

-- tables by name, and a new one beside them
pub by_name-joined : {Z : Type 0} (old done new : List (String Z × BookTable)) (key : String Z) (name : List ℕ) (table : BookTable) (tables : HeldTables)
    → IsDistinct string_eq (keys_of old) → by_name old ≡ tables → chars (string_bytes key) ≡ name → lookup (pointwise nat_eq name) tables ≡ None
    → done ≡ insert_all string_eq [] old → new ≡ insert_entry string_eq done key table → by_name new ≡ with_table name table tables
by_name-joined old done new key name table tables distinct shows named none moved inserted =
    let same : done ≡ old = moved ∙ insert_all-distinct string_eq string_eq_equiv [] old distinct in
    let absent : lookup (string_eq key) old ≡ None =
    sym (lookup-by_name (string_bytes key) old (IsUtf8-string_bytes key) distinct)
    ∙ (ap₂ (λ n list. lookup (pointwise nat_eq n) list) named shows ∙ none) in
    ap by_name (inserted ∙ (ap (λ list. insert_entry string_eq list key table) same
    ∙ insert_entry-absent string_eq key table old (absent_from_lookup (string_eq key) old absent)))
    ∙ (by_name-push old key table ∙ ap₂ (λ n list. with_table n table list) named shows)
