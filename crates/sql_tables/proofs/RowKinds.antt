-- The kinds of the values in a tree's rows, and their texts, by what a sound database asks of them.
use Rattle.std.proofs.Common.{◌≡◌, ℕ, zero, suc, ◌+◌, ◌≤◌, true, false, ◌&&◌, List, [], ◌∷◌, drop, map, Option, Some, None, refl, sym, ap, subst, ◌∙◌, true≢false, IsTrue, IsPermutation, arith}
use Rattle.std.specs.List.{AllByRecursion, list_all}
use Rattle.std.proofs.lemmas.Bool.{and_parts, cond_both, ne_eqb}
use Rattle.sqlite_value.specs.declared.value.Value.{Value}
use Rattle.sqlite_value.specs.declared.value.Value.TheVariants as value
use Rattle.sqlite_value.specs.Order.{Row, column}
use Rattle.sqlite_trees.specs.Tree.{Trees}
use Rattle.sqlite_trees.specs.View.{is_int}
use Rattle.sqlite_trees.proofs.ListLemmas.{all-map, all-permutation, all_both, all_of, all_from_map, all_weaker}
use Rattle.sqlite_sql.specs.Ops.{is_null}
use Rattle.sqlite_schema.specs.declared.schema.Kind.{Kind}
use Rattle.sqlite_schema.specs.declared.schema.Kind.TheVariants.{Integer, Real, Text, Blob, Any}
use Rattle.sqlite_schema.specs.declared.schema.Column.{Column}
use Rattle.sqlite_schema.specs.declared.schema.Constraint.{Constraint}
use Rattle.sqlite_schema.specs.declared.schema.Constraint.TheVariants.{Datatype, NotNull}
use Rattle.sqlite_schema.specs.declared.schema.Schema.{Schema}
use Rattle.sqlite_schema.specs.declared.schema.Table.{Table}
use Rattle.sqlite_schema.specs.Names.{is_key}
use Rattle.sqlite_schema.specs.Rules.{is_of, are_typed, are_present, passes, suits}
use Rattle.sqlite_rules.specs.Lists.{Has}
use Rattle.sqlite_rules.proofs.ListLemmas.{all_from}
use Rattle.sqlite_rules.proofs.RuleLemmas.{keeps_at}
use Rattle.sqlite_catalog.specs.Listing.{IsSound}
use Rattle.sqlite.specs.Values.{IsInt}
use Rattle.sql_tables.specs.Kinds.{IsOfKind, HasKinds, IsUtf8Text}
use Rattle.sql_tables.specs.Tables.{IsDeclared}
use Rattle.sql_tables.proofs.Declaring.{has_table}
use Rattle.std.specs.Prelude.{⊤}
use Rattle.sql_tables.specs.Rows.{Lists}

-- a value that STRICT accepts, and that isn't NULL
of_kind : (k : Kind) (v : Value) → is_of k v ≡ true → is_null v ≡ false → (k ≡ Text → IsUtf8Text v) → IsOfKind k v
of_kind k value.Null typed present utf8 = absurd (true≢false present)
of_kind Integer (value.Int n) typed present utf8 = (n, refl)
of_kind Real (value.Real x) typed present utf8 = (x, refl)
of_kind Text (value.Text t) typed present utf8 = (t, refl, utf8 refl)
of_kind Blob (value.Blob b) typed present utf8 = (b, refl)
of_kind Any v typed present utf8 = tt
of_kind k v typed present utf8 = absurd (true≢false (sym typed))

pub integer_of : (v : Value) → IsTrue (is_int v) → IsInt v
integer_of v is = grind (arith, is)

utf8_at : (row : Row) (at : ℕ) → AllByRecursion IsUtf8Text row → IsUtf8Text (column row at)
utf8_at [] at all = tt
utf8_at (v ∷ row) zero all = all.0
utf8_at (v ∷ row) (suc at) all = utf8_at row at all.1

-- the values of a row from a place on, one for each of these columns
abbrev pub columns_from : ℕ → List Column → Row → Row
columns_from at [] row = []
columns_from at (c ∷ cs) row = column row at ∷ columns_from (at + 1) cs row

-- the row goes on so from the place after this one
abbrev pub GoesOn : ℕ → Row → Row → Type 0
GoesOn at vs row = (i k : ℕ) → k ≡ at + 1 + i → column vs i ≡ column row k

pub goes_on : (row : Row) → GoesOn 0 (drop 1 row) row
goes_on row i k e = grind (arith, e)

pub later : (at : ℕ) (vs row : Row) → GoesOn at vs row → GoesOn (at + 1) (drop 1 vs) row
later at vs row on i k e = grind (arith, on (suc i) k, e)

-- if the columns are STRICT and NOT NULL, and the texts UTF-8
module _ (key : Option ℕ) (row : Row) where
  kinds_from : (at : ℕ) (cs : List Column) (vs : Row) → GoesOn at vs row → ((place : ℕ) → at ≤ place → is_key key place ≡ false)
      → list_all (λ c. c.is_strict && c.not_null) cs ≡ true → AllByRecursion (λ c. c.kind ≡ Text → AllByRecursion IsUtf8Text (drop 1 row)) cs
      → are_typed key at cs vs ≡ true → are_present key at cs row ≡ true → HasKinds (map (λ c. c.kind) cs) (columns_from (at + 1) cs row)
  kinds_from at [] vs on apart needed utf8 typed present = tt
  kinds_from at (c ∷ cs) vs on apart needed utf8 typed present =
      let free = apart at (omega arith) in
      let is : is_of c.kind (column row (at + 1)) ≡ true = grind (arith, typed, free, needed, on 0 (at + 1) (omega arith)) in
      let null : is_null (column row (at + 1)) ≡ false = grind (arith, present, free, needed) in (
        of_kind c.kind (column row (at + 1)) is null (λ text. subst IsUtf8Text (goes_on row at (at + 1) (omega arith)) (utf8_at (drop 1 row) at (utf8.0 text))),
        kinds_from (at + 1) cs (drop 1 vs) (later at vs row on) (λ place over. apart place (omega (arith, over))) (and_parts _ _ needed).1 utf8.1 (grind (arith, typed)) (and_parts _ _ present).1,
      )

-- a row as a sound database has it
pub record IsKept (table : Table) (row : Row) : Type 0 where
  pub typed : are_typed table.key 0 table.columns (drop 1 row) ≡ true
  pub present : are_present table.key 0 table.columns row ≡ true

-- the columns of a table whose rowid is hidden
pub hidden_kinds : (table : Table) (row : Row) → IsKept table row → table.key ≡ None → list_all (λ c. c.is_strict && c.not_null) table.columns ≡ true
    → AllByRecursion (λ c. c.kind ≡ Text → AllByRecursion IsUtf8Text (drop 1 row)) table.columns → HasKinds (map (λ c. c.kind) table.columns) (columns_from 1 table.columns row)
hidden_kinds table row kept hidden needed utf8 =
    kinds_from table.key row 0 table.columns (drop 1 row) (goes_on row) (λ place over. ap (λ key. is_key key place) hidden) needed utf8 kept.typed kept.present

-- the columns after a first one that is the rowid
pub numbered_kinds : (table : Table) (row : Row) (c : Column) (cs : List Column) → IsKept table row → table.key ≡ Some 0 → table.columns ≡ c ∷ cs → list_all (λ c. c.is_strict && c.not_null) cs ≡ true
    → AllByRecursion (λ c. c.kind ≡ Text → AllByRecursion IsUtf8Text (drop 1 row)) cs → HasKinds (map (λ c. c.kind) cs) (columns_from 2 cs row)
numbered_kinds table row c cs kept first are needed utf8 =
    let typed : are_typed table.key 0 (c ∷ cs) (drop 1 row) ≡ true = ap (λ columns. are_typed table.key 0 columns (drop 1 row)) (sym are) ∙ kept.typed in
    let present : are_present table.key 0 (c ∷ cs) row ≡ true = ap (λ columns. are_present table.key 0 columns row) (sym are) ∙ kept.present in
    let apart = λ (place : ℕ) (over : 1 ≤ place). ap (λ key. is_key key place) first ∙ ne_eqb 0 place (λ same. omega (arith, over, same)) in
    kinds_from table.key row 1 cs (drop 1 (drop 1 row)) (later 0 (drop 1 row) row (goes_on row)) apart needed utf8 (grind (arith, typed)) (and_parts _ _ present).1

-- a fact of texts is asked of the columns of texts alone
pub all_texts : (P : Type 0) (cs : List Column) → P → AllByRecursion (λ c. c.kind ≡ Text → P) cs
all_texts P cs p = all_of (λ (c : Column). c.kind ≡ Text → P) (λ c text. p) cs

module _ (schema : Schema) (table : Table) (d : IsDeclared schema table) (db : Trees) (sound : IsSound schema db) where
  passing : (rule : Constraint) (row : Row) → Has (db table.tree) row → passes rule schema db table row ≡ true
  passing rule row = keeps_at rule schema db table row (sound.obeys.rules rule) (has_table schema table d)

  pub kept : AllByRecursion (IsKept table) (db table.tree)
  kept = all_from _ (db table.tree) (λ row has. record { typed = (and_parts _ _ (passing Datatype row has)).0; present = passing NotNull row has })

  -- the rows of the tree, in any order
  pub all_shown : (P : Row → Type 0) (show : Row → Row) (kinds : List Kind) → ((row : Row) → IsKept table row → P row → HasKinds kinds (show row)) → (rows : List Row)
      → AllByRecursion P (db table.tree) → IsPermutation (map show (db table.tree)) rows → AllByRecursion (HasKinds kinds) rows
  all_shown P show kinds each rows all same =
      all-permutation _ _ _ same (all-map (HasKinds kinds) show (db table.tree) (all_both (IsKept table) P (λ row. HasKinds kinds (show row)) each (db table.tree) kept all))

-- ---- the texts in the rows are those of their values

of_null : (v : Value) → is_null v ≡ true → IsUtf8Text v
of_null (value.Text t) is = absurd (true≢false (sym is))
of_null v is = tt

-- the values for these columns are so, but for the one that the rowid stands for
abbrev AreUtf8From : Option ℕ → ℕ → List Column → Row → Type 0
AreUtf8From key at [] row = ⊤
AreUtf8From key at (c ∷ cs) row = (is_key key at ≡ false → IsUtf8Text (column row (at + 1))) × AreUtf8From key (at + 1) cs row

module _ (key : Option ℕ) (row : Row) where
  texts_from : (at : ℕ) (cs : List Column) (vs : Row) → GoesOn at vs row → AreUtf8From key at cs row → are_typed key at cs vs ≡ true → AllByRecursion IsUtf8Text vs
  texts_from at [] [] on shown typed = tt
  texts_from at [] (v ∷ vs) on shown typed = absurd (true≢false (sym typed))
  texts_from at (c ∷ cs) [] on shown typed = tt
  texts_from at (c ∷ cs) (v ∷ vs) on shown typed = (
    cond_both (is_key key at) (is_null v) (suits c v) (λ fits. fits ≡ true → IsUtf8Text v)
        (λ is. of_null v) (λ other fits. subst IsUtf8Text (sym (on 0 (at + 1) (omega arith))) (shown.0 other)) (and_parts _ _ typed).0,
    texts_from (at + 1) cs vs (later at (v ∷ vs) row on) shown.1 (and_parts _ _ typed).1,
  )

-- a row has no more than its rowid and a value for each column
pub behind : (table : Table) (row : Row) → IsKept table row → AreUtf8From table.key 0 table.columns row → AllByRecursion IsUtf8Text (drop 1 row)
behind table row kept shown = texts_from table.key row 0 table.columns (drop 1 row) (goes_on row) shown kept.typed

pub in_rows : {X : Type 0} (written : X → Row) (columns : Row → Row) (P : X → Type 0) → ((x : X) → P x → AllByRecursion IsUtf8Text (written x)) → (xs : List X) (rows : List Row) → AllByRecursion P xs → Lists written columns xs rows
    → AllByRecursion (λ row. AllByRecursion IsUtf8Text (columns row)) rows
in_rows written columns P each xs rows all lists =
    let shown = all-map (AllByRecursion IsUtf8Text) written xs (all_weaker P (λ x. AllByRecursion IsUtf8Text (written x)) each xs all) in
    all_from_map (AllByRecursion IsUtf8Text) columns rows (all-permutation _ _ _ lists shown)
