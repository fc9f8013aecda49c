-- How the columns of the one table of a query are read, where each is written by its name alone.
use Rattle.std.proofs.Common.{◌≡◌, ℕ, suc, ◌+◌, ◌-◌, ◌<◌, ◌^◌, Bool, true, false, ◌&&◌, nat_lt, List, [], ◌∷◌, ◌++◌, length, codes, slice_get, Option, Some, None, Ok, is_some, is_none, option_map, refl, sym, ap, ap₂, subst, ◌∙◌, arith, append-nil, append_assoc, map, unwrap_or, bytes_eq, true≢false}
use Rattle.std.specs.List.{list_all}
use Rattle.std.proofs.lemmas.Bool.{and_parts, lt-ltb}
use Rattle.std.proofs.lemmas.Slice.Eq.{bytes_eq-Decides}
use Rattle.sqlite_value.specs.declared.keys.Key.{Key}
use Rattle.sqlite_value.specs.declared.keys.Collation.{Collation}
use Rattle.sqlite_value.specs.declared.keys.Collation.TheVariants.{Binary}
use Rattle.sqlite_value.specs.Keys.{ascending}
use Rattle.sqlite_trees.proofs.ListLemmas.{map-map}
use Rattle.sqlite_sql.specs.Term.{Term, col}
use Rattle.sqlite_ast.specs.declared.Expr.{Expr, out-Expr}
use Rattle.sqlite_ast.specs.declared.Expr.TheOpen.{Expr-F, Shown-F}
use Rattle.sqlite_ast.specs.declared.Expr.TheViews.{out-roll-Expr, out-roll-Shown, roll-Expr, roll-Shown}
use Rattle.sqlite_ast.specs.declared.Shown.{Shown}
use Rattle.sqlite_ast.specs.declared.Sort.{Sort, roll-Sort}
use Rattle.sqlite_schema.specs.declared.schema.Schema.{Schema}
use Rattle.sqlite_schema.specs.declared.schema.Table.{Table}
use Rattle.sqlite_schema.specs.declared.schema.Column.{Column}
use Rattle.sqlite_schema.specs.Names.{column_named, place_of, same_name}
use Rattle.sqlite_resolve.specs.declared.state.State.{State}
use Rattle.sqlite_resolve.specs.declared.state.Carried.{Carried}
use Rattle.sqlite_resolve.specs.declared.scope.Bound.{Bound}
use Rattle.sqlite_resolve.specs.declared.scope.Output.{Output}
use Rattle.sqlite_resolve.specs.declared.scope.Found.TheVariants as found
use Rattle.sqlite_resolve.specs.Lowering.{Lowering, begin, finish, spend, nothing, alone}
use Rattle.sqlite_resolve.specs.Scope.{Name, Context, find, in_level, only, hit, column_in, rowid_in, is_among, is_rowid, column, column_at, term_of, declared}
use Rattle.sqlite_resolve.specs.Body as body
use Rattle.sqlite_resolve.specs.Order as order
use Rattle.sqlite_resolve.specs.Expr.{lower, lower_to, node, opened, passes}

-- ---- what is written

abbrev pub column_expr : Name → Expr
column_expr name = roll-Expr (Expr-F.Column None name)

abbrev pub shown_column : Name → Shown
shown_column name = roll-Shown (Shown-F.One (column_expr name) None name)

-- the order by it, ascending
abbrev pub sort_column : Name → Sort
sort_column name = roll-Sort (record { key = column_expr name; descending = false; nulls_first = None })

column_out : (name : Name) → out-Expr (column_expr name) ≡ Expr-F.Column None name
column_out name = out-roll-Expr (Expr-F.Column None name)

-- ---- what it stands for

-- a column of the table as a result, and its hidden rowid
abbrev pub column_output : Table → ℕ → Column → Output
column_output table k c = record { name = c.name; is_alias = false; is_column = true; term = col 1 (place_of table k); carried = declared table k c }

abbrev pub rowid_output : Output
rowid_output = record { name = codes "rowid"; is_alias = false; is_column = true; term = col 1 0; carried = nothing }

abbrev pub rowid_if : Bool → Option Output
rowid_if true = Some rowid_output
rowid_if false = None

abbrev pub output_at : Table → Name → Option ℕ → Option Output
output_at t name (Some k) = option_map (column_output t k) (slice_get t.columns k)
output_at t name None = rowid_if (bytes_eq name (codes "rowid") && is_none t.key)

abbrev pub is_shown : Table → Name → Bool
is_shown t name = is_some (output_at t name (column_named t name))

abbrev pub output_for : Table → Name → Output
output_for t name = unwrap_or (output_at t name (column_named t name)) rowid_output

abbrev pub is_binary : Collation → Bool
is_binary Binary = true
is_binary _ = false

abbrev pub is_key_column : Option Column → Bool
is_key_column None = false
is_key_column (Some c) = is_binary c.collation

abbrev pub sorts_at : Table → Option ℕ → Bool
sorts_at t None = false
sorts_at t (Some k) = is_key_column (slice_get t.columns k)

abbrev pub term_at : Table → Option ℕ → Term
term_at t None = col 1 0
term_at t (Some k) = col 1 (place_of t k)

abbrev pub term_for : Table → Name → Term
term_for t name = term_at t (column_named t name)

-- the table has the column, which goes by bytes, and no result has the name as its alias
abbrev pub sorts_well : Table → List Output → Name → Bool
sorts_well t outs name = is_none (order.alias_in outs (column_expr name)) && sorts_at t (column_named t name)

none_is : {X : Type 0} (o : Option X) → is_none o ≡ true → o ≡ None
none_is o h = grind (arith, h)

-- ---- how it is read

-- nothing was met but columns
abbrev pub clear : ℕ → Carried → State
clear budget last = record { next = 2; steps = []; aggregates = []; budget = budget; written = None; last = last }

-- an expression that is a column alone, with no COLLATE, and no number
record IsBare (x : Expr) : Type 0 where
  pub named : body.is_column x ≡ true
  pub peeled : order.peeled x ≡ x
  pub uncollated : order.written_on x ≡ None
  pub no_number : order.is_numeral x ≡ false

is_bare : (name : Name) → IsBare (column_expr name)
unfolding body.is_column order.peeled order.written_on order.is_numeral
is_bare name = let out = column_out name in record { named = rw out; peeled = rw out; uncollated = rw out; no_number = rw out }

by_bytes : (table : Table) (k : ℕ) (c : Column) → is_binary c.collation ≡ true → alone (declared table k c) ≡ Binary
unfolding alone
by_bytes table k c binary =
    grind (arith, binary)

-- Names that are read in turn make a list, an element for each, and each takes a step of resolving.
module _ {X Y : Type 0} (walk : List Y → List X → Lowering (List Y)) (written : Name → X) (means : Name → Y) (fits : Name → Bool)
    (none : (done : List Y) (s : State) → walk done [] s ≡ Ok (done, s))
    (one : (name : Name) → fits name ≡ true → (more : List X) (done : List Y) (budget : ℕ) (last : Carried) → nat_lt 1 budget ≡ true
    → (later : Carried) × (walk done (written name ∷ more) (clear budget last) ≡ walk (done ++ means name ∷ []) more (clear (budget - 1) later))) where
  walks : (names : List Name) → list_all fits names ≡ true → (done : List Y) (budget : ℕ) (last : Carried) → length names + 1 < budget
      → (later : Carried) × (walk done (map written names) (clear budget last) ≡ Ok (done ++ map means names, clear (budget - length names) later))
  walks [] all done budget last rich = let same : budget - 0 ≡ budget = omega arith in (last, rw (append-nil, same) (none done (clear budget last)))
  walks (name ∷ names) all done budget last rich =
      let both : (fits name ≡ true) × (list_all fits names ≡ true) = and_parts _ _ all in
      let here = one name both.0 (map written names) done budget last (lt-ltb 1 budget (omega arith)) in
      let rest = walks names both.1 (done ++ means name ∷ []) (budget - 1) here.0 (omega arith) in
      let left : budget - 1 - length names ≡ budget - length (name ∷ names) = omega arith in
      (rest.0, here.1 ∙ rest.1 ∙ ap₂ (λ made b. Ok (made, clear b rest.0)) (append_assoc done (means name ∷ []) (map means names)) left)

module _ (schema : Schema) (at : ℕ) (table : Table) (there : slice_get schema.tables at ≡ Some table) (alias : Name) where
  abbrev pub bound : Bound
  bound = record { name = alias; table = at; slot = 1; shared = [] }

  abbrev pub over : List Output → Bool → Context
  over shown grouped = record { schema = schema; levels = record { tables = bound ∷ []; shown = shown } ∷ []; may_aggregate = grouped; may_alias = true }

  finds_column : (shown : List Output) (grouped : Bool) (name : Name) (k : ℕ) → column_named table name ≡ Some k → find (over shown grouped) None name ≡ Ok (found.Column 1 at k)
  unfolding find in_level only hit column_in is_among
  finds_column shown grouped name k named = rw (there, named)

  pub lowers_to : (depth : ℕ) (name : Name) (k : ℕ) (c : Column) → column_named table name ≡ Some k → slice_get table.columns k ≡ Some c → (shown : List Output) (grouped : Bool) (budget : ℕ) (last : Carried) → nat_lt 1 budget ≡ true
      → lower_to (suc depth) (over shown grouped) (column_expr name) (clear budget last) ≡ Ok (col 1 (place_of table k), clear (budget - 1) (declared table k c))
  unfolding lower_to node opened spend begin finish column term_of column_at passes
  lowers_to depth name k c named is shown grouped budget last rich = rw (rich, column_out name, finds_column shown grouped name k named, there, is)

  finds_rowid : (shown : List Output) (grouped : Bool) → column_named table (codes "rowid") ≡ None → nat_lt table.tree (2 ^ 31) ≡ true → find (over shown grouped) None (codes "rowid") ≡ Ok (found.Rowid 1 at)
  unfolding find in_level only hit column_in rowid_in is_among is_rowid same_name
  finds_rowid shown grouped free low = rw (there, free, low)

  -- the name is that of this result
  record IsNamed (name : Name) (o : Output) : Type 0 where
    pub lowers : (shown : List Output) (grouped : Bool) (budget : ℕ) (last : Carried) → nat_lt 1 budget ≡ true → lower (over shown grouped) (column_expr name) (clear budget last) ≡ Ok (o.term, clear (budget - 1) o.carried)
    pub heads : (shown : List Output) (grouped : Bool) → body.heading (over shown grouped) (column_expr name) name ≡ o.name
    pub is : o ≡ record { name = o.name; is_alias = false; is_column = true; term = o.term; carried = o.carried }

  rowid_named : column_named table (codes "rowid") ≡ None → nat_lt table.tree (2 ^ 31) ≡ true → table.key ≡ None → IsNamed (codes "rowid") rowid_output
  unfolding lower_to node opened spend begin finish column term_of passes body.heading body.declared
  rowid_named free low hidden = record {
    lowers = λ shown grouped budget last rich. rw (rich, column_out (codes "rowid"), finds_rowid shown grouped free low);
    heads = λ shown grouped. rw (column_out (codes "rowid"), finds_rowid shown grouped free low, there, hidden);
    is = refl;
  }

  name_is : nat_lt table.tree (2 ^ 31) ≡ true → (name : Name) → is_shown table name ≡ true → IsNamed name (output_for table name)
  unfolding body.heading body.declared
  name_is low name shown = by_place (column_named table name) refl shown
    where
      by_column : (k : ℕ) → column_named table name ≡ Some k → (c : Option Column) → slice_get table.columns k ≡ c → is_some (option_map (column_output table k) c) ≡ true
          → IsNamed name (unwrap_or (option_map (column_output table k) c) rowid_output)
      by_column k named None is h = absurd (true≢false (sym h))
      by_column k named (Some c) is h = record {
        lowers = lowers_to 699 name k c named is;
        heads = λ shown grouped. rw (column_out name, finds_column shown grouped name k named, there, is);
        is = refl;
      }

      by_rowid : column_named table name ≡ None → (b : Bool) → (bytes_eq name (codes "rowid") && is_none table.key) ≡ b → is_some (rowid_if b) ≡ true → IsNamed name (unwrap_or (rowid_if b) rowid_output)
      by_rowid free false is h = absurd (true≢false (sym h))
      by_rowid free true is h =
          let both = and_parts _ _ is in
          let same = (bytes_eq-Decides name (codes "rowid")).0 both.0 in
          subst (λ n. IsNamed n rowid_output) (sym same) (rowid_named (ap (column_named table) (sym same) ∙ free) low (none_is table.key both.1))

      by_place : (k : Option ℕ) → column_named table name ≡ k → is_some (output_at table name k) ≡ true → IsNamed name (unwrap_or (output_at table name k) rowid_output)
      by_place None named h = by_rowid named _ refl h
      by_place (Some k) named h = by_column k named _ refl h

  one_shown : (name : Name) (o : Output) → IsNamed name o → (shown done : List Output) (grouped : Bool) (budget : ℕ) (last : Carried) → nat_lt 1 budget ≡ true
      → body.shown lower (over shown grouped) (bound ∷ []) done (shown_column name) (clear budget last) ≡ Ok (done ++ o ∷ [], clear (budget - 1) o.carried)
  unfolding body.shown
  one_shown name o it shown done grouped budget last rich =
      rw (out-roll-Shown (Shown-F.One (column_expr name) None name), it.lowers shown grouped budget last rich, it.heads shown grouped, (is_bare name).named) (ap (λ x. Ok (done ++ x ∷ [], clear (budget - 1) o.carried)) (sym it.is))

  -- the columns of the result, in turn
  pub outputs_are : nat_lt table.tree (2 ^ 31) ≡ true → (names : List Name) → list_all (is_shown table) names ≡ true → (shown : List Output) (grouped : Bool) (budget : ℕ) (last : Carried) → length names + 1 < budget
      → (later : Carried) × (body.outputs lower (over shown grouped) (bound ∷ []) (map shown_column names) (clear budget last) ≡ Ok (map (output_for table) names, clear (budget - length names) later))
  unfolding body.outputs
  outputs_are low names all shown grouped budget last rich =
      walks (body.outputs_from lower (over shown grouped) (bound ∷ [])) shown_column (output_for table) (is_shown table) (λ done s. refl)
      (λ name fits more done budget last rich.
      let o = output_for table name in (o.carried, rw (one_shown name o (name_is low name fits) shown done grouped budget last rich)))
      names all [] budget last rich

  -- a term of ORDER BY, which ascends by bytes
  abbrev Sorts : List Output → Name → List (Term × Key) → Bool → ℕ → Carried → Term → Type 0
  Sorts outs name done grouped budget last t = (later : Carried) × (order.sort lower (over outs grouped) outs done (sort_column name) (clear budget last) ≡ Ok (done ++ (t, ascending Binary) ∷ [], clear (budget - 1) later))

  one_sort : (outs : List Output) (name : Name) → sorts_well table outs name ≡ true → (done : List (Term × Key)) (grouped : Bool) (budget : ℕ) (last : Carried) → nat_lt 1 budget ≡ true
      → Sorts outs name done grouped budget last (term_for table name)
  unfolding order.sort order.key order.collation_of order.placed
  one_sort outs name h done grouped budget last rich = by_place (column_named table name) refl (and_parts _ _ h).1
    where
      by_column : (k : ℕ) → column_named table name ≡ Some k → (c : Option Column) → slice_get table.columns k ≡ c → is_key_column c ≡ true → Sorts outs name done grouped budget last (col 1 (place_of table k))
      by_column k named None is well = absurd (true≢false (sym well))
      by_column k named (Some c) is well =
          let bare = is_bare name in
          let term = lowers_to 699 name k c named is outs grouped budget last rich in
          let unaliased = none_is (order.alias_in outs (column_expr name)) (and_parts _ _ h).0 in
          (declared table k c, rw (bare.peeled, unaliased, term, bare.no_number, bare.uncollated, by_bytes table k c well))

      by_place : (k : Option ℕ) → column_named table name ≡ k → sorts_at table k ≡ true → Sorts outs name done grouped budget last (term_at table k)
      by_place None named well = absurd (true≢false (sym well))
      by_place (Some k) named well = by_column k named _ refl well

  pub sorts_are : (outs : List Output) (names : List Name) → list_all (sorts_well table outs) names ≡ true → (grouped : Bool) (budget : ℕ) (last : Carried) → length names + 1 < budget
      → (later : Carried) × (order.sorts lower (over outs grouped) outs (map sort_column names) (clear budget last) ≡ Ok (map (λ t. (t, ascending Binary)) (map (term_for table) names), clear (budget - length names) later))
  unfolding order.sorts
  sorts_are outs names all grouped budget last rich = rw map-map
      (walks (order.sorts_from lower (over outs grouped) outs) sort_column (λ name. (term_for table name, ascending Binary)) (sorts_well table outs)
      (λ done s. refl) (λ name fits more done budget last rich. let it = one_sort outs name fits done grouped budget last rich in (it.0, rw it.1))
      names all [] budget last rich)
