-- What the statements that put and set rows do to their tables.
use Rattle.std.proofs.Common.{◌≡◌, ℕ, ℤ, Bool, true, if◌then◌else◌, List, [], ◌∷◌, length, map, codes, bytes_eq, unwrap_or, Some, refl, sym, ap, subst, ◌∙◌, Ok, arith}
use Rattle.std.specs.List.{position_from}
use Rattle.std.specs.Ordering.{int_eq}
use Rattle.std.proofs.lemmas.List.Sorted.{IsPermutation-sym, IsPermutation-trans, IsPermutation-cons, IsPermutation-map}
use Rattle.sqlite_value.specs.declared.value.Value.TheVariants.{Null, Int}
use Rattle.sqlite_value.specs.Order.{Row, column}
use Rattle.sqlite_sql.specs.Term.{Term, lit, col}
use Rattle.sqlite_schema.specs.declared.command.Command.TheVariants.{Nothing}
use Rattle.sqlite_schema.specs.declared.command.Source.TheVariants.{Values}
use Rattle.sqlite_schema.specs.declared.schema.Column.{Column}
use Rattle.sqlite_schema.specs.declared.schema.Schema.{Schema}
use Rattle.sqlite_resolve.specs.declared.compiled.Compiled.{Compiled}
use Rattle.sqlite_rules.specs.Edit.{next_rowid}
use Rattle.sqlite_catalog.specs.Listing.{IsSound}
use Rattle.sqlite.specs.Listing.{understood}
use Rattle.sqlite.specs.State.{State, Executes, ExecutesIn}
use Rattle.sqlite_tied.specs.Compute.{everything}
use Rattle.desk_parts.specs.declared.file_table.FileTable.{FileTable}
use Rattle.desk_parts.specs.declared.file_table.FileTable.TheVariants as tables
use Rattle.desk_parts.specs.Puts.{RowPut, PutRow, SetColumns, Flags, Place, Print, Resolved, Span, Table, Version, change_of, put_by_key, put_to, table_put}
use Rattle.desk_parts.specs.Rows.{Corr, NamedCorr, RowOf, Tab}
use Rattle.sql_tables.specs.Rows.{HaveRowids, Lists, columns_at, numbers_from}
use Rattle.sql_tables.specs.Tables.{IsDeclared, numbered_table}
use Rattle.sql_tables.proofs.ByRowid.{PutsByRowid, cast_int, cast_null, numbered_puts}
use Rattle.sql_tables.proofs.Declaring.{low_tree}
use Rattle.sql_tables.proofs.Meaning.{IsText, insert_is, parse_of, rows_in}
use Rattle.sql_tables.proofs.OneTable.{program_on}
use Rattle.sql_tables.proofs.RowLists.{integer}
use Rattle.sql_tables.proofs.Running.{Means, Wrote, insert_ran, upsert_ran}
use Rattle.sql_tables.proofs.SetByRowid.{SetsByRowid, sets_by_rowid}
use Rattle.sql_tables.proofs.Writing.{IsAdded, Spares, same_value}
use Rattle.desk_rows.specs.Descriptions.{description_of, table_of}
use Rattle.desk_rows.specs.Rows.{columns_of}
use Rattle.desk_rows.specs.Puts.{statement}
use Rattle.desk_rows.proofs.RowPuts.ByName.{means, parts, puts_tab, stored, terms}
use Rattle.desk_rows.proofs.RowPuts.Named.{names_once}

-- The table has these rows then, and others have theirs.
pub record Did (t : FileTable) (schema : Schema) (tree : ℕ) (xs : List (RowOf t)) (old new : State) : Type 0 where
  pub wrote : Wrote old new
  pub lists : Lists (columns_of t) (columns_at (description_of t).own) xs (new.now.trees tree)
  pub ids : (description_of t).is_changed ≡ true → HaveRowids (new.now.trees tree)
  pub spares : Spares schema tree old.now.trees new.now.trees

-- The text, with these parameters, changes the rows of the table so, whatever else the schema has.
abbrev pub Does : (t : FileTable) → (List (RowOf t) → List (RowOf t)) → List ℕ → Row → Type 1
Does t f text params =
    (schema : Schema) (tree : ℕ) (d : IsDeclared schema (table_of t tree)) (old new : State) (count : ℕ) (xs : List (RowOf t)) → old.now.schema ≡ schema → IsSound schema old.now.trees → ((description_of t).is_changed ≡ true → HaveRowids (old.now.trees tree))
    → Lists (columns_of t) (columns_at (description_of t).own) xs (old.now.trees tree) → Executes text params old new (Ok count) → Did t schema tree (f xs) old new

-- the rows, with this done to those that have the key
abbrev pub set_by_key : {X : Type 0} → (X → Bool) → (X → X) → List X → List X
set_by_key has_key set xs = map (λ x. if has_key x then set x else x) xs

-- ---- tables whose key is their rowid

-- the number of a row: the integer in its first column
abbrev key_of : (t : FileTable) → RowOf t → ℤ
key_of t x = integer (column (columns_of t x) 0)

-- the places of columns with these names, counted from 1
abbrev places : FileTable → List (List ℕ) → List ℕ
places t = map (λ name. unwrap_or (position_from (λ (c : Column). bytes_eq c.name name) 1 (description_of t).columns) 0)

-- the first column of the table is its rowid, and its rows may be changed
abbrev IsNumbered : FileTable → Type 0
IsNumbered t = ((tree : ℕ) → table_of t tree ≡ numbered_table (description_of t).name (description_of t).columns tree) × ((description_of t).is_changed ≡ true)

module _ (t : FileTable) (n : IsNumbered t) where
  -- the table's statement puts a row by its number
  abbrev Puts : Type 0
  Puts = PutsByRowid (description_of t).name (description_of t).columns (description_of t).own (description_of t).put (columns_of t) (key_of t)

  put_does : Puts → (x : RowOf t) → Does t (put_by_key (λ y. int_eq (key_of t y) (key_of t x)) x) (description_of t).put (columns_of t x)
  put_does p x schema tree d old new count xs has sound ids lists h =
      let did = numbered_puts (description_of t).name (description_of t).columns (description_of t).own (description_of t).put (columns_of t) (key_of t) p
      schema tree (subst (IsDeclared schema) (n.0 tree) d) old new count x xs has sound (ids n.1) lists h in
      record { wrote = did.0; lists = did.1.3; ids = λ changed. did.1.4; spares = did.1.2.others }

  -- a text sets the columns with these names to these values, in the row with this number
  abbrev Sets : List ℕ → List (List ℕ) → Row → ℤ → (RowOf t → RowOf t) → Type 0
  Sets text names values id set =
      SetsByRowid (description_of t).name (description_of t).columns (description_of t).own text (places t names) (columns_of t) (key_of t) values id set

  set_does : (text : List ℕ) (names : List (List ℕ)) (values : Row) (id : ℤ) (set : RowOf t → RowOf t) → Sets text names values id set
      → Does t (set_by_key (λ x. int_eq (key_of t x) id) set) text (Int id ∷ values)
  set_does text names values id set s schema tree d old new count xs has sound ids lists h =
      let did = sets_by_rowid (description_of t).name (description_of t).columns (description_of t).own text (places t names) (columns_of t) (key_of t) values id set s
      schema tree (subst (IsDeclared schema) (n.0 tree) d) old new count xs has sound (ids n.1) lists h in
      record { wrote = did.0; lists = did.1.0; ids = λ changed. did.1.1; spares = did.1.2 }

-- ---- an entry that is added

-- no rowid, and the parameters in turn
abbrev entry_terms : List Term
entry_terms = lit Null ∷ map (col 0) (numbers_from 0 (description_of tables.NamedCorr).own)

entry_puts : (e : NamedCorr) → Does tables.NamedCorr (put_to tables.NamedCorr e) (description_of tables.NamedCorr).put (columns_of tables.NamedCorr e)
unfolding everything
entry_puts e schema tree d old new count xs has sound ids lists h =
    let table = table_of tables.NamedCorr tree in
    let text = (description_of tables.NamedCorr).put in
    let columns = columns_of tables.NamedCorr e in
    let row = Int (next_rowid (old.now.trees tree)) ∷ columns in
    let width = length entry_terms in
    let is_text : IsText text _ = record { parsed = refl; statement = refl; timeless = refl } in
    let means = insert_is schema d.at table d.named d.there refl text (rows_in (parse_of text).statement) (Values entry_terms width) is_text (λ base. refl) in
    let ran = insert_ran schema d.at table d.there text columns old new count has
    entry_terms width means (Null ∷ columns) row refl refl (simp (cast_null, cast_int)) h in
    let added : IsAdded schema table row old.now.trees new.now.trees = ran.1 in
    let first = IsPermutation-cons columns _ _ lists in
    record {
      wrote = ran.0;
      lists = IsPermutation-trans _ _ _ first (IsPermutation-sym _ _ (IsPermutation-map (columns_at (description_of tables.NamedCorr).own) _ _ added.rows));
      ids = λ changed. absurd (cc);
      spares = added.others;
    }

-- ---- a braille table, by its name

tab_does : (t : Tab) → Does tables.Tab (put_to tables.Tab t) (description_of tables.Tab).put (columns_of tables.Tab t)
tab_does t schema tree d old new count ts has sound ids lists h =
    let table = table_of tables.Tab tree in
    let low = low_tree schema table d old.now.trees sound in
    let row = stored (next_rowid (old.now.trees tree)) t in
    let ran = upsert_ran schema d.at table d.there (description_of tables.Tab).put (columns_of tables.Tab t) old new count has
    (Some (1 ∷ [])) (program_on tree parts) terms 3 (means schema tree d low) (Null ∷ columns_of tables.Tab t) row refl refl (rw cast_null refl) h in
    let once = names_once schema tree d old.now.trees sound (ids refl) ts lists t.name in
    let put = puts_tab schema tree d low old.step_limit t ts old.now.trees new.now.trees lists once (ids refl) ran.1 in
    record { wrote = ran.0; lists = put.0; ids = λ changed. put.1; spares = put.2 }

-- ---- an entry without a name, which nothing puts

-- `corr` has no statement of its own: the empty text means nothing, and has no parameters
nothing_is : (schema : Schema) → Means schema [] Nothing × ((parse_of []).names ≡ [])
unfolding everything understood
nothing_is schema = (refl, refl)

never_puts : (e : Corr) → Does tables.Corr (put_to tables.Corr e) (description_of tables.Corr).put (columns_of tables.Corr e)
unfolding ExecutesIn
never_puts e schema tree d old new count xs has sound ids lists h =
    let is = nothing_is old.now.schema in
    let same = same_value (sym h.1.is ∙ is.0) in
    let none : length h.0.names ≡ 0 = ap (λ (c : Compiled). length c.names) same ∙ ap length is.1 in
    let given : 6 ≡ length h.0.names = h.1.given in
    absurd (omega (arith, none, given))

-- ---- each statement

row_does : (t : FileTable) (x : RowOf t) → Does t (put_to t x) (description_of t).put (columns_of t x)
unfolding everything
row_does tables.Tab row = tab_does row
row_does tables.Corr row = never_puts row
row_does tables.NamedCorr row = entry_puts row
row_does t row = put_does t (assumption) (assumption) row

-- what is put does to its table what it says, by its statement
pub does : (it : RowPut) → Does (table_put it) (change_of it) (statement it).text (statement it).params
unfolding everything
does (PutRow t row) = row_does t row
does (SetColumns tables.Book id (Version version)) = set_does tables.Book (assumption) _ (codes "version" ∷ []) _ id _ (assumption)
does (SetColumns tables.Para id (Place place)) = set_does tables.Para (assumption) _ (codes "place" ∷ []) _ id _ (assumption)
does (SetColumns tables.Para id (Flags style volume struck)) =
    set_does tables.Para (assumption) _ (codes "style" ∷ codes "volume" ∷ codes "struck" ∷ []) _ id _ (assumption)
does (SetColumns tables.Para id (Table tab)) = set_does tables.Para (assumption) _ (codes "tab" ∷ []) _ id _ (assumption)
does (SetColumns tables.Para id (Print print)) = set_does tables.Para (assumption) _ (codes "print" ∷ []) _ id _ (assumption)
does (SetColumns tables.Mark id (Span start stop touched)) =
    set_does tables.Mark (assumption) _ (codes "start" ∷ codes "stop" ∷ codes "touched" ∷ []) _ id _ (assumption)
does (SetColumns tables.Mark id (Resolved resolved)) = set_does tables.Mark (assumption) _ (codes "resolved" ∷ []) _ id _ (assumption)
does (SetColumns t key none) = absurd none
