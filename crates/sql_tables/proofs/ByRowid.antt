-- What an upsert by the rowid does to a table.
use Rattle.std.proofs.Common.{◌≡◌, ℕ, suc, ℤ, ◌+◌, ◌/◌, ◌++◌, ap, ◌∙◌, ◌==◌, ◌&&◌, Bool, true, false, List, [], ◌∷◌, drop, filter, map, not, length, Some, Ok, refl, sym, true≢false, replicate, ◌<◌, cond, int_eq, arith}
use Rattle.std.proofs.lemmas.Bool.{and_parts}
use Rattle.sqlite_value.specs.declared.keys.Collation.TheVariants.{Binary}
use Rattle.sqlite_value.specs.declared.value.Value.{Value}
use Rattle.sqlite_value.specs.declared.value.Value.TheVariants as value
use Rattle.sqlite_value.specs.Order.{Row, column}
use Rattle.sqlite_trees.specs.Tree.{rowid}
use Rattle.sqlite_ast.specs.declared.Rows.{Rows}
use Rattle.sqlite_ast.specs.declared.Statement.TheVariants.{Insert}
use Rattle.sqlite_ast.specs.declared.Upsert.{Upsert}
use Rattle.sqlite_ast.specs.declared.Conflict.TheVariants as conflict
use Rattle.sqlite_sql.specs.Term.{Term, lit, col, eval_all}
use Rattle.sqlite_schema.specs.declared.command.Source.TheVariants.{Values}
use Rattle.sqlite_schema.specs.declared.schema.Column.{Column}
use Rattle.sqlite_schema.specs.declared.schema.Kind.{Kind}
use Rattle.sqlite_schema.specs.declared.schema.Kind.TheVariants as kind
use Rattle.sqlite_schema.specs.declared.schema.Table.{Table}
use Rattle.sqlite_schema.specs.declared.schema.Schema.{Schema}
use Rattle.sqlite_resolve.specs.Compile.{small, new_rows}
use Rattle.sqlite_resolve.specs.Given.{do_update, key_meant}
use Rattle.sqlite_resolve.specs.Terms.{equal}
use Rattle.sqlite_rules.specs.Cast.{cast, cast_all, cast_row}
use Rattle.sqlite_rules.specs.Edit.{id_in, with_rowid}
use Rattle.sqlite_catalog.specs.Listing.{IsSound}
use Rattle.sqlite.specs.Effect.{value_rows}
use Rattle.sqlite.specs.Rows.{shown, stamped}
use Rattle.sqlite.specs.State.{State, Executes}
use Rattle.sql_tables.specs.Rows.{HaveRowids, Lists, columns_at, numbers_from}
use Rattle.sql_tables.specs.Tables.{IsDeclared, numbered_table}
use Rattle.sql_tables.proofs.PutLists.{lists_put}
use Rattle.sql_tables.proofs.Meaning.{IsText, parse_of, rows_in, clause_in, upsert_is, one_upsert}
use Rattle.sql_tables.proofs.OneTable.{Parts, draft_of, is_typed, program_on, program_is}
use Rattle.sql_tables.proofs.RowLists.{rowids_stay}
use Rattle.sql_tables.proofs.Running.{Wrote, Means, upsert_ran}
use Rattle.sql_tables.proofs.Writing.{IsPut}
use Rattle.sqlite_schema.specs.declared.command.Command.TheVariants.{InsertOr}
use Rattle.sqlite_schema.specs.declared.command.Conflict.TheVariants.{Abort}
use Rattle.sqlite_rules.specs.declared.error.Rowids.TheVariants.{Chosen}
use Rattle.sql_tables.proofs.Declaring.{low_tree, classes_are}
use Rattle.sql_tables.proofs.Numbered.{upserts}
use Rattle.sqlite_sql.specs.Ops.{unary}

-- ---- what STRICT leaves as it is

either : (b : Bool) (x : Value) → cond b x x ≡ x
either b x = grind arith

pub cast_null : cast kind.Integer value.Null ≡ value.Null
unfolding unary
cast_null = either _ value.Null

pub cast_int : (n : ℤ) → cast kind.Integer (value.Int n) ≡ value.Int n
unfolding unary
cast_int n = either _ (value.Int n)

-- the columns take these values as they are
abbrev pub fits_kind : Kind → Value → Bool
fits_kind kind.Integer value.Null = true
fits_kind kind.Integer (value.Int n) = true
fits_kind kind.Text (value.Text t) = true
fits_kind kind.Blob (value.Blob b) = true
fits_kind _ _ = false

abbrev pub fits : List Column → Row → Bool
fits [] [] = true
fits (c ∷ cs) (v ∷ vs) = fits_kind c.kind v && fits cs vs
fits _ _ = false

cast_one : (k : Kind) (v : Value) → fits_kind k v ≡ true → cast k v ≡ v
cast_one k v h = grind (arith, h, cast_null, cast_int)

cast_fits : (cs : List Column) (vs : Row) → fits cs vs ≡ true → cast_all cs vs ≡ vs
cast_fits [] [] h = refl
cast_fits (c ∷ cs) (v ∷ vs) h = let both = and_parts _ _ h in rw (cast_one c.kind v both.0, cast_fits cs vs both.1)
cast_fits cs vs h = absurd (true≢false (sym h))

-- a row as its tree keeps it
abbrev pub stored : ℤ → Row → Row
stored id r = value.Int id ∷ value.Null ∷ drop 1 r

-- it stands as it is
pub cast_stored : (name : List ℕ) (columns : List Column) (tree : ℕ) (r : Row) (id : ℤ) → fits columns (drop 1 (stored id r)) ≡ true → cast_row (numbered_table name columns tree) (stored id r) ≡ stored id r
cast_stored name columns tree r id suits = rw (cast_int id, cast_fits columns (drop 1 (stored id r)) suits)

-- the parameters from the second on
abbrev pub later : ℕ → List Term
later n = map (col 0) (drop 1 (numbers_from 0 (replicate n 0)))

module _ (name : List ℕ) (columns : List Column) (own : List ℕ) (text : List ℕ) {X : Type 0} (row : X → Row) (key : X → ℤ) where
  abbrev pub table : ℕ → Table
  table = numbered_table name columns

  abbrev pub width : ℕ
  width = length columns

  abbrev pub given_rows : Rows
  given_rows = rows_in (parse_of text).statement

  abbrev pub on_clash : Upsert
  on_clash = clause_in (parse_of text).statement

  abbrev pub terms : List Term
  terms = col 0 0 ∷ lit value.Null ∷ later width

  abbrev pub project : List Term
  project = col 1 0 ∷ col 1 0 ∷ lit value.Null ∷ later width

  abbrev pub parts : Parts
  parts = record { tests = equal Binary (col 1 0) (col 0 width) ∷ []; project = project; order = [] }

  -- The text puts a row by its first column, which is the rowid, and sets all others if it is there. Each field computes.
  pub record PutsByRowid : Type 0 where
    pub is_text : IsText text (Insert conflict.Abort name [] given_rows (on_clash ∷ []) [])
    pub many : small (parse_of text).names + small [] ≡ width
    pub aims : ((length on_clash.target == 0) ≡ false) × ((length on_clash.sets == 0) ≡ false)
    pub source : (schema : Schema) (tree base : ℕ) → new_rows schema (table tree) base [] given_rows ≡ Ok (Values terms (suc width))
    pub target : (schema : Schema) (tree : ℕ) → key_meant schema (table tree) on_clash.target ≡ Ok (Some (0 ∷ []))
    pub draft : (schema : Schema) (at tree : ℕ) → do_update schema at (table tree) width on_clash ≡ Ok (draft_of tree parts)
    pub typed : (tree : ℕ) → is_typed (table tree) parts [] ≡ true
    pub first : (x : X) → column (row x) 0 ≡ value.Int (key x)
    pub first_shown : (r : Row) → column (columns_at own r) 0 ≡ rowid r
    pub back : (x : X) → columns_at own (stored (key x) (row x)) ≡ row x
    pub suits : (x : X) → fits columns (drop 1 (stored (key x) (row x))) ≡ true
    pub values : (x : X) (tree : ℕ) → value_rows (stamped (table tree) (row x)) (suc width) (length terms / suc width) terms ≡ stored (key x) (row x) ∷ []
    pub asked : (x : X) (rest : Row) → column (row x ++ value.Int (key x) ∷ rest) width ≡ value.Int (key x)
    pub made : (x : X) (rest r : Row) → eval_all project ((row x ++ rest) ∷ r ∷ []) ≡ rowid r ∷ rowid r ∷ drop 1 (stored (key x) (row x))

  module _ (u : PutsByRowid) (schema : Schema) (tree : ℕ) (d : IsDeclared schema (table tree)) where
    means : tree < 65536 → Means schema text (InsertOr d.at Abort (Values terms (suc width)) (record { target = Some (0 ∷ []); update = Some (program_on tree parts) } ∷ []))
    means low =
        upsert_is schema d.at (table tree) d.named d.there refl text given_rows (on_clash ∷ []) width _ _ u.is_text u.many refl (u.source schema tree width)
        (one_upsert schema d.at (table tree) width on_clash (Some (0 ∷ [])) (draft_of tree parts) (program_on tree parts) u.aims.0 u.aims.1 (u.target schema tree) (u.draft schema d.at tree)
        (program_is schema (table tree) (classes_are schema (table tree) d low) parts (u.typed tree)))

    makes : (x : X) (given r : Row) → given ≡ row x ++ value.Int (key x) ∷ shown (table tree) (stored (key x) (row x)) → rowid r ≡ value.Int (key x)
        → (cast_row (table tree) (drop 1 (eval_all project (given ∷ r ∷ []))) ≡ stored (key x) (row x)) × (id_in (rowid (eval_all project (given ∷ r ∷ []))) ≡ key x)
    makes x given r is number =
        let it : eval_all project (given ∷ r ∷ []) ≡ value.Int (key x) ∷ stored (key x) (row x) =
        ap (λ (g : Row). eval_all project (g ∷ r ∷ [])) is ∙ u.made x (value.Int (key x) ∷ shown (table tree) (stored (key x) (row x))) r ∙ ap (λ v. v ∷ v ∷ drop 1 (stored (key x) (row x))) number in
        (ap (λ (r : Row). cast_row (table tree) (drop 1 r)) it ∙ cast_stored name columns tree (row x) (key x) (u.suits x), ap (λ (r : Row). id_in (rowid r)) it)

    pub numbered_puts : (old new : State) (count : ℕ) (x : X) (xs : List X) → old.now.schema ≡ schema → IsSound schema old.now.trees
        → HaveRowids (old.now.trees tree) → Lists row (columns_at own) xs (old.now.trees tree) → Executes text (row x) old new (Ok count)
        → Wrote old new × ((id : ℤ) × (it : Row) × IsPut schema (table tree) it id old.now.trees new.now.trees × Lists row (columns_at own) (x ∷ filter (λ y. not (int_eq (key y) (key x))) xs) (new.now.trees tree) × HaveRowids (new.now.trees tree))
    numbered_puts old new count x xs has sound ids lists h =
        let low = low_tree schema (table tree) d old.now.trees sound in
        let db = old.now.trees in
        let id = key x in
        let it = stored id (row x) in
        let cast = cast_stored name columns tree (row x) id (u.suits x) in
        let chosen = ap (with_rowid Chosen (db tree)) cast in
        let ran = upsert_ran schema d.at (table tree) d.there text (row x) old new count has (Some (0 ∷ [])) (program_on tree parts) terms (suc width) (means low) it it refl (u.values x tree) chosen h in
        let put = upserts schema (table tree) d refl low old.step_limit (row x) width project it cast id refl (u.asked x (shown (table tree) it)) (makes x) db new.now.trees ids ran.1 in (
          ran.0,
          (id, it, put, rw put.rows (lists_put row (columns_at own) key u.first u.first_shown x xs it (db tree) lists (u.back x) refl), rw put.rows (rowids_stay id it refl (db tree) ids)),
        )
