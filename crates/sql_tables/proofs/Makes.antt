-- The text that makes a table, which finds its name free and frees none.
use Rattle.std.proofs.Common.{◌≡◌, ℕ, ◌≤◌, Bool, true, false, nat_lt, if◌then◌else◌, ◌==◌, List, [], ◌∷◌, length, codes, slice_range, Ok, sym, ap, subst, ◌∙◌, arith, MatchBool, Err, Result, refl, ◌+◌}
use Rattle.std.specs.List.{AllByRecursion}
use Rattle.sqlite_trees.specs.Tree.{Trees}
use Rattle.sqlite_trees.proofs.ListLemmas.{all-append, all_both}
use Rattle.sqlite_ast.specs.declared.CreateTable as create
use Rattle.sqlite_ast.specs.declared.Statement.TheVariants.{CreateTable}
use Rattle.sqlite_schema.specs.declared.schema.Schema.{Schema}
use Rattle.sqlite_schema.specs.declared.schema.Table.{Table}
use Rattle.sqlite_schema.specs.Names.{same_name}
use Rattle.sqlite_resolve.specs.Compile.{is_reserved, table_defined_by}
use Rattle.sqlite_resolve.specs.Define as define
use Rattle.sqlite_catalog.specs.Change.{automatics, created, is_used, next_tree}
use Rattle.sqlite_catalog.specs.Listing.{IsSound}
use Rattle.sqlite.proofs.Callers.{statement_of, command_of, runs_as}
use Rattle.sqlite.specs.Does.{lacks_sequence, Tally, MakesTable, sequence_text}
use Rattle.sqlite.specs.Effect.{Database, SparesFrozen}
use Rattle.sqlite.specs.State.{State, ExecutesInside, ExecutesIn, Executes}
use Rattle.sql_tables.specs.Making.{IsForeignTree, IsMaking, KeepsAside, first_created, first_rows, AreFree, FreesNone}
use Rattle.sql_tables.specs.Tables.{counter}
use Rattle.sql_tables.proofs.Creating.{foreign_first, lacks_as_before, rising, rising_first, views_first, is_in_both}
use Rattle.sql_tables.proofs.Frozen.{is_frozen, still_frozen}
use Rattle.sql_tables.proofs.Meaning.{IsText, parse_of, create_is, create_fails}
use Rattle.sql_tables.proofs.Running.{Grows, create_ran, plain_if}
use Rattle.std.proofs.lemmas.Bool.{le-ltb}
use Rattle.sqlite_schema.specs.declared.command.Command.TheVariants.{CreateTable as MakeTable}
use Rattle.sqlite.specs.Rows.{Gives}
use Rattle.sql_tables.proofs.Writing.{went, same_value}

-- the text makes this table
pub record IsMake (text : List ℕ) (table : Table) : Type 0 where
  pub def : create.CreateTable
  pub is_text : IsText text (CreateTable def)
  pub name : def.name ≡ table.name
  pub always : def.if_missing ≡ false
  pub own : is_reserved def.name ≡ false
  pub defined : define.table [] def ≡ Ok table
  pub plain : (length table.computed == length table.stamps.places) ≡ true
  pub unresolved : def.resolves ≡ false
  pub spelled : slice_range text (parse_of text).start (parse_of text).end ≡ text
  pub made : table_defined_by text ≡ Ok table
  pub uncounted : table.is_counted ≡ false
  pub other : same_name table.name (codes "sqlite_sequence") ≡ false

pub none_below : (m n : ℕ) → n ≤ m → nat_lt m n ≡ false
none_below = le-ltb

-- what was kept aside so far is kept by one more statement
kept_aside : (first before : Schema) (rows : Trees) (old new : Database) → ((tree : ℕ) → IsForeignTree first rows tree → IsForeignTree before old.trees tree) → IsSound before old.trees → KeepsAside first rows old.trees → SparesFrozen old new
    → KeepsAside first rows new.trees
kept_aside first before rows old new foreign sound was spares = record {
  rows = λ tree is.
      let frozen = is_frozen before old.trees sound tree (foreign tree is) in
      spares.rows tree (λ e. omega (arith, frozen.0, e)) (λ e. omega (arith, frozen.0, e)) frozen.1 ∙ was.rows tree is;
  texts = λ row has foreign. spares.texts row (was.texts row has foreign) foreign;
  version = spares.version ∙ was.version;
}

-- a new table has no rows, and the others have theirs
kept_with : (first before : Schema) (rows old new : Trees) (table : Table) → next_tree first ≤ next_tree before → AllByRecursion (λ t. old t.tree ≡ first_rows first rows t.tree) before.tables → Grows before old new
    → AllByRecursion (λ t. new t.tree ≡ first_rows first rows t.tree) (created before table).tables
kept_with first before rows old new table later was grows =
    let empty : new (next_tree before) ≡ first_rows first rows (next_tree before) = grows.empty ∙ rw (none_below (next_tree before) (next_tree first) later) in
    let kept = λ (t : Table). new t.tree ≡ first_rows first rows t.tree in
    let was_kept = λ (t : Table). old t.tree ≡ first_rows first rows t.tree in
    let others = all_both was_kept (λ t. new t.tree ≡ old t.tree) kept (λ t is same. same ∙ is) before.tables was grows.others in
    all-append kept before.tables (record table { tree = next_tree before } ∷ []) others (empty, tt)

-- and so has the counter that comes with it
kept_counting : (first before : Schema) (rows old mid new : Trees) (table : Table) (lacks : Bool) → next_tree first ≤ next_tree before → AllByRecursion (λ t. old t.tree ≡ first_rows first rows t.tree) before.tables → Grows before old mid
    → MatchBool lacks (Grows (created before table) mid new) (new ≡ mid) → AllByRecursion (λ t. new t.tree ≡ first_rows first rows t.tree) (if lacks then created (created before table) (counter 0) else created before table).tables
kept_counting first before rows old mid new table true later was grows more =
    let above = rising before table in
    kept_with first (created before table) rows mid new (counter 0) (omega (arith, later, above)) (kept_with first before rows old mid table later was grows) more
kept_counting first before rows old mid new table false later was grows same =
    subst (λ (db : Trees). AllByRecursion (λ t. db t.tree ≡ first_rows first rows t.tree) (created before table).tables) (sym same) (kept_with first before rows old mid table later was grows)

-- a table that is made
pub makes_first : (text : List ℕ) (table : Table) (m : IsMake text table) (committed : Database) (first : Schema) (rows : Trees) (before : Schema) (old new : State) (count : ℕ) → IsMaking committed first rows before old
    → is_used before table.name ≡ false → ExecutesInside 0 text [] old new (Ok count) → IsMaking committed first rows (first_created before table) new
makes_first text table m committed first rows before old new count was free h =
    let means = create_is before text m.def table m.is_text (ap (is_used before) m.name ∙ free) m.own m.defined m.plain m.unresolved in
    let spelled = ap (statement_of text) means ∙ m.spelled in
    let made = create_ran before table text old new count was.schema means spelled m.made (lacks_as_before before table m.uncounted m.other) h.0 in
    let sound = subst (λ s. IsSound s new.now.trees) made.schema made.sound in
    let above = rising_first before table in
    let later = was.later in
    record {
      schema = made.schema;
      sound = sound;
      kept = kept_counting first before rows old.now.trees made.mid new.now.trees table (lacks_sequence before) later was.kept made.grows made.counter;
      foreign = λ tree is. still_frozen before (first_created before table) old.now.trees new.now.trees (views_first before table) was.sound sound made.frozen.texts tree (foreign_first before table old.now.trees tree (was.foreign tree is));
      aside = kept_aside first before rows old.now new.now was.foreign was.sound was.aside made.frozen;
      later = omega (arith, above, later);
      inside = made.shown.mode ∙ was.inside;
      over = (rw was.inside at made.shown.committed_is) ∙ was.over;
    }

-- ---- the name was free, and none is freed

free_before : (s : Schema) (table : Table) (name : List ℕ) → is_used (created s table) name ≡ false → is_used s name ≡ false
free_before s table name free =
    let new : Table = record table { tree = next_tree s } in
    let tables = is_in_both (λ t. same_name t.name name) s.tables (new ∷ []) 0 in
    grind (arith, tables, is_in_both (λ i. same_name i.name name) s.indexes (automatics new 0 (next_tree s + 1) table.uniques) 0)

statement_free : (text : List ℕ) (table : Table) (m : IsMake text table) (old new : State) (count : ℕ) → Executes text [] old new (Ok count) → is_used old.now.schema table.name ≡ false
unfolding ExecutesIn
statement_free text table m old new count h = grind (arith, h.1.is, m.name, create_fails old.now.schema text m.def m.is_text m.always)

sequence_frees_none : (b : Bool) (mid after : Database) → MatchBool b (MakesTable sequence_text mid (Ok after)) (Gives mid (Ok after)) → (name : List ℕ) → is_used after.schema name ≡ false → is_used mid.schema name ≡ false
sequence_frees_none true mid after h name free = free_before mid.schema h.table name (subst (λ s. is_used s name ≡ false) h.is free)
sequence_frees_none false mid after h name free = subst (λ (d : Database). is_used d.schema name ≡ false) (same_value h) free

pub takes : (text : List ℕ) (table : Table) (m : IsMake text table) (old new : State) (count : ℕ) → ExecutesInside 0 text [] old new (Ok count) → AreFree (table.name ∷ []) old × FreesNone old new
takes text table m old new count h =
    let schema = old.now.schema in
    let free = statement_free text table m old new count h.0 in
    let means = create_is schema text m.def table m.is_text (ap (is_used schema) m.name ∙ free) m.own m.defined m.plain m.unresolved in
    let w = runs_as text [] old new schema refl MakeTable (ap command_of means) (plain_if schema text MakeTable means) count h.0 in
    let all = went w.changed in
    let first = went all.1 in
    let now : new.now ≡ all.0 = ap (λ (p : Tally × Database). p.1) (same_value all.2) in (
      (free, tt),
      λ name unused.
          let late = subst (λ (d : Database). is_used d.schema name ≡ false) now unused in
          let mid = sequence_frees_none (lacks_sequence first.0.schema) first.0 all.0 first.2 name late in
          free_before schema first.1.table name (subst (λ s. is_used s name ≡ false) first.1.is mid),
    )

-- a statement that ran did so within its transaction
pub within : {X E R : Type 0} {x : X} {e : E} (inside : Bool) → (inside ≡ false → (◌≡◌ {A = Result X E} (Ok x) (Err e)) × R) → inside ≡ true
within true ended = refl
within false ended = absurd (let none = (ended refl).0 in cc)
